use Rattle.local_evaluation.specs.declared.piece.Piece.TheVariants.{Close}
use Rattle.resolved_tree.specs.Trees.{table}
use Rattle.local_evaluation.proofs.step.step.Goals as goal

pub returns-in-Close : goal.returns-in-Close
returns-in-Close c = rw c.in-Close.is (c.close.ensures (table c.args.trees.now) Close)
