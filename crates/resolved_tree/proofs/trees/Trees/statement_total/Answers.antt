use Rattle.resolved_tree.specs.Nodes.{statements_at}
use Rattle.resolved_tree.specs.Trees.{table}
use Rattle.resolved_tree.proofs.Sizes.{transaction_count}
use Rattle.resolved_tree.proofs.trees.Trees.statement_total.Goals as goal

pub returns-in-Transaction : goal.returns-in-Transaction
returns-in-Transaction c =
    rw c.in-Transaction.is
    (transaction_count (statements_at (table c.args.self.now) c.in-Transaction.ss) c.statements_points-in-Transaction.result c.statements_points-in-Transaction.ensures)
