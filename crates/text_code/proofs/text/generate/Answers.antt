use Rattle.resolved_tree.specs.Trees.{table}
use Rattle.text_code.proofs.Outlining.{coded_by_text}
use Rattle.text_code.proofs.text.generate.Goals as goal

pub returns : goal.returns
returns c = coded_by_text (table c.args.trees.now) _ c.args.text.now c.args.outlines.now c.bodies.result c.in_ok-known.ensures c.bodies.ensures
