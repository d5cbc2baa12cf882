use Rattle.resolved_tree.specs.Trees.{table}
use Rattle.text_code.proofs.Outlining.{outlined_by_text}
use Rattle.text_code.proofs.text.resolve.Goals as goal

pub returns-clause-outlines : goal.returns-clause-outlines
returns-clause-outlines c =
    outlined_by_text (table c.outlines.new.trees) _ c.args.text.now c.outlines.result c.in_ok-known.ensures c.outlines.ensures.outlines
