use Rattle.std.proofs.Common.{◌∙◌}
use Rattle.effects_report.proofs.OrderedTable.{ordered_more}
use Rattle.effects_report.proofs.table.table_of.Goals as goal

pub loop-text-preserved : goal.loop-text-preserved
loop-text-preserved c =
    c.in-Ok.ensures.texts
    ∙ ordered_more c.args.texts.now c.loop-text.names c.loop-text.text-index c.text-item.result c.as_str.result.now
    c.loop-text-test.true c.text-item.is c.as_str.ensures.value c.requires.ascend c.loop-text.invariant
