use Rattle.std.proofs.Common.{append-nil, sym}
use Rattle.changes_report.specs.ChangesText.{name_line}
use Rattle.changes_report.proofs.Adding.{items_more, items_all}
use Rattle.changes_report.proofs.lines.add_names.Goals as goal

pub loop-name-init : goal.loop-name-init
loop-name-init c = sym (append-nil _)

pub loop-name-preserved : goal.loop-name-preserved
loop-name-preserved c =
    items_more (name_line c.args.word.now) _ _ _ c.args.names.now c.loop-name.name-index c.name-item.result c.loop-name-test.true
    c.name-item.is c.loop-name.invariant c.in_ok-add_name.ensures

pub returns : goal.returns
returns c = items_all (name_line c.args.word.now) _ _ c.args.names.now c.loop-name.name-index c.loop-name-test.false c.loop-name.invariant
