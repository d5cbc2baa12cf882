use Rattle.std.proofs.Common.{append-nil, map, sym}
use Rattle.c_tree.specs.Bare.{bare_def}
use Rattle.changes_report.specs.Shown.{change_text}
use Rattle.changes_report.proofs.Adding.{items_more, items_all}
use Rattle.changes_report.proofs.transforms.add_changes.Goals as goal

pub loop-change-init : goal.loop-change-init
loop-change-init c = sym (append-nil _)

pub loop-change-preserved : goal.loop-change-preserved
loop-change-preserved c =
    items_more (change_text (map bare_def c.args.known.now)) _ _ _ c.args.changes.now c.loop-change.change-index c.change-item.result
    c.loop-change-test.true c.change-item.is c.loop-change.invariant c.in_ok-add_change.ensures

pub returns : goal.returns
returns c =
    items_all (change_text (map bare_def c.args.known.now)) _ _ c.args.changes.now c.loop-change.change-index c.loop-change-test.false
    c.loop-change.invariant
