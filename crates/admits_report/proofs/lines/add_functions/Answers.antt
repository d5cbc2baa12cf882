use Rattle.std.proofs.Common.{append-nil, sym}
use Rattle.admits_report.specs.AdmitsText.{block_text}
use Rattle.admits_report.specs.Shown.{block_of}
use Rattle.admits_report.proofs.Adding.{shown_more, shown_all}
use Rattle.admits_report.proofs.lines.add_functions.Goals as goal

pub loop-function-init : goal.loop-function-init
loop-function-init c = sym (append-nil _)

pub loop-function-preserved : goal.loop-function-preserved
loop-function-preserved c =
    shown_more (block_text c.args.lines.now.text.now) (block_of c.args.names.now) _ _ _ c.args.functions.now c.loop-function.function-index c.function-item.result
    c.loop-function-test.true c.function-item.is c.loop-function.invariant c.in_ok-add_function.ensures

pub returns : goal.returns
returns c =
    shown_all (block_text c.args.lines.now.text.now) (block_of c.args.names.now) _ _ c.args.functions.now c.loop-function.function-index c.loop-function-test.false
    c.loop-function.invariant
