use Rattle.std.proofs.Common.{append-nil, sym}
use Rattle.admits_report.specs.AdmitsText.{line_text}
use Rattle.admits_report.specs.Shown.{line_of}
use Rattle.admits_report.proofs.Adding.{shown_more, shown_all}
use Rattle.admits_report.proofs.lines.add_lines.Goals as goal

pub loop-line-init : goal.loop-line-init
loop-line-init c = sym (append-nil _)

pub loop-line-preserved : goal.loop-line-preserved
loop-line-preserved c =
    shown_more (line_text c.args.lines.now.text.now) (line_of c.args.names.now) _ _ _ c.args.check_ins.now c.loop-line.line-index c.line-item.result
    c.loop-line-test.true c.line-item.is c.loop-line.invariant c.in_ok-add_line.ensures

pub returns : goal.returns
returns c =
    shown_all (line_text c.args.lines.now.text.now) (line_of c.args.names.now) _ _ c.args.check_ins.now c.loop-line.line-index c.loop-line-test.false
    c.loop-line.invariant
