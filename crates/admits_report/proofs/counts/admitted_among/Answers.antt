use Rattle.std.proofs.Common.{◌+◌, map, ap, ◌∙◌, arith}
use Rattle.std.specs.Prelude.{count_by}
use Rattle.std.specs.Option.{is_none}
use Rattle.std.proofs.lemmas.List.{take_all}
use Rattle.admits_report.specs.Shown.{ids_of_line}
use Rattle.admits_report.proofs.Counted.{count_more}
use Rattle.admits_report.proofs.counts.admitted_among.Goals as goal

pub loop-line-preserved : goal.loop-line-preserved
loop-line-preserved c = (
  count_more is_none ids_of_line c.args.lines.now c.loop-line.line-index c.line-item.result c.loop-line.admitted _ c.loop-line-test.true c.line-item.is c.loop-line.invariant.0
      (ap (λ n. c.loop-line.admitted + n) c.admitted_by-admitted.ensures.many),
  omega (arith, c.loop-line.invariant.1, c.admitted_by-admitted.ensures.few),
)

pub returns-clause-many : goal.returns-clause-many
returns-clause-many c =
    c.loop-line.invariant.0
    ∙ ap (λ lines. count_by is_none (map ids_of_line lines)) (take_all c.loop-line.line-index c.args.lines.now c.loop-line-test.false)
