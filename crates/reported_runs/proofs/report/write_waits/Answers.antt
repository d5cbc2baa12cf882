use Rattle.std.proofs.Common.{arith, length}
use Rattle.std.proofs.lemmas.Result.{err_from_is_err_and}
use Rattle.dsu_report.proofs.Lines.{line_front, line_more}
use Rattle.job_answers.specs.Reports.{wait_in}
use Rattle.reported_runs.proofs.report.write_waits.Goals as goal

pub returns-in_err-write_wait_in-clause-bytes : goal.returns-in_err-write_wait_in-clause-bytes
returns-in_err-write_wait_in-clause-bytes g c = λ asks setup x at same.
    let p = err_from_is_err_and c.from_residual.result c.from_residual.ensures.1 in
    rw p.1 (line_front _ _ _ (wait_in x.world) c.loop-slot.slot (length x.world.slots)
    (omega (arith, c.loop-slot-test.true, c.slots-slot-end.ensures setup x at, same))
    (c.loop-slot.invariant.lines asks setup x at) (c.in_err-write_wait_in.ensures.bytes asks setup x at))

pub loop-slot-preserved : goal.loop-slot-preserved
loop-slot-preserved g c = record {
  lines = λ asks setup x at.
      line_more _ _ _ (wait_in x.world) c.loop-slot.slot (c.loop-slot.invariant.lines asks setup x at) (c.in_ok-write_wait_in.ensures.bytes asks setup x at);
  later = omega (arith, c.loop-slot.invariant.later, c.in_ok-write_wait_in.ensures.cause.later);
}
