use Rattle.std.proofs.Common.{arith, refl}
use Rattle.gen_job.proofs.Unmarking.{unmarked_all}
use Rattle.gen_job.proofs.summary.add_unmarked.Goals as goal

pub loop-byte-init : goal.loop-byte-init
loop-byte-init c = (refl, omega arith)

pub returns : goal.returns
returns c = unmarked_all _ _ c.args.report.now c.loop-byte.byte-index c.loop-byte.column c.loop-byte-test.false c.loop-byte.invariant.0
