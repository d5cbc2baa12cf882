use Rattle.compiled_run.proofs.SameRuns.{works_still}
use Rattle.compiled_run.proofs.work.CompiledRunLeavesWork.hand_out.Goals as goal

pub returns : goal.returns
returns c = record { works = works_still c.args.work.now c.hand_out.new.work c.hand_out.ensures.image }
