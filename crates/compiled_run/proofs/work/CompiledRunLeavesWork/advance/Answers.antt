use Rattle.compiled_run.proofs.SameRuns.{works_still}
use Rattle.compiled_run.proofs.work.CompiledRunLeavesWork.advance.Goals as goal

pub returns : goal.returns
returns c = record { works = works_still c.args.work.now c.advance.new.self c.advance.ensures.image }
