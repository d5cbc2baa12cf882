use Rattle.compiled_run.proofs.SameRuns.{works}
use Rattle.compiled_run.proofs.work.CompiledRunLeavesWork.work.Goals as goal

pub returns : goal.returns
returns c = record { works = works c.args.self.now c.work.result c.work.ensures }
