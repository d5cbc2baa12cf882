use Rattle.compiled_run.proofs.SameRuns.{same_run, still_lasts, still_spent}
use Rattle.compiled_run.proofs.work.CompiledRunLeavesWork.try_settle.Goals as goal

pub returns-clause-same : goal.returns-clause-same
returns-clause-same c = same_run c.args.self.now c.try_settle.new.self c.try_settle.ensures.same

pub returns-clause-lasts : goal.returns-clause-lasts
returns-clause-lasts c = still_lasts c.args.self.now c.try_settle.new.self c.try_settle.ensures.same

pub returns-clause-spent : goal.returns-clause-spent
returns-clause-spent c = still_spent c.args.self.now c.try_settle.new.self c.try_settle.ensures.same
