use Rattle.compiled_run.proofs.SameRuns.{code_is, same_run, still_lasts, still_spent}
use Rattle.compiled_run.proofs.work.CompiledRunLeavesWork.take_back.Goals as goal

pub take_back-requires : goal.take_back-requires
take_back-requires c = code_is c.args.self.now c.args.work.now c.requires

pub returns-clause-same : goal.returns-clause-same
returns-clause-same c = same_run c.args.self.now c.take_back.new.self c.take_back.ensures.same

pub returns-clause-lasts : goal.returns-clause-lasts
returns-clause-lasts c = still_lasts c.args.self.now c.take_back.new.self c.take_back.ensures.same

pub returns-clause-spent : goal.returns-clause-spent
returns-clause-spent c = still_spent c.args.self.now c.take_back.new.self c.take_back.ensures.same
