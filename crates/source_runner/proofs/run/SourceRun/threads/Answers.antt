use Rattle.std.proofs.Common.{Some, ap, ◌∙◌}
use Rattle.source_runner.proofs.Running.{given}
use Rattle.source_runner.proofs.run.SourceRun.threads.Goals as goal

pub returns : goal.returns
returns c = λ texts limits moves h. given (λ x. x.world.threads) texts limits moves _ h ∙ ap Some h.stands.all.threads
