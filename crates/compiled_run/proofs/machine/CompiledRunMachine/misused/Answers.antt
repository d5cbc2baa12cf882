use Rattle.std.proofs.Common.{Some, ap, ◌∙◌}
use Rattle.compiled_run.proofs.Asking.{given}
use Rattle.compiled_run.proofs.machine.CompiledRunMachine.misused.Goals as goal

pub returns : goal.returns
returns c = λ texts limits moves h. given (λ x. x.misused) texts limits moves h.world h.ran ∙ ap Some h.stands.matches.used_well
