use Rattle.std.proofs.Common.{Some, sym, ap, ◌∙◌}
use Rattle.source_runner.specs.States.{ending_of}
use Rattle.compiled_run.proofs.Asking.{given}
use Rattle.compiled_run.proofs.machine.CompiledRunMachine.ending.Goals as goal

pub returns : goal.returns
returns c = λ texts limits moves h.
    given (λ x. ending_of x.world.finish) texts limits moves h.world h.ran
    ∙ ap Some (ap ending_of (sym h.stands.matches.finish ∙ sym c.finish.ensures) ∙ sym c.ending.ensures)
