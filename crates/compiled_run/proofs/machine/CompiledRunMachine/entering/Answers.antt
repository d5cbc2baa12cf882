use Rattle.std.proofs.Common.{Some, sym, ap, ◌∙◌}
use Rattle.source_model.specs.Worlds.{in_slot}
use Rattle.source_runner.specs.Queries.{entering_in}
use Rattle.compiled_run.proofs.Asking.{entering_is, given, not_over}
use Rattle.compiled_run.proofs.machine.CompiledRunMachine.entering.Goals as goal

pub returns : goal.returns
returns c = λ texts limits moves h going.
    given (λ x. entering_in (in_slot x.world c.args.slot)) texts limits moves h.world h.ran
    ∙ ap Some (entering_is texts limits moves _ _ _ h (not_over texts limits moves h.world h.ran going) c.args.slot ∙ sym c.entering.ensures)
