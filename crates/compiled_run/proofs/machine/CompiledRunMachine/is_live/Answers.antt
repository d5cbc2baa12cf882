use Rattle.std.proofs.Common.{Some, sym, ap, ◌∙◌}
use Rattle.source_model.specs.Runs.{is_live}
use Rattle.source_model.specs.Worlds.{in_slot}
use Rattle.compiled_run.proofs.Asking.{given, live_is}
use Rattle.compiled_run.proofs.machine.CompiledRunMachine.is_live.Goals as goal

pub returns : goal.returns
returns c = λ texts limits moves h.
    given (λ x. is_live (in_slot x.world c.args.slot)) texts limits moves h.world h.ran
    ∙ ap Some (live_is texts limits moves _ _ _ h c.args.slot ∙ sym c.is_live.ensures)
