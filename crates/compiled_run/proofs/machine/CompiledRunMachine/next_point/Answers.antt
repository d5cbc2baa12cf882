use Rattle.std.proofs.Common.{Some, ap, ◌∙◌}
use Rattle.source_model.specs.Worlds.{in_slot}
use Rattle.source_runner.specs.Queries.{next_point_in}
use Rattle.compiled_run.proofs.Asking.{given, next_point_is, no_next_point, not_over}
use Rattle.compiled_run.proofs.machine.CompiledRunMachine.next_point.Goals as goal

pub returns-in-Some : goal.returns-in-Some
returns-in-Some c = λ asks texts limits moves h going.
    given (λ x. next_point_in (in_slot x.world c.args.slot)) texts limits moves h.world h.ran
    ∙ ap Some (next_point_is texts limits moves _ _ _ h (not_over texts limits moves h.world h.ran going) c.args.slot c.in-Some.next
    (c.in-Some.ensures (asks.none c.args.slot) texts h.machine_is))

pub returns-in-None : goal.returns-in-None
returns-in-None c = λ asks texts limits moves h going.
    given (λ x. next_point_in (in_slot x.world c.args.slot)) texts limits moves h.world h.ran
    ∙ ap Some (no_next_point texts limits moves _ _ _ h (not_over texts limits moves h.world h.ran going) c.args.slot
    (c.in-None.ensures (asks.none c.args.slot) texts h.machine_is))
