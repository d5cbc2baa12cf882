use Rattle.std.proofs.Common.{Some, is_some, sym, ap, ◌∙◌}
use Rattle.source_model.specs.Runs.{can_move}
use Rattle.code_machine.specs.Seen.{finish_of}
use Rattle.std.specs.Prelude.{option_map}
use Rattle.compiled_run.proofs.Asking.{can_move_is, dead_stays, ended_stays, given, map_some, none_if}
use Rattle.compiled_run.proofs.machine.CompiledRunMachine.can_move.Goals as goal

pub returns-then-is_some : goal.returns-then-is_some
returns-then-is_some c = λ asks texts limits moves h.
    let laws = c.code_moves_as_the_source_machine.ensures in
    given (λ x. can_move x.world c.args.slot) texts limits moves h.world h.ran
    ∙ ap Some (ended_stays texts limits moves _ _ _ h laws.stays laws.waits c.args.slot
    (ap is_some (sym c.finish.ensures) ∙ map_some finish_of c.finish.result ∙ sym c.is_some.ensures ∙ c.if-is_some.true))

pub returns-then-not-is_live : goal.returns-then-not-is_live
returns-then-not-is_live c = λ asks texts limits moves h.
    let laws = c.code_moves_as_the_source_machine.ensures in
    given (λ x. can_move x.world c.args.slot) texts limits moves h.world h.ran
    ∙ ap Some (dead_stays texts limits moves _ _ _ h laws.stays laws.waits c.args.slot
    (sym c.is_live.ensures ∙ c.if-not-is_live.true))

pub returns : goal.returns
returns c = λ asks texts limits moves h.
    let laws = c.code_moves_as_the_source_machine.ensures in
    given (λ x. can_move x.world c.args.slot) texts limits moves h.world h.ran
    ∙ ap Some (can_move_is texts limits moves _ _ _ h laws.stays laws.waits c.args.slot
    (sym c.finish.ensures ∙ ap (option_map finish_of) (none_if c.finish.result (sym c.is_some.ensures ∙ c.if-is_some.false)))
    (sym c.is_live.ensures ∙ c.if-not-is_live.false) c.is_held.result (c.is_held.ensures (asks.none c.args.slot) texts h.machine_is))
