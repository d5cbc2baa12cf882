use Rattle.std.proofs.Common.{Some, sym, ap, ◌∙◌}
use Rattle.std.specs.Prelude.{option_map}
use Rattle.source_model.specs.Waits.{waits_for}
use Rattle.code_machine.specs.Queries.{waiting_of as code_waiting_of}
use Rattle.code_machine.specs.Seen.{words_of}
use Rattle.compiled_run.proofs.Asking.{given, not_over, waiting_is}
use Rattle.compiled_run.proofs.machine.CompiledRunMachine.waits.Goals as goal

pub returns : goal.returns
returns c = λ asks texts limits moves h going.
    given (λ x. waits_for x.world c.args.slot) texts limits moves h.world h.ran
    ∙ ap Some (waiting_is texts limits moves _ _ _ h c.code_moves_as_the_source_machine.ensures.waits
    (not_over texts limits moves h.world h.ran going) c.args.slot _ (c.waits.ensures (asks.none c.args.slot) texts h.machine_is)
    ∙ ap (λ image. option_map (code_waiting_of (words_of image)) c.waits.result) (sym c.image.ensures) ∙ sym c.awaited.ensures)
