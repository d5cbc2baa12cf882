use Rattle.std.proofs.Common.{Some, sym, ap, ◌∙◌}
use Rattle.std.specs.Prelude.{option_map}
use Rattle.source_model.specs.Worlds.{in_slot}
use Rattle.source_runner.specs.Queries.{place_up_in}
use Rattle.code_machine.specs.Seen.{image_of, words_of}
use Rattle.compiled_run.specs.Compiled.{seen_place}
use Rattle.compiled_run.proofs.Asking.{given, not_over, place_is}
use Rattle.compiled_run.proofs.SlotsAlike.{twice}
use Rattle.compiled_run.proofs.machine.CompiledRunMachine.frame_up.Goals as goal

pub returns : goal.returns
returns c = λ texts limits moves h going.
    given (λ x. place_up_in c.args.up (in_slot x.world c.args.slot)) texts limits moves h.world h.ran
    ∙ ap Some (place_is texts limits moves _ _ _ h (not_over texts limits moves h.world h.ran going) c.args.up c.args.slot
    ∙ twice _ ∙ sym (c.frame_at.ensures (words_of (image_of c.args.self.now.machine)) ∙ ap (option_map seen_place) c.frame_up.ensures))
