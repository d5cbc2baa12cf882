use Rattle.std.proofs.Common.{◌≡◌, Some, ap, subst, ◌∙◌}
use Rattle.std.specs.Prelude.{slice_get}
use Rattle.std.specs.Option.{option_flatten}
use Rattle.word_frames.specs.declared.frame.Frame.{Frame}
use Rattle.code_machine.specs.declared.running.Next.TheVariants.{Stands}
use Rattle.code_machine.proofs.AskedThreads.{none_traps, stop_or_none}
use Rattle.code_machine.proofs.running.Running.next_stop.Goals as goal

pub returns-in-Rests : goal.returns-in-Rests
returns-in-Rests c = λ settled all versions runs w slot lives.
    let image = c.args.image.now in
    let g = c.function.result.now in
    stop_or_none image c.args.self.now c.requires w slot lives all versions runs g
    (subst (λ (f : Frame). slice_get image.functions.items f.unit ≡ Some g) c.innermost-frame.ensures c.function.ensures)
    (c.in-Stands.is ∙ ap Stands c.in-Rests.is)
    c.copied.result
    (subst (λ (f : Frame). c.copied.result ≡ option_flatten (slice_get g.stops.items f.place)) c.innermost-frame.ensures
    (c.copied.ensures ∙ c.stop_at.ensures))

pub returns-in-Traps : goal.returns-in-Traps
returns-in-Traps c = λ settled all versions runs w slot lives.
    none_traps c.args.image.now c.args.self.now c.requires w slot lives all versions runs c.in-Traps.field-0 (c.in-Stands.is ∙ ap Stands c.in-Traps.is)
