use Rattle.std.proofs.Common.{List, length, sym, ap, ◌∙◌}
use Rattle.std.specs.Prelude.{option_map, slice_get}
use Rattle.word_frames.specs.declared.frame.Frame.{Frame}
use Rattle.word_frames.specs.Seen.{frames_below}
use Rattle.code_machine.specs.Queries.{frames_in, place_of}
use Rattle.code_machine.specs.Seen.{image_of, words_of}
use Rattle.code_machine.proofs.AskedThreads.{place_up_is}
use Rattle.code_machine.proofs.machine.CodeMachine.frame_up.Goals as goal

pub returns-in-Some : goal.returns-in-Some
returns-in-Some c =
    let there = c.in-Some.ensures in
    let r = c.in-Some.running.now in
    let t = words_of (image_of c.args.self.now) in
    c.place_up.ensures t r.frames.highest_stack r.frames.words.items
    ∙ ap (λ (fs : List Frame). option_map place_of (slice_get (frames_below t r.frames.highest_stack r.frames.words.items fs (length fs)) c.args.up)) c.as_slice.ensures.value
    ∙ sym (ap (λ x. option_map place_of (slice_get (frames_in x) c.args.up)) there.lives
    ∙ place_up_is (image_of c.args.self.now) r there.fits c.args.up)
