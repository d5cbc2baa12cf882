use Rattle.std.proofs.Common.{◌≡◌, ℕ, List, length, ap, subst, ◌∙◌, arith}
use Rattle.thread_state.specs.Frames.{state_at}
use Rattle.word_frames.specs.declared.frame.Frame.{Frame}
use Rattle.word_frames.specs.Blocks.{room}
use Rattle.word_frames.specs.Seen.{innermost, innermost_state}
use Rattle.word_frames.proofs.FrameLists.{room_is}
use Rattle.code_machine.specs.Copies.{IsNamesake, work_image}
use Rattle.code_machine.proofs.work.Work.end_for.Goals as goal

pub is_copied-requires-clause-space : goal.is_copied-requires-clause-space
is_copied-requires-clause-space c =
    let long = ap (λ (xs : List ℕ). length xs) c.as_slice.ensures.value in
    omega (arith, room_is, long, c.args.self.now.first)

pub returns : goal.returns
returns c =
    let w = c.args.self.now in
    let s = c.args.frames.now in
    record {
      done = c.in-Done.is;
      function = subst (λ (f : Frame). IsNamesake (work_image w) w.from.unit c.args.image.now f.unit) c.innermost-frame.ensures (c.is_namesake.ensures c.if-not-is_namesake.false);
      place = c.if-self-frame.false ∙ ap (λ (f : Frame). f.place) c.innermost-frame.ensures;
      height = c.if-self-frame-2.false ∙ ap (λ (f : Frame). f.height) c.innermost-frame.ensures;
      words =
          subst (λ (xs : List ℕ). (place : ℕ) → state_at xs 0 room place (innermost s).height ≡ innermost_state s place (innermost s).height) c.as_slice.ensures.value
          (c.is_copied.ensures c.if-not-is_copied.false);
    }
