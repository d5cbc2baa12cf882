use Rattle.std.proofs.Common.{ℕ, List, length, refl, ap, ◌∙◌, arith}
use Rattle.std.proofs.lemmas.List.{with_items_is}
use Rattle.thread_state.specs.Frames.{state_at}
use Rattle.word_frames.specs.declared.frame.Frame.{Frame}
use Rattle.word_frames.specs.Blocks.{room}
use Rattle.word_frames.specs.Seen.{innermost}
use Rattle.word_frames.proofs.FrameLists.{room_is}
use Rattle.code_machine.proofs.running.Running.hand_out.Goals as goal

pub copy_out-requires-clause-space : goal.copy_out-requires-clause-space
copy_out-requires-clause-space c =
    let long = ap (λ (xs : List ℕ). length xs) c.deref_mut.ensures.value in
    omega (arith, room_is, long, c.args.work.now.first)

pub returns-clause-given : goal.returns-clause-given
returns-clause-given c = λ due.
    let before = c.args.work.now.before in
    let row = with_items_is before c.copy_out.new.row (omega (arith, c.copy_out.ensures.long, c.deref_mut.ensures.len, before.ok.0)) in
    record {
      due = refl;
      unit = ap (λ (f : Frame). f.unit) c.innermost-frame.ensures;
      place = ap (λ (f : Frame). f.place) c.innermost-frame.ensures;
      height = ap (λ (f : Frame). f.height) c.innermost-frame.ensures;
      words = λ place.
          ap (λ (xs : List ℕ). state_at xs 0 room place (innermost c.args.self.now.frames).height) row
          ∙ c.copy_out.ensures.copied place;
    }
