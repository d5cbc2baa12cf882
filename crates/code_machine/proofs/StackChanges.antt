-- A change of words from the stack of the innermost frame on.
use Rattle.std.proofs.Common.{◌≡◌, ℕ, suc, ◌-◌, ◌<◌, List, ◌∷◌, length, refl, sym, ap, ◌∙◌, arith}
use Rattle.std.specs.Prelude.{slice_index, slice_index_or}
use Rattle.resolved_tree.specs.Nodes.{Table}
use Rattle.thread_state.specs.Frames.{downward, upward}
use Rattle.thread_state.proofs.FrameWords.{same_upward}
use Rattle.code_runs.specs.CodeThreads.{CodeFrame}
use Rattle.word_frames.specs.declared.frame.Frame.{Frame}
use Rattle.word_frames.specs.declared.frames.Frames.{Frames}
use Rattle.word_frames.specs.Blocks.{base_of, low_of, room}
use Rattle.word_frames.specs.Laws.{StackChanged, with_stack}
use Rattle.word_frames.specs.Seen.{IsKept, depth_of, frame_of, frames_below, innermost, no_frame, stack_base, stack_of}
use Rattle.word_frames.proofs.FrameLists.{Replaces, innermost_first, replaced, room_is}

-- a frame with other words of its variables
abbrev with_locals : List ℕ → CodeFrame → CodeFrame
with_locals ls f = record f { state = record f.state { locals = ls } }

-- its variables and the frames that wait stay as they are, whatever words after its stack's beginning changed
pub stack_changed : (t : Table) (old new : Frames) → IsKept old → 0 < depth_of old → new.highest_stack ≡ old.highest_stack → new.frames.items ≡ old.frames.items
    → ((i : ℕ) → i < stack_base old → slice_index new.words.items i ≡ slice_index old.words.items i) → StackChanged t old new
stack_changed t old new kept some high frames before =
    let n = depth_of old - 1 in
    let k = old.highest_stack in
    let f = innermost old in
    let long : length old.frames.items ≡ suc (depth_of old - 1) = omega arith in
    let made : Replaces old.frames.items new.frames.items (depth_of old - 1) (innermost old) =
    rw frames record { long = long; last = refl; others = λ i p. refl } in
    let locals : upward new.words.items (base_of k n) room ≡ upward old.words.items (base_of k n) room =
    same_upward new.words.items old.words.items (base_of k n) room (λ i p q. before i (omega arith)) in
    let same : ◌≡◌ {A = Frame} (innermost new) (innermost old) = ap (λ (fs : List Frame). slice_index_or fs (length fs - 1) no_frame) frames in
    let deep : depth_of new - 1 ≡ depth_of old - 1 = ap (λ (fs : List Frame). length fs - 1) frames in
    let stack : stack_of new (innermost new).height ≡ downward new.words.items (low_of k n) f.height =
    ap (λ (g : Frame). stack_of new g.height) same
    ∙ ap (λ (m : ℕ). downward new.words.items (low_of new.highest_stack m) f.height) deep
    ∙ ap (λ (m : ℕ). downward new.words.items (low_of m (depth_of old - 1)) f.height) high in
    let here : frame_of t k new.words.items n f ≡ with_stack (stack_of new (innermost new).height) (frame_of t k old.words.items n f) =
    ap (λ (ls : List ℕ). with_locals ls (frame_of t k new.words.items n f)) locals
    ∙ ap (λ (ws : List ℕ). with_stack ws (frame_of t k old.words.items n f)) (sym stack) in
    record {
      frame = frame_of t k old.words.items n f;
      below = frames_below t k old.words.items old.frames.items n;
      before = innermost_first t k old.words.items old.frames.items (depth_of old) some;
      after =
          ap (λ (m : ℕ). frames_below t m new.words.items new.frames.items (depth_of new)) high
          ∙ replaced t k new.words.items old.words.items made (λ i p. kept.low i (omega arith)) (λ i p. before i (omega (arith, room_is)))
          ∙ ap (λ (x : CodeFrame). x ∷ frames_below t k old.words.items old.frames.items n) here;
    }
