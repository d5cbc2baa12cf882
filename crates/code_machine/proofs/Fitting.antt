-- Frames fit their functions after a change.
use Rattle.std.proofs.Common.{◌≡◌, inl, inr, ℕ, ◌-◌, ◌<◌, List, ◌∷◌, drop, Some, refl, sym, ap, ◌∙◌, arith}
use Rattle.std.specs.Prelude.{slice_index_or}
use Rattle.std.proofs.lemmas.Bool.{cases_eq}
use Rattle.resolved_tree.specs.Nodes.{Table}
use Rattle.bytecode.specs.Meaning.{Step, Traps, Rests, Goes, Lost}
use Rattle.thread_state.specs.declared.steps.End.{End}
use Rattle.thread_state.specs.declared.steps.End.TheVariants.{Rests as RestsThere, Traps as TrapsThere}
use Rattle.thread_state.specs.Turns.{ended}
use Rattle.code_runs.specs.CodeThreads.{CodeFrame}
use Rattle.word_frames.specs.declared.frame.Frame.{Frame}
use Rattle.word_frames.specs.declared.frames.Frames.{Frames}
use Rattle.word_frames.specs.Seen.{depth_of, frame_at, frame_of, frames_below, frames_of, innermost, no_frame}
use Rattle.word_frames.specs.Changes.{with_innermost}
use Rattle.word_frames.proofs.FrameLists.{Replaces, innermost_first}
use Rattle.word_frames.proofs.FrameCalls.{changed_innermost}
use Rattle.code_image.specs.declared.function.CodeFunction.{CodeFunction}
use Rattle.code_machine.specs.Kept.{IsFrame, Wait, end_of}
use Rattle.code_machine.specs.Seen as seen

-- a frame elsewhere in its code
abbrev pub moved : Frame → ℕ → ℕ → ℕ → Frame
moved f point place height = record f { point = point; place = place; height = height }

pub frame_moved : (functions : List CodeFunction) (f : Frame) (point place height : ℕ) → IsFrame functions f → IsFrame functions (moved f point place height)
frame_moved functions f point place height is = record { inside = is.inside; function = is.function }

-- how a burst ended
pub end_is : (end : End) → end_of (ended end) ≡ Some end
end_is RestsThere = refl
end_is (TrapsThere kind) = refl

pub rests_is : (s : Step) → end_of s ≡ Some RestsThere → s ≡ Rests
rests_is (Goes t) e = absurd (cc)
rests_is (Traps kind) e = absurd (cc)
rests_is Rests e = refl
rests_is Lost e = absurd (cc)

pub traps_is : (s : Step) (kind : _) → end_of s ≡ Some (TrapsThere kind) → s ≡ Traps kind
traps_is (Goes t) kind e = absurd (cc)
traps_is (Traps k) kind e = let same : k ≡ kind = cc in ap Traps same
traps_is Rests kind e = absurd (cc)
traps_is Lost kind e = absurd (cc)

-- the first of all frames is the innermost one with its words
pub head_is : (t : Table) (s : Frames) (f : CodeFrame) (below : List CodeFrame) → 0 < depth_of s → frames_of t s ≡ f ∷ below
    → f ≡ frame_of t s.highest_stack s.words.items (depth_of s - 1) (innermost s)
head_is t s f below some is =
    ap (λ (fs : List CodeFrame). slice_index_or fs 0 seen.no_frame) (sym is ∙ innermost_first t s.highest_stack s.words.items s.frames.items (depth_of s) some)

-- and the others are those below
pub below_is : (t : Table) (s : Frames) (f : CodeFrame) (below : List CodeFrame) → 0 < depth_of s → frames_of t s ≡ f ∷ below
    → below ≡ frames_below t s.highest_stack s.words.items s.frames.items (depth_of s - 1)
below_is t s f below some is =
    ap (λ (fs : List CodeFrame). drop 1 fs) (sym is ∙ innermost_first t s.highest_stack s.words.items s.frames.items (depth_of s) some)

-- two ways to see them are one
pub same_head : (f g : CodeFrame) (fs gs : List CodeFrame) → ◌≡◌ {A = List CodeFrame} (f ∷ fs) (g ∷ gs) → f ≡ g
same_head f g fs gs e = ap (λ (xs : List CodeFrame). slice_index_or xs 0 seen.no_frame) e

pub same_rest : (f g : CodeFrame) (fs gs : List CodeFrame) → ◌≡◌ {A = List CodeFrame} (f ∷ fs) (g ∷ gs) → fs ≡ gs
same_rest f g fs gs e = ap (λ (xs : List CodeFrame). drop 1 xs) e

module _ (functions : List CodeFunction) (old new : Frames) (f : Frame) (some : 0 < depth_of old) (frames : new.frames.items ≡ with_innermost old f) where
  made : Replaces old.frames.items new.frames.items (depth_of old - 1) f
  made = changed_innermost old new f some frames

  pub innermost_is : ◌≡◌ {A = Frame} (innermost new) f
  innermost_is =
      let deep : depth_of new - 1 ≡ depth_of old - 1 = omega (arith, made.long) in
      ap (λ (n : ℕ). slice_index_or new.frames.items n no_frame) deep ∙ made.last

  pub depth_is : depth_of new ≡ depth_of old
  depth_is = omega (arith, made.long, some)

  pub are_frames : IsFrame functions f → ((n : ℕ) → n < depth_of old → IsFrame functions (frame_at old n))
      → (n : ℕ) → n < depth_of new → IsFrame functions (frame_at new n)
  are_frames here there n inside =
      elim (cases_eq n (depth_of old - 1)) [
        | inl same ↦ rw (same, made.last) here
        | inr differs ↦ let h : n < depth_of old - 1 = omega (arith, made.long) in rw (made.others n h) (there n (omega arith))
      ]

  pub wait_still : Wait functions old (depth_of old - 1) → Wait functions new (depth_of old - 1)
  wait_still wait n h = rw (made.others n h) (wait n h)
