-- Frames of a thread after a change of their words or of their list.
use Rattle.std.proofs.Common.{◌≡◌, inl, inr, ℕ, zero, suc, ◌+◌, ◌-◌, ◌<◌, ◌≤◌, List, [], ◌∷◌, ◌++◌, length, take, refl, ap, ◌∙◌, arith}
use Rattle.std.specs.Prelude.{slice_index, slice_index_or, slice_set}
use Rattle.std.proofs.lemmas.Bool.{cases_eq}
use Rattle.std.proofs.lemmas.List.{get_or-set_same, get_or-set_other, length-set, length-append, length-take, get_or_append_left, get_or-take}
use Rattle.std.proofs.lemmas.Nat.{row_fits}
use Rattle.std.proofs.Math.Seq.{get_or-append_seam}
use Rattle.resolved_tree.specs.Nodes.{Table}
use Rattle.code_runs.specs.CodeThreads.{CodeFrame}
use Rattle.thread_state.specs.Frames.{downward, upward}
use Rattle.thread_state.proofs.FrameWords.{same_downward, same_upward}
use Rattle.word_frames.specs.declared.frame.Frame.{Frame}
use Rattle.word_frames.specs.Blocks.{base_of, block, low_of, room}
use Rattle.word_frames.specs.Seen.{frame_of, frames_below, no_frame}

-- the room of a frame, as a number
pub room_is : room ≡ 64
unfolding room
room_is = refl

-- a block ends where the next one begins, and before each later one
pub later : (highest n m : ℕ) → n < m → base_of highest n + block highest ≤ base_of highest m
later highest n m h = omega (arith, row_fits n (block highest) m (block highest) h (omega arith))

-- words that are the same up to a place, or from one to another
abbrev pub SameUpTo : ℕ → List ℕ → List ℕ → Type 0
SameUpTo to a b = (i : ℕ) → i < to → slice_index a i ≡ slice_index b i

-- a frame whose words are the same
pub same_frame : (t : Table) (highest : ℕ) (a b : List ℕ) (n : ℕ) (f : Frame) → f.height ≤ highest → SameUpTo (base_of highest (suc n)) a b
    → frame_of t highest a n f ≡ frame_of t highest b n f
same_frame t highest a b n f low same =
    let next : base_of highest n + block highest ≤ base_of highest (suc n) = later highest n (suc n) (omega arith) in
    let locals : upward a (base_of highest n) room ≡ upward b (base_of highest n) room =
    same_upward a b (base_of highest n) room (λ i p q. same i (omega (arith, room_is, next))) in
    let stack : downward a (low_of highest n) f.height ≡ downward b (low_of highest n) f.height =
    same_downward a b (low_of highest n) f.height (λ i p q. same i (omega (arith, room_is, next))) in
    rw (locals, stack) refl

-- the n outermost frames where they and their words are the same
pub same_below : (t : Table) (highest : ℕ) (a b : List ℕ) (fs gs : List Frame) (n : ℕ)
    → ((i : ℕ) → i < n → slice_index_or gs i no_frame ≡ slice_index_or fs i no_frame)
    → ((i : ℕ) → i < n → (slice_index_or fs i no_frame).height ≤ highest)
    → SameUpTo (base_of highest n) a b → frames_below t highest a gs n ≡ frames_below t highest b fs n
same_below t highest a b fs gs zero frames low words = refl
same_below t highest a b fs gs (suc n) frames low words =
    let next : base_of highest n + block highest ≤ base_of highest (suc n) = later highest n (suc n) (omega arith) in
    let here : frame_of t highest a n (slice_index_or gs n no_frame) ≡ frame_of t highest a n (slice_index_or fs n no_frame) =
    ap (frame_of t highest a n) (frames n (omega arith)) in
    let there : frame_of t highest a n (slice_index_or fs n no_frame) ≡ frame_of t highest b n (slice_index_or fs n no_frame) =
    same_frame t highest a b n (slice_index_or fs n no_frame) (low n (omega arith)) words in
    let rest : frames_below t highest a gs n ≡ frames_below t highest b fs n =
    same_below t highest a b fs gs n (λ i p. frames i (omega arith)) (λ i p. low i (omega arith)) (λ i p. words i (omega (arith, next))) in
    cc

-- a list of n + 1 frames, of which the last is this one, and the others are those of another list
pub record Replaces (fs gs : List Frame) (n : ℕ) (f : Frame) : Type 0 where
  pub long : length gs ≡ suc n
  pub last : slice_index_or gs n no_frame ≡ f
  pub others : (i : ℕ) → i < n → slice_index_or gs i no_frame ≡ slice_index_or fs i no_frame

pub pushed : (fs : List Frame) (f : Frame) → Replaces fs (fs ++ f ∷ []) (length fs) f
pushed fs f = record {
  long = length-append fs (f ∷ []) ∙ omega arith;
  last = get_or-append_seam fs f [] no_frame;
  others = λ i h. get_or_append_left fs (f ∷ []) no_frame i h;
}

pub changed_last : (fs : List Frame) (f : Frame) (n : ℕ) → length fs ≡ suc n → Replaces fs (slice_set fs n f) n f
changed_last fs f n long = record {
  long = length-set fs n f ∙ long;
  last = get_or-set_same fs n f no_frame (omega arith);
  others = λ i h. get_or-set_other fs n i f no_frame (omega arith);
}

pub popped : (fs : List Frame) (f : Frame) (n : ℕ) → suc n ≤ length fs → Replaces fs (slice_set (take (suc n) fs) n f) n f
popped fs f n long =
    let few : length (take (suc n) fs) ≡ suc n = omega (arith, length-take (suc n) fs) in
    let made : Replaces (take (suc n) fs) (slice_set (take (suc n) fs) n f) n f = changed_last (take (suc n) fs) f n few in
    record {
      long = made.long;
      last = made.last;
      others = λ i h. made.others i h ∙ get_or-take (suc n) fs i no_frame (omega arith);
    }

-- all frames of such a list
pub replaced : {fs gs : List Frame} {n : ℕ} {f : Frame} (t : Table) (highest : ℕ) (a b : List ℕ) → Replaces fs gs n f
    → ((i : ℕ) → i < n → (slice_index_or fs i no_frame).height ≤ highest) → SameUpTo (base_of highest n) a b
    → frames_below t highest a gs (length gs) ≡ frame_of t highest a n f ∷ frames_below t highest b fs n
replaced {fs = fs} {gs = gs} {n = n} {f = f} t highest a b made low words =
    let here : frame_of t highest a n (slice_index_or gs n no_frame) ≡ frame_of t highest a n f = ap (frame_of t highest a n) made.last in
    let rest : frames_below t highest a gs n ≡ frames_below t highest b fs n = same_below t highest a b fs gs n made.others low words in
    ap (frames_below t highest a gs) made.long
    ∙ ap (λ (x : CodeFrame). x ∷ frames_below t highest a gs n) here
    ∙ ap (λ (xs : List CodeFrame). frame_of t highest a n f ∷ xs) rest

-- and their heights
pub replaced_low : {fs gs : List Frame} {n : ℕ} {f : Frame} (highest : ℕ) → Replaces fs gs n f → f.height ≤ highest
    → ((i : ℕ) → i < n → (slice_index_or fs i no_frame).height ≤ highest)
    → (i : ℕ) → i < length gs → (slice_index_or gs i no_frame).height ≤ highest
replaced_low {fs = fs} {gs = gs} {n = n} {f = f} highest made here low i inside =
    elim (cases_eq i n) [
      | inl same ↦ rw (same, made.last) here
      | inr differs ↦ let h : i < n = omega (arith, made.long) in rw (made.others i h) (low i h)
    ]

-- the innermost of some frames, and the others
pub innermost_first : (t : Table) (highest : ℕ) (ws : List ℕ) (fs : List Frame) (d : ℕ) → 0 < d
    → frames_below t highest ws fs d ≡ frame_of t highest ws (d - 1) (slice_index_or fs (d - 1) no_frame) ∷ frames_below t highest ws fs (d - 1)
innermost_first t highest ws fs zero h = absurd (omega arith)
innermost_first t highest ws fs (suc n) h = let same : suc n - 1 ≡ n = omega arith in rw same refl
