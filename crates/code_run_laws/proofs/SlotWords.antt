-- A thread is found by its word in the slot that it names, and nowhere else.
use Rattle.std.proofs.Common.{◌≡◌, ℕ, zero, suc, ◌+◌, ◌<◌, Bool, true, false, List, [], ◌∷◌, Option, Some, None, refl, ap, ◌∙◌, arith}
use Rattle.std.specs.Prelude.{◌==◌, slice_index_or, if◌then◌else◌}
use Rattle.c_semantics.specs.Values.{ThreadRef}
use Rattle.source_model.specs.Waits.{Waiting, ForThread}
use Rattle.code_runs.specs.CodeData.{thread_word}
use Rattle.code_runs.specs.CodeThreads.{CodeSlot, Free, Live, Over}
use Rattle.code_runs.specs.CodeMoves.{left_from, left_in, or_else, with_place}
use Rattle.code_runs.specs.CodeWaits.{joined_from, lives_as}
use Rattle.code_run_laws.proofs.ThreadWords.{word_positive, words_apart}

abbrev ref_of : ℕ → ℕ → ThreadRef
ref_of slot serial = record { slot = slot; serial = serial }

equal_is : (m n : ℕ) → (m == n) ≡ true → m ≡ n
equal_is m n e = grind arith

itself : (m n : ℕ) → m ≡ n → (m == n) ≡ true
itself m n e = grind arith

other : (m n : ℕ) → (m ≡ n → ⊥) → (m == n) ≡ false
other m n h = by (m == n) refl
  where
    by : (b : Bool) → (m == n) ≡ b → (m == n) ≡ false
    by true e = absurd (h (equal_is m n e))
    by false e = e

-- in one slot two words are the same where the numbers of the threads are; in two slots they differ
pub word_test : (slot n : ℕ) (r : ThreadRef) → slot ≡ r.slot → (thread_word (ref_of slot n) == thread_word r) ≡ (n == r.serial)
word_test slot n r e = by (n == r.serial) refl
  where
    by : (b : Bool) → (n == r.serial) ≡ b → (thread_word (ref_of slot n) == thread_word r) ≡ b
    by true is =
        itself (thread_word (ref_of slot n)) (thread_word r)
        (ap (λ s. thread_word (ref_of s n)) e ∙ ap (λ k. thread_word (ref_of r.slot k)) (equal_is n r.serial is))
    by false is =
        other (thread_word (ref_of slot n)) (thread_word r)
        (λ same. differ n r.serial is (words_apart slot r.slot n r.serial same).1)
      where
        differ : (m k : ℕ) → (m == k) ≡ false → m ≡ k → ⊥
        differ m k f g = grind arith

other_slot : (slot n : ℕ) (r : ThreadRef) → (slot ≡ r.slot → ⊥) → (thread_word (ref_of slot n) == thread_word r) ≡ false
other_slot slot n r h =
    other (thread_word (ref_of slot n)) (thread_word r) (λ same. h (words_apart slot r.slot n r.serial same).0)

no_word : (r : ThreadRef) → (thread_word r == 0) ≡ false
no_word r = by (thread_word r) (word_positive r)
  where
    by : (n : ℕ) → 0 < n → (n == 0) ≡ false
    by n h = grind arith

-- ---- threads that ended

nothing_left : (r : ThreadRef) (t : ℕ) (s : CodeSlot) → (t ≡ r.slot → ⊥) → left_in (thread_word r) t s ≡ None
nothing_left r t Free h = refl
nothing_left r t (Live th) h = refl
nothing_left r t (Over serial v) h = ap (λ b. if b then Some v else None) (other_slot t serial r h)

left_past : (r : ThreadRef) (ss : List CodeSlot) (t : ℕ) → r.slot < t → left_from (thread_word r) t ss ≡ None
left_past r [] t h = refl
left_past r (s ∷ ss) t h =
    ap (λ o. or_else (with_place t o) (left_from (thread_word r) (suc t) ss)) (nothing_left r t s (λ e. absurd (omega arith)))
    ∙ left_past r ss (suc t) (omega arith)

or_none : (o : Option (ℕ × ℕ)) → or_else o None ≡ o
or_none None = refl
or_none (Some p) = refl

pub left_at : (r : ThreadRef) (ss : List CodeSlot) (t i : ℕ) → r.slot ≡ t + i
    → left_from (thread_word r) t ss ≡ with_place r.slot (left_in (thread_word r) r.slot (slice_index_or ss i Free))
left_at r [] t i e = refl
left_at r (s ∷ ss) t zero e =
    let here : t ≡ r.slot = omega arith in
    ap (or_else (with_place t (left_in (thread_word r) t s))) (left_past r ss (suc t) (omega arith))
    ∙ or_none (with_place t (left_in (thread_word r) t s)) ∙ ap (λ k. with_place k (left_in (thread_word r) k s)) here
left_at r (s ∷ ss) t (suc i) e =
    ap (λ o. or_else (with_place t o) (left_from (thread_word r) (suc t) ss)) (nothing_left r t s (λ same. absurd (omega arith)))
    ∙ left_at r ss (suc t) i (omega arith)

-- no thread that ended has the word of none
pub none_left : (ss : List CodeSlot) (t : ℕ) → left_from 0 t ss ≡ None
none_left [] t = refl
none_left (Free ∷ ss) t = none_left ss (suc t)
none_left (Live th ∷ ss) t = none_left ss (suc t)
none_left (Over serial v ∷ ss) t =
    ap (λ b. or_else (with_place t (if b then Some v else None)) (left_from 0 (suc t) ss)) (no_word (ref_of t serial)) ∙ none_left ss (suc t)

-- ---- threads that live

abbrev pub joined_or : Bool → ℕ → Option Waiting → Option Waiting
joined_or b t o = if b then Some (ForThread t) else o

not_living : (r : ThreadRef) (t : ℕ) (s : CodeSlot) → (t ≡ r.slot → ⊥) → lives_as (thread_word r) t s ≡ false
not_living r t Free h = refl
not_living r t (Live th) h = other_slot t th.serial r h
not_living r t (Over serial v) h = refl

joined_past : (r : ThreadRef) (ss : List CodeSlot) (t : ℕ) → r.slot < t → joined_from (thread_word r) t ss ≡ None
joined_past r [] t h = refl
joined_past r (s ∷ ss) t h =
    ap (λ b. joined_or b t (joined_from (thread_word r) (suc t) ss)) (not_living r t s (λ e. absurd (omega arith)))
    ∙ joined_past r ss (suc t) (omega arith)

pub joined_at : (r : ThreadRef) (ss : List CodeSlot) (t i : ℕ) → r.slot ≡ t + i
    → joined_from (thread_word r) t ss ≡ joined_or (lives_as (thread_word r) r.slot (slice_index_or ss i Free)) r.slot None
joined_at r [] t i e = refl
joined_at r (s ∷ ss) t zero e =
    let here : t ≡ r.slot = omega arith in
    ap (joined_or (lives_as (thread_word r) t s) t) (joined_past r ss (suc t) (omega arith))
    ∙ ap (λ k. joined_or (lives_as (thread_word r) k s) k None) here
joined_at r (s ∷ ss) t (suc i) e =
    ap (λ b. joined_or b t (joined_from (thread_word r) (suc t) ss)) (not_living r t s (λ same. absurd (omega arith)))
    ∙ joined_at r ss (suc t) i (omega arith)

-- none that lives has the word of none
pub none_joined : (ss : List CodeSlot) (t : ℕ) → joined_from 0 t ss ≡ None
none_joined [] t = refl
none_joined (Free ∷ ss) t = none_joined ss (suc t)
none_joined (Live th ∷ ss) t =
    ap (λ b. joined_or b t (joined_from 0 (suc t) ss)) (no_word (ref_of t th.serial)) ∙ none_joined ss (suc t)
none_joined (Over serial v ∷ ss) t = none_joined ss (suc t)
