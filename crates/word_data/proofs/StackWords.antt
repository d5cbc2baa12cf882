-- Words on a stack: read, left in place of others, and as a part of their row.
use Rattle.std.proofs.Common.{◌≡◌, ℕ, zero, suc, ◌+◌, ◌-◌, ◌<◌, ◌≤◌, List, [], ◌∷◌, ◌++◌, length, take, drop, reverse, refl, subst, sym, ap, ◌∙◌, arith, Some}
use Rattle.std.specs.Prelude.{slice_get, slice_index, slice_set}
use Rattle.std.proofs.Math.Seq.{drop-cons}
use Rattle.std.proofs.lemmas.List.{get_or-set_same, reverse-append}
use Rattle.thread_state.specs.Frames.{downward, upward}
use Rattle.thread_state.proofs.FrameWords.{downward_before}
use Rattle.code_runs.specs.CodeData.{Data}
use Rattle.code_runs.specs.SharedStops.{Done, One, Two, On as GoesOn}
use Rattle.word_data.specs.declared.stop.Stack.{Stack}
use Rattle.word_data.specs.declared.stop.Did.{Did}
use Rattle.word_data.specs.declared.stop.Did.TheVariants.{On, Trap, Waits}
use Rattle.word_data.specs.Stacks.{Leaves}
use Rattle.word_data.specs.Performing.{Made}

-- the word with so many newer ones
pub word_at : (ws : List ℕ) (low h k : ℕ) → k < h → slice_get (downward ws low h) k ≡ Some (slice_index ws (low + h - 1 - k))
word_at ws low zero k less = absurd (omega arith)
word_at ws low (suc h) zero less =
    let at : low + h ≡ low + suc h - 1 - 0 = omega arith in ap (λ (i : ℕ). Some (slice_index ws i)) at
word_at ws low (suc h) (suc k) less =
    let at : low + h - 1 - k ≡ low + suc h - 1 - suc k = omega arith in
    word_at ws low h k (omega arith) ∙ ap (λ (i : ℕ). Some (slice_index ws i)) at

-- a stack without its newest words
pub dropped : (ws : List ℕ) (low h n : ℕ) → n ≤ h → drop n (downward ws low h) ≡ downward ws low (h - n)
dropped ws low h zero less = let same : h ≡ h - 0 = omega arith in ap (downward ws low) same
dropped ws low zero (suc n) less = absurd (omega arith)
dropped ws low (suc h) (suc n) less =
    let same : h - n ≡ suc h - suc n = omega arith in dropped ws low h n (omega arith) ∙ ap (downward ws low) same

-- a word in place of the newest ones
pub left : (ws : List ℕ) (low h n w at height : ℕ) → n ≤ h → low + h < length ws → at ≡ low + (h - n) → height ≡ suc (h - n)
    → downward (slice_set ws at w) low height ≡ w ∷ drop n (downward ws low h)
left ws low h n w at height less inside is grown =
    ap (λ (i : ℕ). downward (slice_set ws i w) low height) is
    ∙ ap (downward (slice_set ws (low + (h - n)) w) low) grown
    ∙ ap (λ (v : ℕ). v ∷ downward (slice_set ws (low + (h - n)) w) low (h - n)) (get_or-set_same ws (low + (h - n)) w 0 (omega arith))
    ∙ ap (λ (l : List ℕ). w ∷ l) (downward_before ws low (h - n) (low + (h - n)) w (omega arith) ∙ sym (dropped ws low h n less))

-- one more word of a row
more : (ws : List ℕ) (from n : ℕ) → upward ws from (suc n) ≡ upward ws from n ++ slice_index ws (from + n) ∷ []
more ws from zero = let at : from ≡ from + 0 = omega arith in ap (λ (i : ℕ). slice_index ws i ∷ []) at
more ws from (suc n) =
    let at : suc from + n ≡ from + suc n = omega arith in
    ap (λ (l : List ℕ). slice_index ws from ∷ l)
    (more ws (suc from) n ∙ ap (λ (i : ℕ). upward ws (suc from) n ++ slice_index ws i ∷ []) at)

-- the newest words, the newest last
reversed : (ws : List ℕ) (low h n : ℕ) → n ≤ h → reverse (take n (downward ws low h)) ≡ upward ws (low + h - n) n
reversed ws low h zero less = refl
reversed ws low zero (suc n) less = absurd (omega arith)
reversed ws low (suc h) (suc n) less =
    let from : low + h - n ≡ low + suc h - suc n = omega arith in
    let last : low + h ≡ low + h - n + n = omega arith in
    reverse-append (slice_index ws (low + h) ∷ []) (take n (downward ws low h))
    ∙ ap (λ (l : List ℕ). l ++ slice_index ws (low + h) ∷ []) (reversed ws low h n (omega arith))
    ∙ ap (λ (i : ℕ). upward ws (low + h - n) n ++ slice_index ws i ∷ []) last
    ∙ sym (more ws (low + h - n) n)
    ∙ ap (λ (i : ℕ). upward ws i (suc n)) from

-- words of a row as a part of it
part : (ws : List ℕ) (from n : ℕ) → from + n ≤ length ws → take n (drop from ws) ≡ upward ws from n
part ws from zero less = refl
part ws from (suc n) less =
    ap (take (suc n)) (drop-cons ws from 0 (omega arith))
    ∙ ap (λ (l : List ℕ). slice_index ws from ∷ l) (part ws (suc from) n (omega arith))

pub newest_part : (ws : List ℕ) (low h n m : ℕ) → n ≤ h → low + h ≤ length ws → m ≡ n → take m (drop (low + h - n) ws) ≡ reverse (take n (downward ws low h))
newest_part ws low h n m less inside is =
    ap (λ (k : ℕ). take k (drop (low + h - n) ws)) is ∙ part ws (low + h - n) n (omega arith) ∙ sym (reversed ws low h n less)

-- the newest word, and the two newest ones
pub one : (xs : List ℕ) (w : ℕ) (means : ℕ → List ℕ → Type 0) → slice_get xs 0 ≡ Some w → means w (drop 1 xs) → One xs means
one [] w means is holds = absurd (cc)
one (x ∷ xs) w means is holds = let same : w ≡ x = cc in subst (λ (y : ℕ). means y xs) same holds

pub two : (xs : List ℕ) (b a : ℕ) (means : ℕ → ℕ → List ℕ → Type 0) → slice_get xs 0 ≡ Some b → slice_get xs 1 ≡ Some a
    → means b a (drop 2 xs) → Two xs means
two [] b a means is under holds = absurd (cc)
two (x ∷ []) b a means is under holds = absurd (cc)
two (x ∷ y ∷ xs) b a means is under holds =
    let same : b ≡ x = cc in
    let other : a ≡ y = cc in
    subst (λ (v : ℕ). means x v xs) other (subst (λ (v : ℕ). means v a xs) same holds)

-- what a stop comes to that leaves words
pub made : (shared : Data) (after : List ℕ) (stack : Stack) (printed ws : List ℕ) (did : Did) (means : Done → Type 0)
    → Leaves after stack did ws → means (record { shared = shared; printed = printed; came = GoesOn ws }) → Made shared after stack printed did means
made shared after stack printed ws (On height) means leaves holds =
    subst (λ (l : List ℕ). means (record { shared = shared; printed = printed; came = GoesOn l })) (sym leaves) holds
made shared after stack printed ws (Trap kind) means leaves holds = absurd leaves
made shared after stack printed ws (Waits holder) means leaves holds = absurd leaves
