-- The search of slots, from one on.
use Rattle.std.proofs.Common.{◌≡◌, ℕ, zero, suc, ◌+◌, ◌≤◌, List, [], ◌∷◌, cond, drop, length, map, Bool, true, false, Option, Some, None, sym, ap, ◌∙◌, add-one, arith}
use Rattle.std.specs.Prelude.{slice_get}
use Rattle.std.specs.List.{position, position_from}
use Rattle.std.proofs.lemmas.Option.{same_Some}
use Rattle.std.proofs.lemmas.Iterator.Adapters.{position_from-zero}
use Rattle.std.proofs.lemmas.List.{drop_all, length-map}
use Rattle.code_runs.specs.CodeThreads.{CodeSlot}
use Rattle.code_runs.specs.CodeMoves.{is_free, left_from, left_in, or_else, with_place}
use Rattle.code_machine.specs.declared.running.Running.{Running}

-- the slots from one on
slots_at : (f : Running → CodeSlot) (rs : List Running) (i : ℕ) (r : Running) → slice_get rs i ≡ Some r → drop i (map f rs) ≡ f r ∷ drop (suc i) (map f rs)
slots_at f [] i r e = absurd (cc)
slots_at f (s ∷ rs) zero r e = ap (λ (x : Running). f x ∷ map f rs) (same_Some s r e)
slots_at f (s ∷ rs) (suc i) r e = slots_at f rs i r e

module _ (f : Running → CodeSlot) (rs : List Running) where
  none_left : (i : ℕ) → length rs ≤ i → drop i (map f rs) ≡ []
  none_left i h = drop_all i (map f rs) (omega (arith, h, length-map rs f))

  -- ---- the word that the thread of a word left

  left_at : (w i : ℕ) (r : Running) → slice_get rs i ≡ Some r
      → left_from w i (drop i (map f rs)) ≡ or_else (with_place i (left_in w i (f r))) (left_from w (suc i) (drop (suc i) (map f rs)))
  left_at w i r there = ap (left_from w i) (slots_at f rs i r there)

  pub left_here : (w i v : ℕ) (r : Running) → slice_get rs i ≡ Some r → left_in w i (f r) ≡ Some v → left_from w i (drop i (map f rs)) ≡ Some (i, v)
  left_here w i v r there e = left_at w i r there ∙ ap (λ (o : Option ℕ). or_else (with_place i o) (left_from w (suc i) (drop (suc i) (map f rs)))) e

  pub left_later : (w i : ℕ) (r : Running) → slice_get rs i ≡ Some r → left_in w i (f r) ≡ None
      → left_from w i (drop i (map f rs)) ≡ left_from w (i + 1) (drop (i + 1) (map f rs))
  left_later w i r there e =
      left_at w i r there ∙ ap (λ (o : Option ℕ). or_else (with_place i o) (left_from w (suc i) (drop (suc i) (map f rs)))) e
      ∙ ap (λ (k : ℕ). left_from w k (drop k (map f rs))) (sym (add-one i))

  pub left_nowhere : (w i : ℕ) → length rs ≤ i → left_from w i (drop i (map f rs)) ≡ None
  left_nowhere w i h = ap (left_from w i) (none_left i h)

  -- ---- a free slot

  free_at : (i : ℕ) (r : Running) → slice_get rs i ≡ Some r
      → position_from is_free i (drop i (map f rs)) ≡ cond (is_free (f r)) (Some i) (position_from is_free (i + 1) (drop (suc i) (map f rs)))
  free_at i r there = ap (position_from is_free i) (slots_at f rs i r there)

  pub free_here : (i : ℕ) (r : Running) → slice_get rs i ≡ Some r → is_free (f r) ≡ true → position_from is_free i (drop i (map f rs)) ≡ Some i
  free_here i r there e =
      free_at i r there ∙ ap (λ (b : Bool). cond b (Some i) (position_from is_free (i + 1) (drop (suc i) (map f rs)))) e

  pub free_later : (i : ℕ) (r : Running) → slice_get rs i ≡ Some r → is_free (f r) ≡ false
      → position_from is_free i (drop i (map f rs)) ≡ position_from is_free (i + 1) (drop (i + 1) (map f rs))
  free_later i r there e =
      free_at i r there ∙ ap (λ (b : Bool). cond b (Some i) (position_from is_free (i + 1) (drop (suc i) (map f rs)))) e
      ∙ ap (λ (k : ℕ). position_from is_free (i + 1) (drop k (map f rs))) (sym (add-one i))

  pub free_nowhere : (i : ℕ) → length rs ≤ i → position_from is_free i (drop i (map f rs)) ≡ None
  free_nowhere i h = ap (position_from is_free i) (none_left i h)

  -- the search from the first slot on
  pub search_begins : position is_free (map f rs) ≡ position_from is_free 0 (map f rs)
  search_begins = position_from-zero is_free (map f rs)
