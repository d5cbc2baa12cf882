-- A search through a list, from a place on.
use Rattle.std.proofs.Common.{◌≡◌, ℕ, ◌+◌, ◌<◌, Bool, true, false, List, ◌∷◌, length, get_or, drop, find, Some, sym, ap, ◌∙◌, add-one, drop-cons, if◌then◌else◌}

module _ {A : Type 0} (test : A → Bool) (xs : List A) (i : ℕ) (x : A) where
  from_here : i < length xs → x ≡ get_or xs i x → drop i xs ≡ x ∷ drop (i + 1) xs
  from_here within is =
      drop-cons xs i x within
      ∙ ap (λ n. get_or xs i x ∷ drop n xs) (sym (add-one i))
      ∙ ap (λ y. y ∷ drop (i + 1) xs) (sym is)

  -- past an item that fails the test
  pub find_passes : i < length xs → x ≡ get_or xs i x → test x ≡ false → find test (drop i xs) ≡ find test (drop (i + 1) xs)
  find_passes within is fails =
      ap (find test) (from_here within is) ∙ ap (λ t. if t then Some x else find test (drop (i + 1) xs)) fails

  -- at the item that passes it
  pub find_is_here : i < length xs → x ≡ get_or xs i x → test x ≡ true → find test (drop i xs) ≡ Some x
  find_is_here within is passes =
      ap (find test) (from_here within is) ∙ ap (λ t. if t then Some x else find test (drop (i + 1) xs)) passes
