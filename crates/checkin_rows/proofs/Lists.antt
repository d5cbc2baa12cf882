-- Items of lists by their places.
use Rattle.std.proofs.Common.{◌≡◌, ℕ, zero, suc, ◌+◌, ◌⊎◌, inl, inr, List, [], ◌∷◌, ◌++◌, Some, length, take, refl, ap, ◌∙◌, arith}
use Rattle.std.specs.Prelude.{Contains, slice_get}
use Rattle.std.proofs.lemmas.Option.{slice_get_within, get_or_from_slice_get, slice_get-get_or, same_Some, none-some}

-- an item of a list with one more
pub pushed : {A : Type 0} (xs : List A) (y x : A) (i : ℕ) → slice_get (xs ++ y ∷ []) i ≡ Some x
    → (slice_get xs i ≡ Some x) ⊎ ((i ≡ length xs) × (y ≡ x))
pushed [] y x zero at = inr (refl, same_Some y x at)
pushed [] y x (suc i) at = absurd (none-some x at)
pushed (z ∷ xs) y x zero at = inl at
pushed (z ∷ xs) y x (suc i) at = elim (pushed xs y x i at) [ inl h ↦ inl h | inr h ↦ inr (ap suc h.0, h.1) ]

pub at_push : {A : Type 0} (xs : List A) (y : A) → slice_get (xs ++ y ∷ []) (length xs) ≡ Some y
at_push [] y = refl
at_push (x ∷ xs) y = at_push xs y

-- an item stays where a list goes on
pub at_front : {A : Type 0} (xs ys : List A) (i : ℕ) (x : A) → slice_get xs i ≡ Some x → slice_get (xs ++ ys) i ≡ Some x
at_front [] ys i x at = absurd (none-some x at)
at_front (z ∷ xs) ys zero x at = at
at_front (z ∷ xs) ys (suc i) x at = at_front xs ys i x at

-- one item more
pub take_more : {A : Type 0} (xs : List A) (i : ℕ) (x : A) → slice_get xs i ≡ Some x → take (i + 1) xs ≡ take i xs ++ x ∷ []
take_more [] i x at = absurd (none-some x at)
take_more (y ∷ ys) zero x at = ap (λ y. y ∷ []) (same_Some y x at)
take_more (y ∷ ys) (suc i) x at =
    let further : suc i + 1 ≡ suc (i + 1) = omega arith in
    ap (λ n. take n (y ∷ ys)) further ∙ ap (λ rest. y ∷ rest) (take_more ys i x at)

-- an item that is in a list with one more
pub in_pushed : {A : Type 0} (xs : List A) (y x : A) → Contains (xs ++ y ∷ []) x → Contains xs x ⊎ (y ≡ x)
in_pushed xs y x c =
    elim (pushed xs y x c.0 (slice_get-get_or (xs ++ y ∷ []) c.0 x c.1 ∙ ap Some c.2)) [
      | inl h ↦ inl (c.0, slice_get_within xs c.0 x h, get_or_from_slice_get xs c.0 x x h)
      | inr h ↦ inr h.1
    ]

pub contains_push : {A : Type 0} (xs : List A) (y : A) → Contains (xs ++ y ∷ []) y
contains_push xs y =
    (length xs, slice_get_within (xs ++ y ∷ []) (length xs) y (at_push xs y), get_or_from_slice_get (xs ++ y ∷ []) (length xs) y y (at_push xs y))

pub contains_front : {A : Type 0} (xs : List A) (y x : A) → Contains xs x → Contains (xs ++ y ∷ []) x
contains_front xs y x c =
    let at = at_front xs (y ∷ []) c.0 x (slice_get-get_or xs c.0 x c.1 ∙ ap Some c.2) in
    (c.0, slice_get_within (xs ++ y ∷ []) c.0 x at, get_or_from_slice_get (xs ++ y ∷ []) c.0 x x at)
