-- Elements of lists, read, changed and seen through a function.
use Rattle.std.proofs.Common.{◌≡◌, ℕ, zero, suc, ◌<◌, List, [], ◌∷◌, length, map, Option, Some, refl, sym, subst, ap, ◌∙◌, arith}
use Rattle.std.specs.Prelude.{All, slice_get, slice_index_or, slice_set}
use Rattle.std.proofs.lemmas.Option.{get_or_from_slice_get, same_Some, slice_get_within}
use Rattle.std.proofs.lemmas.List.Elements.{All-get_or}

-- an element is inside
pub inside : {X : Type 0} (xs : List X) (i : ℕ) (x : X) → slice_get xs i ≡ Some x → i < length xs
inside [] i x e = absurd (cc)
inside (y ∷ ys) zero x e = omega arith
inside (y ∷ ys) (suc i) x e = let h : i < length ys = inside ys i x e in omega arith

-- there is one inside
pub some : {X : Type 0} (xs : List X) (i : ℕ) → i < length xs → (x : X) × (slice_get xs i ≡ Some x)
some [] i h = absurd (omega (arith, h))
some (y ∷ ys) zero h = (y, refl)
some (y ∷ ys) (suc i) h = some ys i (omega (arith, h))

-- the element that is there
pub read : {X : Type 0} (xs : List X) (i : ℕ) (x d : X) → slice_get xs i ≡ Some x → slice_index_or xs i d ≡ x
read [] i x d e = absurd (cc)
read (y ∷ ys) zero x d e = same_Some y x e
read (y ∷ ys) (suc i) x d e = read ys i x d e

-- there is one element at a place
pub one : {X : Type 0} (o : Option X) (x y : X) → o ≡ Some x → o ≡ Some y → x ≡ y
one o x y e f = same_Some x y (sym e ∙ f)

-- what was read at a place is the element there
pub same_read : {X : Type 0} (xs : List X) (i : ℕ) (x y : X) → slice_get xs i ≡ Some x → i < length xs → y ≡ slice_index_or xs i y → x ≡ y
same_read xs i x y there within is = sym (is ∙ read xs i x y there)

-- what holds of all
pub all : {X : Type 0} (P : X → Type 0) (xs : List X) (i : ℕ) (x : X) → All P xs → slice_get xs i ≡ Some x → P x
all P xs i x every e = subst P (get_or_from_slice_get xs i x x e) (All-get_or P xs i x (slice_get_within xs i x e) every)

pub get_set_same : {X : Type 0} (xs : List X) (i : ℕ) (y : X) → i < length xs → slice_get (slice_set xs i y) i ≡ Some y
get_set_same [] i y h = absurd (omega (arith, h))
get_set_same (x ∷ xs) zero y h = refl
get_set_same (x ∷ xs) (suc i) y h = get_set_same xs i y (omega (arith, h))

pub get_set_other : {X : Type 0} (xs : List X) (i j : ℕ) (y : X) → (j ≡ i → ⊥) → slice_get (slice_set xs i y) j ≡ slice_get xs j
get_set_other [] i j y h = refl
get_set_other (x ∷ xs) zero zero y h = absurd (h refl)
get_set_other (x ∷ xs) zero (suc j) y h = refl
get_set_other (x ∷ xs) (suc i) zero y h = refl
get_set_other (x ∷ xs) (suc i) (suc j) y h = get_set_other xs i j y (λ e. h (ap suc e))

-- an element seen through a function
pub seen : {X Y : Type 0} (f : X → Y) (xs : List X) (i : ℕ) (x : X) (d : Y) → slice_get xs i ≡ Some x → slice_index_or (map f xs) i d ≡ f x
seen f [] i x d e = absurd (cc)
seen f (y ∷ ys) zero x d e = ap f (same_Some y x e)
seen f (y ∷ ys) (suc i) x d e = seen f ys i x d e

-- one that looks as the one before
pub seen_same : {X Y : Type 0} (f : X → Y) (xs : List X) (i : ℕ) (x y : X) → slice_get xs i ≡ Some x → f y ≡ f x → map f (slice_set xs i y) ≡ map f xs
seen_same f [] i x y e same = refl
seen_same f (z ∷ zs) zero x y e same = ap (λ v. v ∷ map f zs) (same ∙ ap f (sym (same_Some z x e)))
seen_same f (z ∷ zs) (suc i) x y e same = ap (λ vs. f z ∷ vs) (seen_same f zs i x y e same)
