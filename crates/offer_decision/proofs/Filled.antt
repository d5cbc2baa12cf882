-- Arrays that are filled by index.
use Rattle.std.proofs.Common.{◌≡◌, ℕ, zero, suc, ◌+◌, ◌<◌, ◌⊎◌, inl, inr, List, [], ◌∷◌, Some, refl, sym, ap, subst, ◌∙◌, arith}
use Rattle.std.specs.Prelude.{slice_get, slice_set}
use Rattle.std.proofs.lemmas.Bool.{cases_eq}

same_some : {A : Type 0} (x y : A) → Some x ≡ Some y → x ≡ y
same_some x y e = cc

pub set_here : {A : Type 0} (xs : List A) (k : ℕ) (y x : A) → slice_get (slice_set xs k y) k ≡ Some x → y ≡ x
set_here [] k y x at = cc
set_here (z ∷ xs) zero y x at = same_some y x at
set_here (z ∷ xs) (suc k) y x at = set_here xs k y x at

pub set_there : {A : Type 0} (xs : List A) (k j : ℕ) (y x : A) → (j ≡ k → ⊥) → slice_get (slice_set xs k y) j ≡ Some x → slice_get xs j ≡ Some x
set_there [] k j y x other at = at
set_there (z ∷ xs) zero zero y x other at = absurd (other refl)
set_there (z ∷ xs) zero (suc j) y x other at = at
set_there (z ∷ xs) (suc k) zero y x other at = at
set_there (z ∷ xs) (suc k) (suc j) y x other at = set_there xs k j y x (λ e. other (ap suc e)) at

-- what holds of the first items
abbrev pub AreFilled : {A : Type 0} → (ℕ → A → Type 0) → ℕ → List A → Type 0
AreFilled {A} R k xs = (n : ℕ) (x : A) → n < k → slice_get xs n ≡ Some x → R n x

pub none_filled : {A : Type 0} (R : ℕ → A → Type 0) (xs : List A) → AreFilled R 0 xs
none_filled R xs n x below at = absurd (omega (arith, below))

pub one_more : {A : Type 0} (R : ℕ → A → Type 0) (xs new : List A) (k : ℕ) (y : A) → new ≡ slice_set xs k y → R k y
    → AreFilled R k xs → AreFilled R (k + 1) new
one_more {A} R xs new k y is holds filled = λ n x below at. by n x below (ap (λ l. slice_get l n) (sym is) ∙ at) (cases_eq n k)
  where
    by : (n : ℕ) (x : A) → n < k + 1 → slice_get (slice_set xs k y) n ≡ Some x → (n ≡ k) ⊎ (n ≡ k → ⊥) → R n x
    by n x below at (inl here) =
        let same : y ≡ x = set_here xs k y x (ap (slice_get (slice_set xs k y)) (sym here) ∙ at) in
        subst (λ m. R m x) (sym here) (subst (R k) same holds)
    by n x below at (inr there) = filled n x (let l : n < k = omega (arith, below, there) in l) (set_there xs k n y x there at)
