-- Facts of lists, truth values and options.
use Rattle.std.proofs.Common.{◌∙◌, ◌≡◌, ℕ, zero, suc, ◌<◌, Bool, true, false, List, [], ◌∷◌, Contains, length, slice_index_or, Option, Some, None, refl, sym, ap, subst, arith, inl, inr}
use Rattle.std.specs.Prelude.{◌⊎◌, IsTrue, ◌||◌, ◌&&◌}

pub never : false ≡ true → ⊥
never e = cc

pub left_true : (a b : Bool) → IsTrue a → IsTrue (a || b)
left_true true b e = refl
left_true false b e = absurd (never e)

pub right_true : (a b : Bool) → IsTrue b → IsTrue (a || b)
right_true true b e = refl
right_true false b e = e

pub either_true : (a b : Bool) → IsTrue (a || b) → IsTrue a ⊎ IsTrue b
either_true true b e = inl refl
either_true false b e = inr e

pub both_true : (a b : Bool) → IsTrue a → IsTrue b → IsTrue (a && b)
both_true true b e f = f
both_true false b e f = absurd (never e)

pub left_of_both : (a b : Bool) → IsTrue (a && b) → IsTrue a
left_of_both true b e = refl
left_of_both false b e = absurd (never e)

pub right_of_both : (a b : Bool) → IsTrue (a && b) → IsTrue b
right_of_both true b e = e
right_of_both false b e = absurd (never e)

-- ---- members

contains_at : (q r : ℕ) (qs : List ℕ) (k : ℕ) → k < length (q ∷ qs) → slice_index_or (q ∷ qs) k r ≡ r → (r ≡ q) ⊎ Contains qs r
contains_at q r qs zero h e = inl (sym e)
contains_at q r qs (suc k) h e = inr (k, omega (arith, h), e)

pub contains_cases : (q r : ℕ) (qs : List ℕ) → Contains (q ∷ qs) r → (r ≡ q) ⊎ Contains qs r
contains_cases q r qs c = contains_at q r qs c.0 c.1 c.2

pub contains_none : (r : ℕ) → Contains [] r → ⊥
contains_none r c = omega (arith, c.1)

pub contains_one : (q r : ℕ) → Contains (q ∷ []) r → r ≡ q
contains_one q r c = elim (contains_cases q r [] c) [ inl e ↦ e | inr d ↦ absurd (contains_none r d) ]

pub contains_first : (q : ℕ) (qs : List ℕ) → Contains (q ∷ qs) q
contains_first q qs = (0, omega arith, refl)

pub contains_later : (q r : ℕ) (qs : List ℕ) → Contains qs r → Contains (q ∷ qs) r
contains_later q r qs c = (suc c.0, omega (arith, c.1), c.2)

-- ---- options

pub same_item : {A : Type 0} {o : Option A} {x y : A} → o ≡ Some x → o ≡ Some y → x ≡ y
same_item {A} {o} {x} {y} e f = ap held (sym e ∙ f)
  where
    held : Option A → A
    held None = x
    held (Some z) = z

pub none_some : {A : Type 0} {o : Option A} {x : A} → o ≡ None → o ≡ Some x → ⊥
none_some {A} {o} {x} e f = subst filled (sym f ∙ e) tt
  where
    filled : Option A → Type 0
    filled None = ⊥
    filled (Some y) = Unit {0}
