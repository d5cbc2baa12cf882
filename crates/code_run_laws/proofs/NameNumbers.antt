-- The numbers of names: that of a name in a list leads back to it, and no two names there have one number.
use Rattle.std.proofs.Common.{◌≡◌, ℕ, zero, suc, ◌+◌, ◌<◌, Bool, true, false, not, cond, List, [], ◌∷◌, length, get_or, set, Contains, refl, sym, ap, ◌∙◌, bytes_eq, arith}
use Rattle.std.proofs.lemmas.Slice.Eq.{bytes_eq-Decides}
use Rattle.c_tree.specs.BareExpr.{Bytes}
use Rattle.code_runs.specs.CodeData.{number_of}

pub same_bytes : (a b : Bytes) → bytes_eq a b ≡ true → a ≡ b
same_bytes a b e = (bytes_eq-Decides a b).0 e

pub itself : (a : Bytes) → bytes_eq a a ≡ true
itself a = (bytes_eq-Decides a a).1 refl

pub both_ways : (b : Bool) → b ≡ true → b ≡ false → ⊥
both_ways b t f = cc

-- one place further in a longer list
pub next_place : {X : Type 0} (x : X) (xs : List X) (n : ℕ) (d : X) → get_or (x ∷ xs) (1 + n) d ≡ get_or xs n d
next_place x xs n d = let e : 1 + n ≡ suc n = omega arith in ap (λ m. get_or (x ∷ xs) m d) e

pub next_set : {X : Type 0} (x : X) (xs : List X) (n : ℕ) (y : X) → set (x ∷ xs) (1 + n) y ≡ x ∷ set xs n y
next_set x xs n y = let e : 1 + n ≡ suc n = omega arith in ap (λ m. set (x ∷ xs) m y) e

-- a name stands at a number of a list
pub record IsAt (names : List Bytes) (name : Bytes) (n : ℕ) : Type 0 where
  pub within : n < length names
  pub is : get_or names n [] ≡ name

number_from : (names : List Bytes) (name : Bytes) (k : ℕ) → k < length names → get_or names k name ≡ name → IsAt names name (number_of names name)
number_from [] name k h e = absurd (omega (arith, h))
number_from (x ∷ xs) name k h e = by (bytes_eq name x) refl k h e (number_from xs name)
  where
    by : (b : Bool) → bytes_eq name x ≡ b → (k : ℕ) → k < suc (length xs) → get_or (x ∷ xs) k name ≡ name
        → ((j : ℕ) → j < length xs → get_or xs j name ≡ name → IsAt xs name (number_of xs name))
        → IsAt (x ∷ xs) name (cond (not b) (1 + number_of xs name) 0)
    by true is k h e rest = record { within = omega arith; is = sym (same_bytes name x is) }
    by false is zero h e rest = absurd (both_ways (bytes_eq name x) (ap (bytes_eq name) e ∙ itself name) is)
    by false is (suc k) h e rest =
        let r = rest k (omega (arith, h)) e in
        record { within = omega (arith, r.within); is = next_place x xs (number_of xs name) [] ∙ r.is }

-- a name in a list stands at its number
pub number_is : (names : List Bytes) (name : Bytes) → Contains names name → IsAt names name (number_of names name)
number_is names name c = number_from names name c.0 c.1 c.2

-- names with one number are one name
pub numbers_apart : (names : List Bytes) (a b : Bytes) → Contains names a → Contains names b → number_of names a ≡ number_of names b → a ≡ b
numbers_apart names a b c d e = sym (number_is names a c).is ∙ ap (λ n. get_or names n []) e ∙ (number_is names b d).is
