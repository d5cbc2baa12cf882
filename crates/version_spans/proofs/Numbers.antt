-- Tests of numbers, and of the versions of entries.
use Rattle.std.proofs.Common.{◌≡◌, ℕ, suc, ◌≤◌, ◌<◌, max, ◌==◌, Bool, true, false, ◌&&◌, ◌||◌, List, [], ◌∷◌, refl, arith}
use Rattle.std.specs.Prelude.{nat_le}
use Rattle.std.specs.List.{list_any}
use Rattle.std.proofs.lemmas.Bool.{false≢true}
use Rattle.std.proofs.lemmas.Bool.Decides.{nat_tests}
use Rattle.source_model.specs.Versions.{greatest_of}

pub another : (v n : ℕ) → v ≤ n → (v == suc n) ≡ false
another v n h = grind (arith, nat_tests, h)

pub itself : (n : ℕ) → (n == n) ≡ true
itself n = grind (arith, nat_tests)

pub or_false : (b : Bool) → (b || false) ≡ b
or_false true = refl
or_false false = refl

pub or_true : (b : Bool) → (b || true) ≡ true
or_true true = refl
or_true false = refl

pub and_false : (b : Bool) → (b && false) ≡ false
and_false true = refl
and_false false = refl

pub and_true : (b : Bool) → (b && true) ≡ b
and_true true = refl
and_true false = refl

pub le_true : (a b : ℕ) → a ≤ b → nat_le a b ≡ true
le_true a b h = grind (arith, nat_tests, h)

pub le_false : (a b : ℕ) → b < a → nat_le a b ≡ false
le_false a b h = grind (arith, nat_tests, h)

pub le_of : (a b : ℕ) → nat_le a b ≡ true → a ≤ b
le_of a b h = grind (arith, nat_tests, h)

pub below_of : (a b : ℕ) → nat_le a b ≡ false → b < a
below_of a b h = grind (arith, nat_tests, h)

-- a version of an entry is at most the greatest
in_list : (n : ℕ) (ns : List ℕ) → list_any (λ v. n == v) ns ≡ true → n ≤ greatest_of ns
in_list n [] h = absurd (false≢true h)
in_list n (m ∷ ns) h = by (n == m) refl (in_list n ns) h
  where
    here : (a b c : ℕ) → (a == b) ≡ true → a ≤ max b c
    here a b c e = let same : a ≡ b = grind (arith, nat_tests, e) in omega (arith, same)

    later : (a b c : ℕ) → a ≤ c → a ≤ max b c
    later a b c e = omega (arith, e)

    by : (b : Bool) → (n == m) ≡ b → (list_any (λ v. n == v) ns ≡ true → n ≤ greatest_of ns) → (b || list_any (λ v. n == v) ns) ≡ true
        → n ≤ max m (greatest_of ns)
    by true is rest i = here n m (greatest_of ns) is
    by false is rest i = later n m (greatest_of ns) (rest i)

pub not_yet : (n : ℕ) (vs : List ℕ) → greatest_of vs ≤ n → list_any (λ v. suc n == v) vs ≡ false
not_yet n vs h = by (list_any (λ v. suc n == v) vs) refl
  where
    by : (b : Bool) → list_any (λ v. suc n == v) vs ≡ b → b ≡ false
    by true e = let most = in_list (suc n) vs e in absurd (omega (arith, h, most))
    by false e = refl
