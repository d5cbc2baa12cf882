-- The current version is the greatest.
use Rattle.std.proofs.Common.{ℕ, zero, suc, ◌<◌, ◌≤◌, List, [], ◌∷◌, sym, subst, arith}
use Rattle.std.specs.Prelude.{max, Contains, length}
use Rattle.std.proofs.Math.Nat.{le-max_left, le-max_right, le_trans, le_refl}
use Rattle.source_model.specs.Versions.{Entry, Versioned, greatest_of, latest, current}
use Rattle.source_model.specs.Laws.{CurrentIsGreatest}

-- a number is at most the greatest of those among which it is
pub none_below_zero : (k : ℕ) → k < 0 → ⊥
none_below_zero k h = omega (arith, h)

pub less_by_one : (k n : ℕ) → suc k < suc n → k < n
less_by_one k n h = omega (arith, h)

pub at_most_left : (a b n : ℕ) → n ≤ a → n ≤ max a b
at_most_left a b n h = le_trans h (le-max_left a b)

pub at_most_right : (a b n : ℕ) → n ≤ b → n ≤ max a b
at_most_right a b n h = le_trans h (le-max_right a b)

pub among_greatest : (ns : List ℕ) (n : ℕ) → Contains ns n → n ≤ greatest_of ns
among_greatest [] n (k, below, is) = absurd (none_below_zero k below)
among_greatest (m ∷ ns) n (zero, below, is) = at_most_left m (greatest_of ns) n (subst (λ x. n ≤ x) (sym is) (le_refl n))
among_greatest (m ∷ ns) n (suc k, below, is) =
    at_most_right m (greatest_of ns) n (among_greatest ns n (k, less_by_one k (length ns) below, is))

pub in_latest : (es : List Entry) (e : Entry) (n : ℕ) → Contains es e → Contains e.versions n → n ≤ latest es
in_latest [] e n (k, below, is) h = absurd (none_below_zero k below)
in_latest (x ∷ es) e n (zero, below, is) h =
    at_most_left (greatest_of x.versions) (latest es) n
    (subst (λ (y : Entry). n ≤ greatest_of y.versions) (sym is) (among_greatest e.versions n h))
in_latest (x ∷ es) e n (suc k, below, is) h =
    at_most_right (greatest_of x.versions) (latest es) n (in_latest es e n (k, less_by_one k (length es) below, is) h)

pub current_is_greatest : CurrentIsGreatest
current_is_greatest [] v e n (k, below, is) in_name in_entry = absurd (none_below_zero k below)
current_is_greatest (x ∷ vs) v e n (zero, below, is) in_name in_entry =
    at_most_left (latest x.entries) (current vs) n
    (subst (λ (y : Versioned). n ≤ latest y.entries) (sym is) (in_latest v.entries e n in_name in_entry))
current_is_greatest (x ∷ vs) v e n (suc k, below, is) in_name in_entry =
    at_most_right (latest x.entries) (current vs) n
    (current_is_greatest vs v e n (k, less_by_one k (length vs) below, is) in_name in_entry)
