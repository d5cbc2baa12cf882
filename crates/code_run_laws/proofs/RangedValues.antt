-- Values in range, in lists that are read, written and cut.
use Rattle.std.proofs.Common.{ℕ, zero, suc, List, [], ◌∷◌, drop, get_or, set, arith}
use Rattle.c_semantics.specs.Values.{Value, int_of}
use Rattle.c_semantics.specs.Transformers.{first_cell}
use Rattle.tree_code.specs.Ranges.{Ranged, AllRanged}

pub zero_int : Ranged (int_of 0)
zero_int = (omega arith, omega arith)

pub first_ranged : (vs : List Value) → AllRanged vs → Ranged (first_cell vs)
first_ranged [] h = zero_int
first_ranged (v ∷ vs) h = h.0

pub ranged_at : (vs : List Value) (n : ℕ) → AllRanged vs → Ranged (get_or vs n (int_of 0))
ranged_at [] n h = zero_int
ranged_at (v ∷ vs) zero h = h.0
ranged_at (v ∷ vs) (suc n) h = ranged_at vs n h.1

pub ranged_set : (vs : List Value) (n : ℕ) (v : Value) → Ranged v → AllRanged vs → AllRanged (set vs n v)
ranged_set [] n v new h = tt
ranged_set (w ∷ vs) zero v new h = (new, h.1)
ranged_set (w ∷ vs) (suc n) v new h = (h.0, ranged_set vs n v new h.1)

pub ranged_drop : (n : ℕ) (vs : List Value) → AllRanged vs → AllRanged (drop n vs)
ranged_drop zero vs h = h
ranged_drop (suc n) [] h = tt
ranged_drop (suc n) (v ∷ vs) h = ranged_drop n vs h.1
