-- Facts about tallies and fresh passes.
use Rattle.std.proofs.Common.{◌≡◌, ℕ, zero, suc, ◌+◌, ◌<◌, ◌≤◌, List, [], ◌∷◌, ◌++◌, length, get_or, sym, refl, ap, ◌∙◌, arith}
use Rattle.std.proofs.lemmas.List.{append-nil}
use mathlib.Core.List.{map-append}
use Rattle.atomic_table.specs.Seated.{TableId}
use Rattle.pass_lock.specs.Histories.{entry, Adds}
use Rattle.pass_lock.specs.Passes.{Known, fresh, fresh_from}
use Rattle.base_tests.specs.Tallies.{tallied, AreFresh}

pub none_added : (n : ℕ) (xs : List ℕ) → Adds {E = Unit {0}} n (tallied xs) [] (tallied xs)
none_added n xs = (sym (append-nil (tallied xs)), omega arith)

pub one_added : (n : ℕ) (xs : List ℕ) → Adds {E = Unit {0}} n (tallied xs) (tt ∷ []) (tallied (xs ++ n ∷ []))
one_added n xs = (map-append (λ (k : ℕ). entry {E = Unit {0}} k tt) xs (n ∷ []), omega arith)

pub fresh_count : (E : Type 0) (table : TableId) (n count : ℕ) → length (fresh_from {E = E} table n count) ≡ count
fresh_count E table n zero = refl
fresh_count E table n (suc count) = ap suc (fresh_count E table (suc n) count)

module _ {E : Type 0} where
  pub fresh_at : (table : TableId) (n count k : ℕ) (d : Known E) → k < count → get_or (fresh_from table n count) k d ≡ fresh table (n + k)
  fresh_at table n zero k d h = absurd (omega arith)
  fresh_at table n (suc count) zero d h = ap (λ (z : ℕ). fresh {E = E} table z) (let e : n ≡ n + 0 = omega arith in e)
  fresh_at table n (suc count) (suc k) d h = fresh_at table (suc n) count k d (omega arith) ∙ ap (λ (z : ℕ). fresh {E = E} table z) (let e : suc n + k ≡ n + suc k = omega arith in e)

pub fresh_ready : (table : TableId) (count : ℕ) (xs : List (Known (Unit {0}))) → xs ≡ fresh_from table 0 count → 0 < count → count ≤ 64 → (0 < length xs) × (length xs ≤ 64) × AreFresh table xs
fresh_ready table count xs is some_passes few = let n : length xs ≡ count = ap length is ∙ fresh_count (Unit {0}) table 0 count in (
  omega arith,
  omega arith,
  λ k d h. let at : get_or xs k d ≡ fresh table (0 + k) = ap (λ (l : List (Known (Unit {0}))). get_or l k d) is ∙ fresh_at table 0 count k d (omega arith) in
      let number : 0 + k ≡ k = omega arith in ((ap (λ (p : Known (Unit {0})). p.table) at, ap (λ (p : Known (Unit {0})). p.turn) at), ap (λ (p : Known (Unit {0})). p.number) at ∙ number),
)
