-- A text up to its first newline.
use Rattle.std.proofs.Common.{◌≡◌, ◌∙◌, ℕ, zero, suc, ◌<◌, ◌≤◌, List, [], ◌∷◌, ◌++◌, length, get_or, take, refl, ap, arith, eqb, true, false, codes}
use Rattle.std.specs.Prelude.{◌==◌}
use Rattle.std.specs.List.{list_any}
use Rattle.std.proofs.lemmas.Bool.{eqb-true, false_from_ne_true}
use Rattle.noted_reports.specs.NotedReports.{IsLine}

-- a place with a newline ends what is before it
ends_at : (xs : List ℕ) (k : ℕ) → eqb (get_or xs k 0) 10 ≡ true → k < length xs → take (suc k) xs ≡ take k xs ++ codes "\n"
ends_at [] k here within = absurd (omega (arith, within))
ends_at (x ∷ xs) zero here within = ap (λ c. c ∷ []) (eqb-true x 10 here)
ends_at (x ∷ xs) (suc k) here within = ap (λ cs. x ∷ cs) (ends_at xs k here (omega (arith, within)))

-- where it is the first, there is none before it
none_before : (xs : List ℕ) (k : ℕ) → ((j : ℕ) → 0 ≤ j → j < k → eqb (get_or xs j 0) 10 ≡ true → ⊥) → k < length xs
    → list_any (λ b. b == 10) (take k xs) ≡ false
none_before [] k none within = absurd (omega (arith, within))
none_before (x ∷ xs) zero none within = refl
none_before (x ∷ xs) (suc k) none within =
    let other : eqb x 10 ≡ false = false_from_ne_true (eqb x 10) (none 0 (omega arith) (omega arith)) in
    rw other (none_before xs k (λ j low below. none (suc j) (omega arith) (omega arith)) (omega (arith, within)))

pub line_up_to : (xs : List ℕ) (k : ℕ) → ((j : ℕ) → 0 ≤ j → j < k → eqb (get_or xs j 0) 10 ≡ true → ⊥) → eqb (get_or xs k 0) 10 ≡ true
    → k < length xs → IsLine (take (suc k) xs)
line_up_to xs k none here within =
    record { bytes = take k xs; ends = ends_at xs k here within; only = none_before xs k none within }
