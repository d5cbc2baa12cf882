-- Laws of comparisons.
use Rattle.std.specs.Prelude.{◌≡◌, ◌≢◌, ◌↔◌, ℕ, List, Some, None, take, slice_get}
use Rattle.run_crosscheck.specs.Comparisons.{first_difference}

-- there is no first difference exactly where both are equal
abbrev pub AgreementIsEquality : Type 0
AgreementIsEquality = (a b : List ℕ) → first_difference a b ≡ None ↔ a ≡ b

-- before it both are the same, and there they aren't
abbrev pub DifferencesAreFirst : Type 0
DifferencesAreFirst =
    (a b : List ℕ) (place : ℕ) → first_difference a b ≡ Some place
    → (take place a ≡ take place b) × (slice_get a place ≢ slice_get b place)
