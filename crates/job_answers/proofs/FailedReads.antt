-- The reads that failed between several moments.
use Rattle.std.proofs.Common.{ℕ, List, [], ◌∷◌, ◌++◌, refl, ◌∙◌, ap, arith}
use Rattle.dsu_io.specs.Causes.{FailedReads, NoneFailed, ReadFailed}

-- where nothing was read none failed
pub none_yet : (faults : FailedReads) → NoneFailed faults faults
none_yet faults = record { later = omega arith; same = refl }

-- none failed, and then none again
pub none_then : (before mid now : FailedReads) → NoneFailed before mid → NoneFailed mid now → NoneFailed before now
none_then before mid now first second =
    let up = first.later in
    let on = second.later in
    record { later = omega (arith, up, on); same = second.same ∙ first.same }

-- none failed, and then one
pub failed_then : (name : List ℕ) (before mid now : FailedReads) → NoneFailed before mid → ReadFailed name mid now
    → ReadFailed name before now
failed_then name before mid now first second =
    let up = first.later in
    let rose = second.rose in
    record { rose = omega (arith, up, rose); named = second.named ∙ ap (λ names. names ++ name ∷ []) first.same }
