-- When a fault may be answered: only where a count of faults has risen.
use Rattle.std.specs.Prelude.{◌≡◌, ℕ, ◌+◌, ◌-◌, ◌^◌, ◌≤◌, min, List, [], ◌∷◌, ◌++◌, Result, OnErr}

-- a count went up, or is at the greatest number it can hold
abbrev pub Rose : ℕ → ℕ → Type 0
Rose before now = min (before + 1) (2 ^ 64 - 1) ≤ now

-- a count never falls, and it rose where the call failed
pub record HasCause {T E : Type 0} (before now : ℕ) (result : Result T E) : Type 0 where
  pub later : before ≤ now
  pub failed : OnErr result (Rose before now)

-- the reads that failed so far: how many were counted, and the names of their files in order
pub record FailedReads : Type 0 where
  pub count : ℕ
  pub names : List (List ℕ)

-- one read failed in between: that of a file with this name
pub record ReadFailed (name : List ℕ) (before now : FailedReads) : Type 0 where
  pub rose : Rose before.count now.count
  pub named : now.names ≡ before.names ++ name ∷ []

-- no read failed in between
pub record NoneFailed (before now : FailedReads) : Type 0 where
  pub later : before.count ≤ now.count
  pub same : now.names ≡ before.names
