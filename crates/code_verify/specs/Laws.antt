-- What holds of each body.
use Rattle.std.specs.Prelude.{◌≡◌, ◌<◌, ℕ, length}
use Rattle.code_kinds.specs.WellFormed.{FunctionCode, WellFormed, BreaksAt}

-- no instruction breaks a body that is well formed
abbrev pub Excludes : FunctionCode → Type 0
Excludes u = WellFormed u → (n : ℕ) → n < length u.code → BreaksAt u n → ⊥

-- one instruction is the first that breaks a body
abbrev pub IsOnce : FunctionCode → Type 0
IsOnce u = (m n : ℕ) → BreaksAt u m → BreaksAt u n → m ≡ n
