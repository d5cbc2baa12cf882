-- A set of slots is the number whose bit n is 1 for each member n.
use Rattle.std.specs.Prelude.{◌≡◌, ℕ, ◌<◌, ◌≤◌, ◌==◌, Bool, true, false}
use Rattle.std.specs.Int.{bit_at}

-- how many slots there can be
abbrev pub most_slots : ℕ
most_slots = 32

-- whether a slot is in a set
abbrev pub is_in : ℕ → ℕ → Bool
is_in set slot = bit_at set slot == 1

-- no slot from one on is in a set
abbrev pub HasNoneFrom : ℕ → ℕ → Type 0
HasNoneFrom set from = (slot : ℕ) → from ≤ slot → is_in set slot ≡ false

-- the first member from a slot on
pub record IsFirstFrom (set from slot : ℕ) : Type 0 where
  pub past : from ≤ slot
  pub within : slot < most_slots
  pub member : is_in set slot ≡ true
  pub before : (n : ℕ) → from ≤ n → n < slot → is_in set n ≡ false
