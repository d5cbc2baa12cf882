-- Handles of objects, as words of 64 bits.
use Rattle.std.specs.Prelude.{ℕ, ◌+◌, ◌-◌, ◌*◌, ◌/◌, ◌%◌, ◌^◌}

-- the handle of the object that was created as the one of that number, counted from 1, and that has that slot
abbrev pub handle_of : (creation slot : ℕ) → ℕ
handle_of creation slot = creation * 2 ^ 32 + slot

-- the number of the creation that a handle is of
abbrev pub creation_of : ℕ → ℕ
creation_of handle = handle / 2 ^ 32

-- the slot that a handle is of
abbrev pub slot_of : ℕ → ℕ
slot_of handle = handle % 2 ^ 32

-- more objects than any store creates
abbrev pub creation_limit : ℕ
creation_limit = 2 ^ 32 - 1
