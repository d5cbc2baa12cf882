-- The slots of threads.
use Rattle.std.specs.Prelude.{ℕ, ◌<◌, Option, Some, None, ⊤}

-- how many threads a run has at once at most, each in a slot
abbrev pub most_slots : ℕ
most_slots = 16

-- a holder is a thread in a slot
abbrev pub IsHolder : Option ℕ → Type 0
IsHolder None = ⊤
IsHolder (Some slot) = slot < most_slots
