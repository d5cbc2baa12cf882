-- The ids of a set that a table of names has.
use Rattle.std.specs.Prelude.{ℕ, ◌<◌, ◌↔◌, List, length}
use Rattle.name_sets.specs.IdSet.{Holds}
use Rattle.c_tree.specs.BareExpr.{Bytes}

-- a table has each id of a set
abbrev pub AreKnown : List Bytes → ℕ → Type 0
AreKnown names set = (id : ℕ) → Holds set id → id < length names

-- some ids are those of a set that a table has
abbrev pub IsKnownPart : List Bytes → ℕ → ℕ → Type 0
IsKnownPart names set ids = (id : ℕ) → Holds ids id ↔ (Holds set id × (id < length names))
