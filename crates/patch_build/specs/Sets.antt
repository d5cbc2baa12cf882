-- Sets of ids to which a name is added, for the contracts of private functions.
use Rattle.std.specs.Prelude.{◌≡◌, ℕ, ◌<◌, ◌↔◌, ◌⊎◌, List, length}
use Rattle.name_sets.specs.IdSet.{Holds}
use Rattle.name_sets.specs.Texts.{text_of}
use Rattle.c_tree.specs.BareExpr.{Bytes}

-- a set has what it had and the name
abbrev pub AddsName : List Bytes → ℕ → Bytes → ℕ → Type 0
AddsName names old name new =
    (id : ℕ) → id < length names → Holds new id ↔ (Holds old id ⊎ (text_of names id ≡ name))
