-- The places of names in a layout, for the contracts of private functions.
use Rattle.std.specs.Prelude.{ℕ, suc, List, [], ◌∷◌, Option, Some, None, option_map, bytes_eq, if◌then◌else◌}
use Rattle.c_tree.specs.BareExpr.{Bytes}
use Rattle.c_tree.specs.BareDef.{BareBinding}

-- the first place of a name
abbrev pub place_in : List BareBinding → Bytes → Option ℕ
place_in [] name = None
place_in (b ∷ bs) name = if bytes_eq name b.name then Some 0 else option_map suc (place_in bs name)
