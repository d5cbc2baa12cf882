-- How the cells of globals come from old ones, for the contracts of private functions.
use Rattle.std.specs.Prelude.{◌≡◌, Bool, true, false, List, Option}
use Rattle.c_tree.specs.BareExpr.{BareType, BareExpr}
use Rattle.c_tree.specs.BareDef.{BareDef, Global, Array}
use Rattle.c_semantics.specs.Same.{same_type}
use Rattle.c_semantics.specs.Values.{Value}
use Rattle.c_semantics.specs.Transformers.{new_cells}
use Rattle.type_transformers.specs.declared.global.GlobalChange.{GlobalChange}
use Rattle.type_transformers.specs.Cells.{cells_by}
use Rattle.type_transformers.specs.Hows.{how_global, how_of_global}

-- a change gives the cells of a global, by its two definitions and its transformer's expression
pub record IsGlobalBy (old new : Option BareDef) (given : Option BareExpr) (change : GlobalChange) : Type 0 where
  pub cells : (cells : List Value) → cells_by change cells ≡ new_cells old new given cells
  pub how : how_of_global change ≡ how_global old new given

-- a variable
abbrev pub is_variable : BareDef → Bool
is_variable (Global d) = true
is_variable _ = false

-- an array whose elements have a type
abbrev pub is_array_of : BareDef → BareType → Bool
is_array_of (Array t name n initial) u = same_type t u
is_array_of _ u = false
