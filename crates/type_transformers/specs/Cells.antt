-- The new cells of a global whose type changes.
use Rattle.std.specs.Prelude.{◌-◌, List, [], ◌∷◌, ◌++◌, length, take, replicate}
use Rattle.c_semantics.specs.Values.{Value}
use Rattle.constant_values.specs.Kinds.{zero_of_kind, converted_to_kind}
use Rattle.versioned_structs.specs.Formulas.{value_in}
use Rattle.type_transformers.specs.declared.global.GlobalChange.{GlobalChange}
use Rattle.type_transformers.specs.declared.global.GlobalChange.TheVariants.{Given, Copied, Zero}

-- from the old cells: one that is given, those below the shorter length with zeros after them, or zeros
abbrev pub cells_by : GlobalChange → List Value → List Value
cells_by (Given kind formula) cells = converted_to_kind kind (value_in cells formula) ∷ []
cells_by (Copied n kind) cells = take n cells ++ replicate (n - length cells) (zero_of_kind kind)
cells_by (Zero n kind) cells = replicate n (zero_of_kind kind)
