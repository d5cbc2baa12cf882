-- Copies of transforms, for the contracts of private functions.
use Rattle.std.specs.Prelude.{◌≡◌, List, length}
use Rattle.c_semantics.specs.Values.{Value}
use Rattle.versioned_structs.specs.declared.formula.Formula.{Formula}
use Rattle.versioned_structs.specs.declared.transform.FieldChange.{FieldChange}
use Rattle.versioned_structs.specs.Formulas.{value_in}
use Rattle.versioned_structs.specs.Transforms.{new_value, new_values}

-- a formula has the values of another
abbrev pub IsFormulaCopy : Formula → Formula → Type 0
IsFormulaCopy f copy = (old : List Value) → value_in old copy ≡ value_in old f

-- a change gives the values of another
abbrev pub IsCopy : FieldChange → FieldChange → Type 0
IsCopy change copy = (old : List Value) → new_value old copy ≡ new_value old change

-- changes give the values of others
pub record AreCopies (changes copies : List FieldChange) : Type 0 where
  pub count : length copies ≡ length changes
  pub values : (old : List Value) → new_values copies old ≡ new_values changes old
