-- What the word `old` means to a formula, for the contracts of private functions.
use Rattle.std.specs.Prelude.{◌≡◌, List, map}
use Rattle.c_tree.specs.Bare.{bare_binding}
use Rattle.c_tree.specs.BareExpr.{BareExpr}
use Rattle.c_semantics.specs.Values.{Value}
use Rattle.c_semantics.specs.Constants.{Old, constant}
use Rattle.c_semantics.specs.Transformers.{old_object, old_value, first_cell}
use Rattle.versioned_structs.specs.Formulas.{value_in}
use Rattle.versioned_structs.specs.Transforms.{variables}
use Rattle.versioned_structs.specs.declared.formula.Formula.{Formula}
use Rattle.type_transformers.specs.declared.formula.OldWord.{OldWord}
use Rattle.type_transformers.specs.declared.formula.OldWord.TheVariants.{Object, Cell}

-- by the old values: an object's fields, or the first of a global's cells
abbrev pub old_in : OldWord → List Value → Old
old_in (Object fields) values = old_object (variables (map bare_binding fields.now) values)
old_in Cell values = old_value (first_cell values)

-- over all old values the formula has the value of the expression
abbrev pub IsFormulaOf : OldWord → BareExpr → Formula → Type 0
IsFormulaOf old e formula = (values : List Value) → value_in values formula ≡ constant (old_in old values) e
