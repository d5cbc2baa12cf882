-- The values of formulas. They are those of constant expressions (c_semantics/specs/Constants.antt), but that a formula
-- has the place of an old value where an expression has a name.
use Rattle.std.specs.Prelude.{List, slice_index_or}
use Rattle.c_semantics.specs.Values.{Value, Number, int_of, is_true}
use Rattle.c_semantics.specs.Constants.{wrapped, wrapped_unary, chosen}
use Rattle.constant_values.specs.Kinds.{converted_to_kind}
use Rattle.versioned_structs.specs.declared.formula.Formula.{Formula}
use Rattle.versioned_structs.specs.declared.formula.Formula.TheFolds.{fold-Formula}
use Rattle.versioned_structs.specs.declared.formula.FormulaNode.{FormulaNode}
use Rattle.versioned_structs.specs.declared.formula.FormulaNode.TheVariants.{Constant, Old, Unary, Cast, Binary, Choice}

-- the value of a formula by the values of its parts
abbrev pub node_value : List Value → FormulaNode Value → Value
node_value old (Constant n) = Number n
node_value old (Old place) = slice_index_or old place (int_of 0)
node_value old (Unary op a) = wrapped_unary op a
node_value old (Cast kind a) = converted_to_kind kind a
node_value old (Binary op a b) = wrapped op a b
node_value old (Choice c a b) = chosen (is_true c) a b

-- the value of a formula over the old values
abbrev pub value_in : List Value → Formula → Value
value_in old = fold-Formula Value (λ f. node_value old f.node)
