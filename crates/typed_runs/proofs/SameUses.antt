-- Where the interface of a name stays, so do the types that its uses rely on.
use Rattle.std.proofs.Common.{◌≡◌, true, false, List, Option, Some, None, refl, ap, ◌∙◌}
use Rattle.c_tree.specs.BareExpr.{Bytes, BareType}
use Rattle.c_tree.specs.BareStmt.{BareStmts}
use Rattle.c_tree.specs.BareDef.{BareBinding, BareDef, Struct, Mutex, Function, Global, Array}
use Rattle.c_semantics.specs.Texts.{global_type, members_of, result_type}
use Rattle.c_semantics.specs.Changes.{agree, same_interface}
use Rattle.definition_laws.specs.EqualParts.{HaveEqualInterfaces}
use Rattle.definition_laws.proofs.SameDefinitions.{interface_equal_if_same}
use Rattle.typed_transformers.specs.TransformerTypes.{HasCells}
use Rattle.typed_trees.specs.ExpressionTypes.{IsArray, IsFunction, IsStruct, IsVariable, parameter_types}

no : false ≡ true → ⊥
no e = cc

-- what is used of a name is the same by both definitions
pub record SameUse (o u : Option BareDef) : Type 0 where
  pub global_is : global_type o ≡ global_type u
  pub result_is : result_type o ≡ result_type u
  pub parameters_are : parameter_types o ≡ parameter_types u
  pub members_are : members_of o ≡ members_of u
  pub variable : IsVariable o → IsVariable u
  pub array : IsArray o → IsArray u
  pub function : IsFunction o → IsFunction u
  pub struct : IsStruct o → IsStruct u

results : (r q : Option BareType) (n m : Bytes) (ps qs : List BareBinding) (body code : BareStmts) → r ≡ q
    → result_type (Some (Function r n ps body)) ≡ result_type (Some (Function q m qs code))
results r q n m ps qs body code e = ap (λ x. result_type (Some (Function x n ps body))) e ∙ same q
  where
    same : (q : Option BareType) → result_type (Some (Function q n ps body)) ≡ result_type (Some (Function q m qs code))
    same None = refl
    same (Some t) = refl

pub equal_uses : (a b : BareDef) → HaveEqualInterfaces a b → SameUse (Some a) (Some b)
equal_uses (Struct tag ms) (Struct other ns) h = record {
  global_is = refl;
  result_is = refl;
  parameters_are = refl;
  members_are = h;
  variable = λ x. x;
  array = λ x. x;
  function = λ x. x;
  struct = λ x. x;
}
equal_uses (Mutex n) (Mutex m) h = record {
  global_is = refl;
  result_is = refl;
  parameters_are = refl;
  members_are = refl;
  variable = λ x. x;
  array = λ x. x;
  function = λ x. x;
  struct = λ x. x;
}
equal_uses (Function r n ps body) (Function q m qs code) h = record {
  global_is = refl;
  result_is = results r q n m ps qs body code h.0;
  parameters_are = h.1;
  members_are = refl;
  variable = λ x. x;
  array = λ x. x;
  function = λ x. x;
  struct = λ x. x;
}
equal_uses (Global d) (Global e) h = record {
  global_is = h;
  result_is = refl;
  parameters_are = refl;
  members_are = refl;
  variable = λ x. x;
  array = λ x. x;
  function = λ x. x;
  struct = λ x. x;
}
equal_uses (Array t n k values) (Array u m l others) h = record {
  global_is = h.0;
  result_is = refl;
  parameters_are = refl;
  members_are = refl;
  variable = λ x. x;
  array = λ x. x;
  function = λ x. x;
  struct = λ x. x;
}
equal_uses _ _ h = absurd h

pub same_use : (o u : Option BareDef) → agree same_interface o u ≡ true → SameUse o u
same_use (Some a) (Some b) h = equal_uses a b (interface_equal_if_same a b h)
same_use (Some a) None h = absurd (no h)
same_use None u h = absurd (no h)

-- a variable and an array have cells
pub variable_cells : (o : Option BareDef) → IsVariable o → HasCells o
variable_cells (Some (Global d)) h = tt
variable_cells _ h = absurd h

pub array_cells : (o : Option BareDef) → IsArray o → HasCells o
array_cells (Some (Array t n k values)) h = tt
array_cells _ h = absurd h
