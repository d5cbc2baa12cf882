-- The functions of accepted texts resolve to typed trees, and each expression has one type.
use Rattle.std.specs.Prelude.{◌≡◌, ⊤, true, IsTrue, List, [], ◌∷◌, Some, option_map}
use Rattle.c_tree.specs.Bare.{bare_expr, bare_type}
use Rattle.c_tree.specs.BareDef.{BareBinding}
use Rattle.c_tree.specs.BareExpr.{Bytes}
use Rattle.c_tree.specs.declared.def.Def.{Def}
use Rattle.c_tree.specs.declared.expr.Expr.{Expr}
use Rattle.c_tree.specs.declared.name.CType.{CType}
use Rattle.c_scope.specs.Tables.{innermost}
use Rattle.c_expr_types.specs.Found.{faults_of, is_evaluated, type_of as type_found}
use Rattle.c_definitions.specs.Lookup.{Names, Scopes, is_known}
use Rattle.c_expr_types.specs.Expressions.{infer}
use Rattle.c_semantics.specs.Texts.{Definitions, bound, parameters_of, result_type}
use Rattle.c_semantics.specs.Resolution.{Resolved, resolved, resolved_body}
use Rattle.c_semantics.specs.SourceTexts.{Text}
use Rattle.typed_trees.specs.ValueTypes.{Environment, in_scope}
use Rattle.typed_trees.specs.ExpressionTypes.{IsTyped, type_of}
use Rattle.typed_trees.specs.StatementTypes.{BodyTyped}
use Rattle.frame_bodies.specs.AcceptedTexts.{IsAccepted, looked_up}

-- the body of each function of an accepted text is typed, with its result and its parameters, under the text's definitions
abbrev pub FunctionsAreTyped : Type 0
FunctionsAreTyped =
    (text : Text) (function : Bytes) → IsAccepted text
    → let look = looked_up text in
    BodyTyped look (result_type (look function)) (parameters_of (look function)) (resolved_body look (look function))

-- there is a block round a place
abbrev pub HasBlock : Scopes → Type 0
HasBlock [] = ⊥
HasBlock (block ∷ outer) = ⊤

-- the variables in scope are the same, with the same types, by the rules of types, in resolution and in an environment of typed
-- trees
pub record SameVariables (text : List Def) (scopes : Scopes) (locals : List BareBinding) (env : Environment) : Type 0 where
  pub within : HasBlock scopes
  pub in_resolution : (name : Bytes) → option_map (λ b. b.declared) (bound locals name) ≡ option_map bare_type (innermost scopes name)
  pub known : (name : Bytes) (t : CType) → innermost scopes name ≡ Some t → IsTrue (is_known text t)
  pub in_trees : (name : Bytes)
      → option_map (λ b. b.declared) (bound locals name) ≡ option_map (λ b. b.declared) (bound (in_scope env) name)

-- the type that the rules find of an expression is the one to which it is resolved, and the one that its tree has
pub record HasOneType (look : Definitions) (names : Names) (env : Environment) (e : Expr) (r : Resolved) : Type 0 where
  pub found : (t : CType) → type_found (infer names e).found ≡ Some t → r.type ≡ bare_type t
  pub typed : is_evaluated (infer names e).found ≡ true → IsTyped look env r.tree
  pub tree : is_evaluated (infer names e).found ≡ true → type_of look env r.tree ≡ r.type

-- each expression without faults, under the definitions of an accepted text and the variables in scope, has one type
abbrev pub ExpressionsHaveOneType : Type 0
ExpressionsHaveOneType =
    (text : Text) (names : Names) (locals : List BareBinding) (env : Environment) (e : Expr)
    → IsAccepted text → names.text ≡ text.tree.definitions → SameVariables names.text names.scopes locals env
    → faults_of (infer names e).found ≡ []
    → HasOneType (looked_up text) names env e (resolved (looked_up text) locals (bare_expr e))
