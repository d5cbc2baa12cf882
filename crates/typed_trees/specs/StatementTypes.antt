-- The types of resolved statements (6.8) and bodies.
use Rattle.std.specs.Prelude.{◌≡◌, Bool, true, false, ◌||◌, List, [], ◌∷◌, Option, Some, None}
use Rattle.c_tree.specs.BareExpr.{Bytes, BareType}
use Rattle.c_tree.specs.BareDef.{BareBinding}
use Rattle.c_semantics.specs.Texts.{Definitions}
use Rattle.c_semantics.specs.Resolved.{Expression, Statement, Statements, Block, Empty, Evaluate, Declare, If, IfElse, While, DoWhile, For, Break, Continue, Return, UpdatePoint, Transaction, NoStatements, StatementThen}
use Rattle.typed_trees.specs.ValueTypes.{Environment}
use Rattle.typed_trees.specs.ExpressionTypes.{IsScalar, IsTyped, type_of}

-- what is declared after a declaration: its variable too, in the innermost scope
abbrev pub with_variable : BareType → Bytes → Environment → Environment
with_variable type name [] = (record { declared = type; name = name } ∷ []) ∷ []
with_variable type name (bindings ∷ outer) = (record { declared = type; name = name } ∷ bindings) ∷ outer

-- after a statement, and after several
abbrev pub declares : Statement → Environment → Environment
declares (Declare type name initial) env = with_variable type name env
declares _ env = env

abbrev pub declare_all : Statements → Environment → Environment
declare_all NoStatements env = env
declare_all (StatementThen s ss) env = declare_all ss (declares s env)

-- a statement that declares nothing for what is after it, as the parts of an `if` and the body of a loop are
abbrev pub IsPart : Statement → Type 0
IsPart (Declare type name initial) = ⊥
IsPart _ = Unit {0}

-- a condition (6.8.4.1 paragraph 1, 6.8.5 paragraph 2)
abbrev pub IsCondition : Definitions → Environment → Expression → Type 0
IsCondition look env e = IsTyped look env e × IsScalar (type_of look env e)

abbrev pub ConditionIf : Definitions → Environment → Option Expression → Type 0
ConditionIf look env None = Unit {0}
ConditionIf look env (Some e) = IsCondition look env e

abbrev pub TypedIf : Definitions → Environment → Option Expression → Type 0
TypedIf look env None = Unit {0}
TypedIf look env (Some e) = IsTyped look env e

-- the first value of a variable of a type; the variable is known in it
abbrev pub InitialIf : Definitions → Environment → BareType → Option Expression → Type 0
InitialIf look env type None = Unit {0}
InitialIf look env type (Some e) = IsTyped look env e × (type_of look env e ≡ type)

-- a statement, and statements in order, in a function with that result
abbrev mutual
  pub StatementTyped : Definitions → BareType → Environment → Statement → Type 0
  StatementTyped look result env (Block ss) = StatementsTyped look result ([] ∷ env) ss
  StatementTyped look result env Empty = Unit {0}
  StatementTyped look result env (Evaluate e) = IsTyped look env e
  StatementTyped look result env (Declare type name initial) = InitialIf look (with_variable type name env) type initial
  StatementTyped look result env (If c s) = IsCondition look env c × StatementTyped look result env s × IsPart s
  StatementTyped look result env (IfElse c s t) =
      IsCondition look env c × StatementTyped look result env s × StatementTyped look result env t × IsPart s × IsPart t
  StatementTyped look result env (While c s) = IsCondition look env c × StatementTyped look result env s × IsPart s
  StatementTyped look result env (DoWhile s c) = IsCondition look env c × StatementTyped look result env s × IsPart s
  StatementTyped look result env (For first test step s) =
      let inner = declare_all first ([] ∷ env) in
      StatementsTyped look result ([] ∷ env) first × ConditionIf look inner test × TypedIf look inner step
      × StatementTyped look result inner s × IsPart s
  StatementTyped look result env Break = Unit {0}
  StatementTyped look result env Continue = Unit {0}
  StatementTyped look result env (Return e) = IsTyped look env e × (type_of look env e ≡ result)
  StatementTyped look result env UpdatePoint = Unit {0}
  StatementTyped look result env (Transaction ss) = StatementsTyped look result ([] ∷ env) ss

  pub StatementsTyped : Definitions → BareType → Environment → Statements → Type 0
  StatementsTyped look result env NoStatements = Unit {0}
  StatementsTyped look result env (StatementThen s ss) =
      StatementTyped look result env s × StatementsTyped look result (declares s env) ss

-- whether a `break` or `continue` leads out of a statement
abbrev mutual
  pub jumps : Statement → Bool
  jumps (Block ss) = some_jump ss
  jumps (If c s) = jumps s
  jumps (IfElse c s t) = jumps s || jumps t
  jumps (For first test step s) = some_jump first
  jumps Break = true
  jumps Continue = true
  jumps (Transaction ss) = some_jump ss
  jumps _ = false

  pub some_jump : Statements → Bool
  some_jump NoStatements = false
  some_jump (StatementThen s ss) = jumps s || some_jump ss

-- the body of a function with these parameters
pub record BodyTyped (look : Definitions) (result : BareType) (parameters : List BareBinding) (body : Statements) : Type 0 where
  pub statements : StatementsTyped look result (parameters ∷ []) body
  pub stays : some_jump body ≡ false
