-- What statements declare, and shapes in the scope of more variables.
use Rattle.std.proofs.Common.{◌≡◌, ℕ, true, IsTrue, List, [], ◌∷◌, ◌++◌, length, bytes_eq, Some, refl, sym, ap, ◌∙◌, append_assoc}
use Rattle.std.proofs.lemmas.Slice.Eq.{bytes_eq-Decides}
use Rattle.std.specs.Prelude.{if◌then◌else◌, cond}
use Rattle.std.specs.Option.{is_some, option_map_or}
use Rattle.c_tree.specs.BareExpr.{Bytes, BareType}
use Rattle.c_tree.specs.BareDef.{BareBinding}
use Rattle.c_semantics.specs.Texts.{bound, bound_type, int}
use Rattle.c_semantics.specs.Resolved.{Statement, Statements, Declare, NoStatements, StatementThen}
use Rattle.typed_trees.specs.ValueTypes.{Environment, in_scope}
use Rattle.typed_trees.specs.StatementTypes.{with_variable, declares, declare_all, IsPart}
use Rattle.tree_code.specs.Code.{slot, slot_in}
use Rattle.code_kinds.specs.Shapes.{Shape}
use Rattle.formed_code.specs.FormedLaws.{kinds_of}
use Rattle.formed_code.proofs.Words.{kinds_append, shape}
use Rattle.formed_code.proofs.Segments.{Extends}

-- the shape between statements, in so many transactions
abbrev pub between : ℕ → Environment → Shape
between tr env = shape tr (kinds_of (in_scope env)) []

-- more variables are in scope
pub record Longer (env inner : Environment) : Type 0 where
  pub later : List BareBinding
  pub scope : in_scope inner ≡ later ++ in_scope env

pub as_long : (env : Environment) → Longer env env
as_long env = record { later = []; scope = refl }

pub declared : (type : BareType) (name : Bytes) (env : Environment)
    → in_scope (with_variable type name env) ≡ record { declared = type; name = name } ∷ in_scope env
declared type name [] = refl
declared type name (bindings ∷ outer) = refl

pub after_one : (s : Statement) (env : Environment) → Longer env (declares s env)
after_one (Declare type name e) env = record { later = record { declared = type; name = name } ∷ []; scope = declared type name env }
after_one s env = as_long env

longer_on : (env inner deeper : Environment) → Longer env inner → Longer inner deeper → Longer env deeper
longer_on env inner deeper a b = record {
  later = b.later ++ a.later;
  scope = b.scope ∙ ap (λ x. b.later ++ x) a.scope ∙ sym (append_assoc b.later a.later (in_scope env));
}

pub after_all : (ss : Statements) (env : Environment) → Longer env (declare_all ss env)
after_all NoStatements env = as_long env
after_all (StatementThen s ss) env =
    longer_on env (declares s env) (declare_all ss (declares s env)) (after_one s env) (after_all ss (declares s env))

-- the statements of a block
pub after_block : (ss : Statements) (env : Environment) → Longer env (declare_all ss ([] ∷ env))
after_block ss env = let l = after_all ss ([] ∷ env) in record { later = l.later; scope = l.scope }

pub extends_by : (tr : ℕ) (env inner : Environment) → Longer env inner → Extends (between tr inner) (between tr env)
extends_by tr env inner l = record {
  stack = refl;
  transactions = refl;
  due = refl;
  dropped = kinds_of l.later;
  variables = ap kinds_of l.scope ∙ kinds_append l.later (in_scope env);
}

pub extends_on : {s x y : Shape} → Extends s x → Extends x y → Extends s y
extends_on {s} {x} {y} a b = record {
  stack = b.stack ∙ a.stack;
  transactions = b.transactions ∙ a.transactions;
  due = b.due ∙ a.due;
  dropped = b.dropped ++ a.dropped;
  variables = a.variables ∙ ap (λ z. z ++ a.dropped) b.variables ∙ append_assoc y.variables b.dropped a.dropped;
}

pub part_keeps : (s : Statement) (env : Environment) → IsPart s → declares s env ≡ env
part_keeps (Declare type name e) env h = absurd h
part_keeps s env h = refl

-- ---- the variable that was declared last

same_name : (name : Bytes) → bytes_eq name name ≡ true
same_name name = (bytes_eq-Decides name name).1 refl

module _ (type : BareType) (name : Bytes) (bs : List BareBinding) where
  abbrev newest : BareBinding
  newest = record { declared = type; name = name }

  last_slot : slot_in (newest ∷ bs) name ≡ length bs
  last_slot = ap (λ b. if b then length bs else slot_in bs name) (same_name name)

  last_bound : bound (newest ∷ bs) name ≡ Some newest
  last_bound = ap (λ b. cond b (Some newest) (bound bs name)) (same_name name)

pub newest_slot : (type : BareType) (name : Bytes) (env : Environment) → slot (with_variable type name env) name ≡ length (in_scope env)
newest_slot type name env = ap (λ bs. slot_in bs name) (declared type name env) ∙ last_slot type name (in_scope env)

newest_bound : (type : BareType) (name : Bytes) (env : Environment)
    → bound (in_scope (with_variable type name env)) name ≡ Some (record { declared = type; name = name })
newest_bound type name env = ap (λ bs. bound bs name) (declared type name env) ∙ last_bound type name (in_scope env)

pub newest_is : (type : BareType) (name : Bytes) (env : Environment) → IsTrue (is_some (bound (in_scope (with_variable type name env)) name))
newest_is type name env = ap is_some (newest_bound type name env)

pub newest_type : (type : BareType) (name : Bytes) (env : Environment) → bound_type (in_scope (with_variable type name env)) name ≡ type
newest_type type name env = ap (λ o. option_map_or (λ b. b.declared) o int) (newest_bound type name env)
