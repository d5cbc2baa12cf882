-- The tree of an expression without faults is typed, with the type that is found.
use Rattle.std.proofs.Common.{ℕ, List, [], ◌∷◌, map, sym, subst, subst₂}
use Rattle.c_tree.specs.BareExpr.{BareExpr}
use Rattle.c_tree.specs.BareDef.{BareBinding}
use Rattle.c_tree.specs.Bare.{bare_expr, bare_node}
use Rattle.c_tree.specs.declared.expr.Expr.{Expr, Expr-F}
use Rattle.c_tree.specs.declared.expr.Expr.TheFolds.{fold-roll-Expr, ind-Expr, map-Expr}
use Rattle.c_tree.specs.declared.expr.ExprNode.{ExprNode}
use Rattle.c_tree.specs.declared.expr.ExprNode.TheVariants.{Number, Character, Null, Success, Error, Variable, Unary, Step, Cast, Binary, And, Or, Choice, Assign, Update, Call, Element, Arrow, Dot, Print, Calloc, Free, Create, Join, JoinInto, InitMutex, Lock, Unlock}
use Rattle.c_expr_types.specs.declared.found.Part.{Part}
use Rattle.c_definitions.specs.Lookup.{Names}
use Rattle.c_expr_types.specs.Expressions.{infer, part}
use Rattle.c_semantics.specs.Resolution.{Resolved, resolved}
use Rattle.typed_uses.proofs.Faultless.{Clean}
use Rattle.typed_uses.proofs.SoundTexts.{Facts}
use Rattle.typed_uses.proofs.Lookups.{look}
use Rattle.typed_uses.proofs.Locals.{InStep}
use Rattle.typed_uses.proofs.Expressions as uses
use Rattle.typed_trees.specs.ValueTypes.{Environment}
use Rattle.typed_texts.proofs.FoundTypes.{Fits}
use Rattle.typed_texts.proofs.Nodes as nodes
use Rattle.typed_texts.proofs.Nodes.{Has, IfClean}
use Rattle.typed_texts.proofs.NamedNodes as named
use Rattle.typed_texts.proofs.NamedNodes.{EachHas, HasIn, InEnvironment}

module _ (names : Names) (locals : List BareBinding) (env : Environment) (facts : Facts names.text) (s : InStep names.text names.scopes locals)
    (within : InEnvironment locals env) where
  -- an expression's tree is typed, where it has no faults
  abbrev FitsIn : Expr → Type 0
  FitsIn e = Clean (infer names e).found → Fits names.text env (infer names e).found (resolved (look names.text) locals (bare_expr e))

  abbrev Proved : Type 0
  Proved = (e : Expr) × FitsIn e

  abbrev found : Proved → Part
  found e = infer names e.0

  abbrev made : Proved → Resolved
  made e = resolved (look names.text) locals (bare_expr e.0)

  has : (e : Proved) → IfClean names.text env (found e) (made e)
  has e clean = record { good = uses.expression names locals facts s e.0 clean; fits = e.1 clean }

  each : (es : List Proved) → EachHas names locals env (map (λ e. e.0) es)
  each [] = tt
  each (e ∷ es) = (has e, each es)

  -- the same of the layer of an expression
  abbrev Layer : Expr-F Expr → Type 0
  Layer x =
      Clean (part names x.place (map-Expr Expr Part (infer names) x).node).found
      → Fits names.text env (part names x.place (map-Expr Expr Part (infer names) x).node).found
      (resolved (look names.text) locals (bare_node (map-Expr Expr BareExpr bare_expr x).node))

  of_node : (place : ℕ) (n : ExprNode Proved) → Layer (map-Expr Proved Expr (λ e. e.0) (record { place = place; node = n }))
  of_node place (Number n) = nodes.number_fits names env place n
  of_node place (Character n) = nodes.character_fits names env place n
  of_node place Null = nodes.null_fits names env place
  of_node place Success = nodes.success_fits names env place
  of_node place Error = nodes.error_fits names env place
  of_node place (Variable name) = named.variable_fits names locals env place name facts s within
  of_node place (Unary op a) = nodes.unary_fits names env place op (found a) (made a) (has a)
  of_node place (Step op a) = nodes.step_fits names env place op (found a) (made a) (has a)
  of_node place (Cast t a) = nodes.cast_fits names env place t (found a) (made a) (has a)
  of_node place (Binary op a b) = nodes.two_fit names env place op (found a) (found b) (made a) (made b) (has a) (has b)
  of_node place (And a b) = nodes.and_fits names env place (found a) (found b) (made a) (made b) (has a) (has b)
  of_node place (Or a b) = nodes.or_fits names env place (found a) (found b) (made a) (made b) (has a) (has b)
  of_node place (Choice c a b) =
      nodes.choice_fits names env place (found c) (found a) (found b) (made c) (made a) (made b) (has c) (has a) (has b)
  of_node place (Assign a b) = nodes.assign_fits names env place (found a) (found b) (made a) (made b) (has a) (has b)
  of_node place (Update op a b) = nodes.update_fits names env place op (found a) (found b) (made a) (made b) (has a) (has b)
  of_node place (Call name es) = named.call_fits names locals env place name (map (λ e. e.0) es) facts (each es)
  of_node place (Element name a) = named.element_fits names env place name (found a) (made a) facts (has a)
  of_node place (Arrow a name) = named.arrow_fits names env place (found a) name (made a) facts (has a)
  of_node place (Dot a name) = named.dot_fits names env place (found a) name _
  of_node place (Print at format es) = named.print_fits names locals env place at format (map (λ e. e.0) es) (each es)
  of_node place (Calloc tag) = named.calloc_fits names env place tag facts
  of_node place (Free a) = named.free_fits names env place (found a) (made a) (has a)
  of_node place (Create a name b) = named.create_fits names env place (found a) (found b) name (made a) (made b) facts (has a) (has b)
  of_node place (Join a) = named.join_fits names env place (found a) (made a) (has a)
  of_node place (JoinInto a b) = named.join_into_fits names env place (found a) (found b) (made a) (made b) (has a) (has b)
  of_node place (InitMutex name) = named.init_fits names env place name facts
  of_node place (Lock name) = named.lock_fits names env place name facts
  of_node place (Unlock name) = named.unlock_fits names env place name facts

  tree_fits : (e : Expr) → FitsIn e
  tree_fits = ind-Expr FitsIn (λ x y is.
      let layer : Layer x = subst Layer is (of_node y.place y.node) in
      subst₂ (λ p b. Clean p.found → Fits names.text env p.found (resolved (look names.text) locals b))
      (sym (fold-roll-Expr Part (λ e. part names e.place e.node) x)) (sym (fold-roll-Expr BareExpr (λ e. bare_node e.node) x)) layer)

  pub expression : (e : Expr) → HasIn names locals env e
  expression e clean = record { good = uses.expression names locals facts s e clean; fits = tree_fits e clean }
