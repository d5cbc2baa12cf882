-- An expression without faults is good: its type is what it is resolved to, and its points use names that are defined.
use Rattle.std.proofs.Common.{ℕ, List, [], ◌∷◌, map, refl, sym, subst, subst₂}
use Rattle.c_ints.specs.Number.{number}
use Rattle.c_ints.specs.declared.kind.Kind.TheVariants.{I32}
use Rattle.std.proofs.Common.{pos}
use Rattle.c_tree.specs.BareExpr.{BareExpr}
use Rattle.c_tree.specs.BareDef.{BareBinding}
use Rattle.c_tree.specs.Bare.{bare_expr, bare_node}
use Rattle.c_tree.specs.declared.expr.Expr.{Expr, Expr-F}
use Rattle.c_tree.specs.declared.expr.Expr.TheFolds.{fold-roll-Expr, ind-Expr, map-Expr}
use Rattle.c_tree.specs.declared.expr.ExprNode.{ExprNode}
use Rattle.c_tree.specs.declared.expr.ExprNode.TheVariants.{Number, Character, Null, Success, Error, Variable, Unary, Step, Cast, Binary, And, Or, Choice, Assign, Update, Call, Element, Arrow, Dot, Print, Calloc, Free, Create, Join, JoinInto, InitMutex, Lock, Unlock}
use Rattle.c_expr_types.specs.declared.found.Part.{Part}
use Rattle.c_definitions.specs.Lookup.{Names}
use Rattle.c_expr_types.specs.Expressions.{infer, part}
use Rattle.c_semantics.specs.Resolution.{Resolved, int_value, resolved}
use Rattle.typed_uses.proofs.SoundTexts.{Facts}
use Rattle.typed_uses.proofs.Lookups.{look}
use Rattle.typed_uses.proofs.Locals.{InStep}
use Rattle.typed_uses.proofs.Nodes as nodes
use Rattle.typed_uses.proofs.Nodes.{Fits}
use Rattle.typed_uses.proofs.NamedNodes as named
use Rattle.typed_uses.proofs.NamedNodes.{EachFits, FitsIn}

module _ (names : Names) (locals : List BareBinding) (facts : Facts names.text) (s : InStep names.text names.scopes locals) where
  -- an expression that is good, where it has no faults
  abbrev Proved : Type 0
  Proved = (e : Expr) × FitsIn names locals e

  abbrev found : Proved → Part
  found e = infer names e.0

  abbrev made : Proved → Resolved
  made e = resolved (look names.text) locals (bare_expr e.0)

  each : (es : List Proved) → EachFits names locals (map (λ e. e.0) es)
  each [] = tt
  each (e ∷ es) = (e.1, each es)

  -- the same of the layer of an expression
  abbrev Layer : Expr-F Expr → Type 0
  Layer x =
      Fits names.text (part names x.place (map-Expr Expr Part (infer names) x).node)
      (resolved (look names.text) locals (bare_node (map-Expr Expr BareExpr bare_expr x).node))

  of_node : (place : ℕ) (n : ExprNode Proved) → Layer (map-Expr Proved Expr (λ e. e.0) (record { place = place; node = n }))
  of_node place (Number n) = nodes.number names place n
  of_node place (Character n) = nodes.character names place n
  of_node place Null = nodes.null names place
  of_node place Success = nodes.constant names place Success int_value refl
  of_node place Error = nodes.constant names place Error (number I32 (pos 1)) refl
  of_node place (Variable name) = named.named names locals place name facts s
  of_node place (Unary op a) = nodes.unary names place op (found a) (made a) a.1
  of_node place (Step op a) = nodes.stepped names place op (found a) (made a) a.1
  of_node place (Cast t a) = nodes.cast names place t (found a) (made a) a.1
  of_node place (Binary op a b) = nodes.two_operands names place op (found a) (found b) (made a) (made b) a.1 b.1
  of_node place (And a b) = nodes.both_conditions names place (found a) (found b) (made a) (made b) a.1 b.1
  of_node place (Or a b) = nodes.either_condition names place (found a) (found b) (made a) (made b) a.1 b.1
  of_node place (Choice c a b) = nodes.chosen names place (found c) (found a) (found b) (made c) (made a) (made b) c.1 a.1 b.1
  of_node place (Assign a b) = nodes.assigned names place (found a) (found b) (made a) (made b) a.1 b.1
  of_node place (Update op a b) = nodes.updated names place op (found a) (found b) (made a) (made b) a.1 b.1
  of_node place (Call name es) = named.called names locals place name (map (λ e. e.0) es) facts (each es)
  of_node place (Element name a) = named.element names place name (found a) (made a) facts a.1
  of_node place (Arrow a name) = named.arrow names place (found a) name (made a) facts a.1
  of_node place (Dot a name) = named.dot names place (found a) name _
  of_node place (Print at format es) = named.printed names locals place at format (map (λ e. e.0) es) (each es)
  of_node place (Calloc tag) = named.calloc names place tag facts
  of_node place (Free a) = named.free names place (found a) (made a) facts a.1
  of_node place (Create a name b) = named.created names place (found a) (found b) name (made a) (made b) a.1 b.1
  of_node place (Join a) = named.join names place (found a) (made a) a.1
  of_node place (JoinInto a b) = named.join_into names place (found a) (found b) (made a) (made b) a.1 b.1
  of_node place (InitMutex name) = named.mutex_made names place name
  of_node place (Lock name) = named.locked names place name
  of_node place (Unlock name) = named.unlocked names place name

  pub expression : (e : Expr) → FitsIn names locals e
  expression = ind-Expr (FitsIn names locals) (λ x y is.
      let layer : Layer x = subst Layer is (of_node y.place y.node) in
      subst₂ (λ p b. Fits names.text p (resolved (look names.text) locals b))
      (sym (fold-roll-Expr Part (λ e. part names e.place e.node) x)) (sym (fold-roll-Expr BareExpr (λ e. bare_node e.node) x)) layer)
