-- The tree of an expression has at most one word more than the expression needs.
use Rattle.std.proofs.Common.{◌≡◌, ◌≤◌, ℕ, suc, ◌+◌, max, List, [], ◌∷◌, map, Option, Some, None, refl, sym, ap, subst, subst₂, arith}
use Rattle.c_tree.specs.declared.expr.StepOp.{StepOp}
use Rattle.c_tree.specs.declared.expr.StepOp.TheVariants.{PreIncrement, PreDecrement, PostIncrement, PostDecrement}
use Rattle.c_tree.specs.BareExpr.{Bytes, BareType, BareExpr, Integer, Handle, Thread}
use Rattle.c_tree.specs.BareDef.{BareBinding}
use Rattle.c_tree.specs.Bare.{bare_arguments, bare_expr, bare_node}
use Rattle.c_tree.specs.declared.expr.Expr.{Expr, Expr-F}
use Rattle.c_tree.specs.declared.expr.Expr.TheFolds.{fold-roll-Expr, ind-Expr, map-Expr}
use Rattle.c_tree.specs.declared.expr.ExprNode.{ExprNode}
use Rattle.c_tree.specs.declared.expr.ExprNode.TheVariants.{Number, Character, Null, Success, Error, Variable, Unary, Step, Cast, Binary, And, Or, Choice, Assign, Update, Call, Element, Arrow, Dot, Print, Calloc, Free, Create, Join, JoinInto, InitMutex, Lock, Unlock}
use Rattle.c_expr_types.specs.Need.{in_turn, need, node_need}
use Rattle.c_semantics.specs.Texts.{Definitions, bound, parameters_of}
use Rattle.c_semantics.specs.Resolved.{Expression, Expressions, Place, Local, Global, Element as ElementPlace, Field, NoExpressions, ExpressionThen}
use Rattle.c_semantics.specs.Resolution.{Resolved, common_type, handed, passed, resolved, resolved_all, side, step, variable}
use Rattle.formed_code.specs.Depths.{depth, depth_all, depth_parts, part_words}

-- what a resolved expression has, by what its text needs
pub record Small (n : ℕ) (x : Resolved) : Type 0 where
  pub one : 1 ≤ n
  pub tree : depth x.tree ≤ suc n
  pub place : depth_parts x.place ≤ suc n

few_words : (p : Place) → part_words p ≤ 1
few_words (Local name) = omega arith
few_words (Global name) = omega arith
few_words (ElementPlace name index) = omega arith
few_words (Field tag handle name) = omega arith

side_depth : (t : BareType) (e : Expression) → depth (side t e) ≡ depth e
side_depth (Integer k) e = refl
side_depth (Handle tag) e = refl
side_depth Thread e = refl

handed_depth : (ps : List BareBinding) (e : Expression) → depth (handed ps e) ≡ depth e
handed_depth [] e = refl
handed_depth (p ∷ ps) e = refl

passed_depth : (es : Expressions) (ps : List BareBinding) → depth_all (passed es ps) ≡ depth_all es
passed_depth NoExpressions ps = refl
passed_depth (ExpressionThen e es) [] = ap (λ n. max (depth e) (suc n)) (passed_depth es [])
passed_depth (ExpressionThen e es) (p ∷ ps) = ap (λ n. max (depth e) (suc n)) (passed_depth es ps)

variable_small : (look : Definitions) (name : Bytes) (o : Option BareBinding) → Small 1 (variable look name o)
variable_small look name None = record { one = omega arith; tree = omega arith; place = omega arith }
variable_small look name (Some b) = record { one = omega arith; tree = omega arith; place = omega arith }

step_small : (op : StepOp) (n : ℕ) (x : Resolved) → Small n x → Small (n + 2) (step op x)
step_small PreIncrement n x s = record { one = omega arith; tree = omega (arith, few_words x.place, s.place); place = omega arith }
step_small PreDecrement n x s = record { one = omega arith; tree = omega (arith, few_words x.place, s.place); place = omega arith }
step_small PostIncrement n x s = record { one = omega arith; tree = omega (arith, few_words x.place, s.place, s.one); place = omega arith }
step_small PostDecrement n x s = record { one = omega arith; tree = omega (arith, few_words x.place, s.place, s.one); place = omega arith }

module _ (look : Definitions) (locals : List BareBinding) where
  abbrev IsSmall : Expr → Type 0
  IsSmall e = Small (need e) (resolved look locals (bare_expr e))

  -- an expression of which it is known
  abbrev Proved : Type 0
  Proved = (e : Expr) × IsSmall e

  abbrev made : Proved → Resolved
  made e = resolved look locals (bare_expr e.0)

  -- arguments
  arguments_small : (es : List Proved)
      → depth_all (resolved_all look locals (bare_arguments (map bare_expr (map (λ e. e.0) es)))) ≤ suc (in_turn (map need (map (λ e. e.0) es)))
  arguments_small [] = omega arith
  arguments_small (e ∷ es) = omega (arith, e.1.tree, arguments_small es)

  abbrev Layer : Expr-F Expr → Type 0
  Layer x = Small (node_need (map-Expr Expr ℕ need x).node) (resolved look locals (bare_node (map-Expr Expr BareExpr bare_expr x).node))

  of_node : (place : ℕ) (n : ExprNode Proved) → Layer (map-Expr Proved Expr (λ e. e.0) (record { place = place; node = n }))
  of_node place (Number n) = record { one = omega arith; tree = omega arith; place = omega arith }
  of_node place (Character n) = record { one = omega arith; tree = omega arith; place = omega arith }
  of_node place Null = record { one = omega arith; tree = omega arith; place = omega arith }
  of_node place Success = record { one = omega arith; tree = omega arith; place = omega arith }
  of_node place Error = record { one = omega arith; tree = omega arith; place = omega arith }
  of_node place (Variable name) = variable_small look name (bound locals name)
  of_node place (Unary op a) = record { one = a.1.one; tree = a.1.tree; place = omega arith }
  of_node place (Step op a) = step_small op (need a.0) (made a) a.1
  of_node place (Cast t a) = record { one = a.1.one; tree = a.1.tree; place = omega arith }
  of_node place (Binary op a b) =
      let t = common_type (made a).type (made b).type in
      record {
        one = omega (arith, a.1.one);
        tree = omega (arith, a.1.tree, b.1.tree, side_depth t (made a).tree, side_depth t (made b).tree);
        place = omega arith;
      }
  of_node place (And a b) = record { one = omega (arith, a.1.one); tree = omega (arith, a.1.tree, b.1.tree); place = omega arith }
  of_node place (Or a b) = record { one = omega (arith, a.1.one); tree = omega (arith, a.1.tree, b.1.tree); place = omega arith }
  of_node place (Choice c a b) =
      record { one = omega (arith, c.1.one); tree = omega (arith, c.1.tree, a.1.tree, b.1.tree); place = omega arith }
  of_node place (Assign a b) = record {
    one = omega arith;
    tree = omega (arith, a.1.place, b.1.tree, few_words (made a).place, a.1.one);
    place = omega arith;
  }
  of_node place (Update op a b) =
      record { one = omega arith; tree = omega (arith, a.1.place, b.1.tree, few_words (made a).place); place = omega arith }
  of_node place (Call name es) = record {
    one = omega arith;
    tree = omega (
      arith,
      arguments_small es,
      passed_depth (resolved_all look locals (bare_arguments (map bare_expr (map (λ e. e.0) es)))) (parameters_of (look name)),
    );
    place = omega arith;
  }
  of_node place (Element name a) = record { one = a.1.one; tree = omega (arith, a.1.tree, a.1.one); place = a.1.tree }
  of_node place (Arrow a name) = record { one = a.1.one; tree = omega (arith, a.1.tree, a.1.one); place = a.1.tree }
  of_node place (Dot a name) = record { one = a.1.one; tree = omega (arith, a.1.one); place = omega arith }
  of_node place (Print at format es) = record { one = omega arith; tree = omega (arith, arguments_small es); place = omega arith }
  of_node place (Calloc tag) = record { one = omega arith; tree = omega arith; place = omega arith }
  of_node place (Free a) = record { one = omega arith; tree = omega (arith, a.1.tree); place = omega arith }
  of_node place (Create a name b) = record {
    one = omega arith;
    tree = omega (arith, a.1.place, b.1.tree, b.1.one, few_words (made a).place, handed_depth (parameters_of (look name.text)) (made b).tree);
    place = omega arith;
  }
  of_node place (Join a) = record { one = omega arith; tree = omega (arith, a.1.tree); place = omega arith }
  of_node place (JoinInto a b) = record {
    one = omega arith;
    tree = omega (arith, a.1.tree, b.1.place, b.1.one, few_words (made b).place);
    place = omega arith;
  }
  of_node place (InitMutex name) = record { one = omega arith; tree = omega arith; place = omega arith }
  of_node place (Lock name) = record { one = omega arith; tree = omega arith; place = omega arith }
  of_node place (Unlock name) = record { one = omega arith; tree = omega arith; place = omega arith }

  pub expression_small : (e : Expr) → IsSmall e
  expression_small = ind-Expr IsSmall (λ x y is.
      let layer : Layer x = subst Layer is (of_node y.place y.node) in
      subst₂ (λ n b. Small n (resolved look locals b))
      (sym (fold-roll-Expr ℕ (λ e. node_need e.node) x)) (sym (fold-roll-Expr BareExpr (λ e. bare_node e.node) x)) layer)
