-- An expression that a transformer can have is found to be the same with the names of the text and without.
use Rattle.std.proofs.Common.{◌≡◌, ℕ, Bool, true, false, ◌&&◌, List, ◌++◌, refl, sym, ap, ◌∙◌, subst}
use Rattle.c_ints.specs.declared.operator.BinOp.{BinOp}
use Rattle.c_tree.specs.declared.name.CType.{CType}
use Rattle.c_tree.specs.declared.name.CType.TheVariants.{Integer, Handle, Thread}
use Rattle.c_tree.specs.declared.expr.Expr.{Expr, out-Expr, roll-Expr}
use Rattle.c_tree.specs.declared.expr.Expr.TheOpen.{Expr-F}
use Rattle.c_tree.specs.declared.expr.Expr.TheFolds.{fold-roll-Expr, fold_out-Expr, map-Expr, ind-Expr}
use Rattle.c_tree.specs.declared.expr.ExprNode.{ExprNode}
use Rattle.c_tree.specs.declared.expr.ExprNode.TheVariants.{Number, Character, Null, Variable, Unary, Cast, Binary, Choice, Dot}
use Rattle.c_tree.specs.declared.def.Def.{Def}
use Rattle.c_definitions.specs.Lookup.{is_known}
use Rattle.c_expr_types.specs.declared.found.Part.{Part}
use Rattle.c_expr_types.specs.Found.{after, required}
use Rattle.c_expr_types.specs.Expressions.{part, is_safe, is_operand, binary, where_allowed}
use Rattle.c_types.specs.TransformSyntax.{Form, allows, names_old, form, form_of, is_transforming}
use Rattle.patch_faults.specs.TransformTypes.{Old, part_of, infer_old, names_in}
use Rattle.transformer_types.specs.Alone.{part_alone, infer_alone}
use Rattle.transformer_types.proofs.Tests.{both}

-- a cast to a type of the text
cast_alone : (q : List Def) (old : Old) (place : ℕ) (t : CType) (a : Part) → is_known q t ≡ true →
    part (names_in q) place (Cast t a) ≡ part_alone old place (Cast t a)
cast_alone q old place (Integer k) a h = refl
cast_alone q old place (Handle tag) a h = simp h refl
cast_alone q old place Thread a h = refl

-- an operator that a transformer can have
binary_alone : (q : List Def) (old : Old) (place : ℕ) (op : BinOp) (a b : Part) → is_safe op ≡ true →
    part (names_in q) place (Binary op a b) ≡ part_alone old place (Binary op a b)
binary_alone q old place op a b h =
    ap
    (λ safe. record {
      place = place;
      found = after (required (is_operand op a.found) a ++ required (is_operand op b.found) b) (where_allowed safe place (binary op place a b));
    })
    h

-- `old` is allowed
old_node_allowed : (q : List Def) (node : ExprNode Form) → names_old node ≡ true → allows q node ≡ true
old_node_allowed q (Variable name) h = h
old_node_allowed q _ h = absurd (let k : false ≡ true = h in cc)

old_allowed : (q : List Def) (e : Expr) → (form_of q e).is_old ≡ true → is_transforming q e ≡ true
old_allowed q e h =
    let at = fold_out-Expr Form (λ x. form q x.node) e in
    ap (λ f. f.is_allowed) at
    ∙ old_node_allowed q (map-Expr Expr Form (form_of q) (out-Expr e)).node (sym (ap (λ f. f.is_old) at) ∙ h)

module _ (q : List Def) (old : Old) where
  abbrev Agrees : Expr → Type 0
  Agrees e = is_transforming q e ≡ true → infer_old (names_in q) old e ≡ infer_alone old e

  -- an expression with that beside it
  abbrev Child : Type 0
  Child = (e : Expr) × Agrees e

  abbrev bare : ℕ → ExprNode Child → Expr-F Expr
  bare place node = map-Expr Child Expr (λ c. c.0) (record { place = place; node = node })

  abbrev allowed : ExprNode Child → ℕ → Bool
  allowed node place = allows q (map-Expr Expr Form (form_of q) (bare place node)).node

  abbrev with_names : ExprNode Child → ℕ → Part
  with_names node place = part_of (names_in q) old place (map-Expr Expr Part (infer_old (names_in q) old) (bare place node)).node

  abbrev without : ExprNode Child → ℕ → Part
  without node place = part_alone old place (map-Expr Expr Part (infer_alone old) (bare place node)).node

  node_alone : (place : ℕ) (node : ExprNode Child) → allowed node place ≡ true → with_names node place ≡ without node place
  node_alone place (Number n) h = refl
  node_alone place (Character n) h = refl
  node_alone place Null h = refl
  node_alone place (Variable name) h = refl
  node_alone place (Unary op a) h = ap (λ p. part_alone old place (Unary op p)) (a.1 h)
  node_alone place (Cast t a) h =
      let k = both (is_known q t) (is_transforming q a.0) h in
      cast_alone q old place t (infer_old (names_in q) old a.0) k.0 ∙ ap (λ p. part_alone old place (Cast t p)) (a.1 k.1)
  node_alone place (Binary op a b) h =
      let k = both (is_safe op && is_transforming q a.0) (is_transforming q b.0) h in
      let l = both (is_safe op) (is_transforming q a.0) k.0 in
      binary_alone q old place op (infer_old (names_in q) old a.0) (infer_old (names_in q) old b.0) l.0
      ∙ ap (λ p. part_alone old place (Binary op p (infer_old (names_in q) old b.0))) (a.1 l.1)
      ∙ ap (λ p. part_alone old place (Binary op (infer_alone old a.0) p)) (b.1 k.1)
  node_alone place (Choice a b c) h =
      let k = both (is_transforming q a.0 && is_transforming q b.0) (is_transforming q c.0) h in
      let l = both (is_transforming q a.0) (is_transforming q b.0) k.0 in
      ap (λ p. part_alone old place (Choice p (infer_old (names_in q) old b.0) (infer_old (names_in q) old c.0))) (a.1 l.0)
      ∙ ap (λ p. part_alone old place (Choice (infer_alone old a.0) p (infer_old (names_in q) old c.0))) (b.1 l.1)
      ∙ ap (λ p. part_alone old place (Choice (infer_alone old a.0) (infer_alone old b.0) p)) (c.1 k.1)
  node_alone place (Dot a field) h = ap (λ p. part_alone old place (Dot p field)) (a.1 (old_allowed q a.0 h))
  node_alone place _ h = absurd (let k : false ≡ true = h in cc)

  tree_alone : (place : ℕ) (node : ExprNode Child) → Agrees (roll-Expr (bare place node))
  tree_alone place node h =
      fold-roll-Expr Part (λ e. part_of (names_in q) old e.place e.node) (bare place node)
      ∙ node_alone place node (sym (ap (λ f. f.is_allowed) (fold-roll-Expr Form (λ e. form q e.node) (bare place node))) ∙ h)
      ∙ sym (fold-roll-Expr Part (λ e. part_alone old e.place e.node) (bare place node))

  pub expression_alone : (e : Expr) → is_transforming q e ≡ true → infer_old (names_in q) old e ≡ infer_alone old e
  expression_alone = ind-Expr Agrees (λ x y is. subst (λ z. Agrees (roll-Expr z)) is (tree_alone y.place y.node))
