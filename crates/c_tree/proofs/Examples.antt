-- What the definitions give on small trees.
use Rattle.std.proofs.Common.{◌≡◌, ℕ, [], ◌∷◌, pos, None, ◌+◌, refl, sym, ◌∙◌}
use Rattle.c_ints.specs.declared.kind.Kind.TheVariants.{I32}
use Rattle.c_ints.specs.declared.int.Int.TheVariants.{I32 as int}
use Rattle.c_ints.specs.declared.operator.BinOp.TheVariants.{Add, Sub}
use Rattle.c_tree.specs.declared.name.Name.{Name}
use Rattle.c_tree.specs.declared.name.CType.TheVariants.{Integer, Handle}
use Rattle.c_tree.specs.declared.expr.Expr.{roll-Expr}
use Rattle.c_tree.specs.declared.expr.Expr.TheFolds.{fold-roll-Expr}
use Rattle.c_tree.specs.declared.expr.ExprNode.TheVariants.{Number, Character, Binary, Call, Print}
use Rattle.c_tree.specs.declared.def.Def.{Def}
use Rattle.c_tree.specs.declared.def.DefKind.TheVariants.{Global, Function}
use Rattle.c_tree.specs.BareExpr.{BareExpr}
use Rattle.c_tree.specs.BareExpr as bare
use Rattle.c_tree.specs.Bare.{bare_type, bare_node, bare_expr, bare_def}

-- the name `g`, at a place
abbrev g : ℕ → Name
g place = record { place = place; text = 103 ∷ [] }

-- `int g;`
abbrev int_g : ℕ → Def
int_g place = record { place = place; kind = Global (record { declared = Integer I32; name = g (place + 4); initial = None }) }

-- `void g(void) {}`
abbrev void_g : ℕ → ℕ → Def
void_g place tokens =
    record { place = place; kind = Function (record { result = None; name = g place; parameters = []; body = []; end = place; tokens = tokens }) }

-- `f(1, 1)`, of two equal numbers
one_one : bare_node (Call (102 ∷ []) (bare.Number (int (pos 1)) ∷ bare.Number (int (pos 1)) ∷ []))
    ≡ bare.Call (102 ∷ []) (bare.ExprThen (bare.Number (int (pos 1))) (bare.ExprThen (bare.Number (int (pos 1))) bare.NoExprs))
one_one = refl

-- the place of a format is left out
format_place : bare_node (Print 7 (104 ∷ []) []) ≡ bare_node (Print 9 (104 ∷ []) [])
format_place = refl

-- `struct g *` is the same wherever its name stands
handle_place : bare_type (Handle (g 1)) ≡ bare_type (Handle (g 2))
handle_place = refl

-- `int g;` is the same wherever it stands
global_place : bare_def (int_g 0) ≡ bare_def (int_g 50)
global_place = refl

-- places and numbers of tokens of a function are left out
function_tokens : bare_def (void_g 0 6) ≡ bare_def (void_g 9 7)
function_tokens = refl

-- `'a'` isn't 97
character_is_no_number : bare_node (Character (int (pos 97))) ≡ bare_node (Number (int (pos 97))) → ⊥
character_is_no_number e = cc

-- `1 + 2` isn't `1 - 2`
sum_is_no_difference : (a b : BareExpr) → bare_node (Binary Add a b) ≡ bare_node (Binary Sub a b) → ⊥
sum_is_no_difference a b e = cc

-- 7 is the same wherever it stands
number_place : (p q : ℕ) →
    bare_expr (roll-Expr (record { place = p; node = Number (int (pos 7)) })) ≡ bare_expr (roll-Expr (record { place = q; node = Number (int (pos 7)) }))
number_place p q =
    fold-roll-Expr BareExpr (λ e. bare_node e.node) (record { place = p; node = Number (int (pos 7)) })
    ∙ sym (fold-roll-Expr BareExpr (λ e. bare_node e.node) (record { place = q; node = Number (int (pos 7)) }))
