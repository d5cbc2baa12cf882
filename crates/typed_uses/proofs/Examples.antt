-- A tree that no text is read as: a global has the name of a struct. It types, and uses a name that it doesn't define.
use Rattle.std.proofs.Common.{◌≡◌, ℕ, [], ◌∷◌, map, Some, None, codes, refl}
use Rattle.c_ints.specs.declared.kind.Kind.TheVariants.{I32}
use Rattle.c_ints.specs.declared.int.Int.TheVariants.{I32 as int32}
use Rattle.std.proofs.Common.{pos}
use Rattle.c_tree.specs.BareExpr.{BareExpr}
use Rattle.c_tree.specs.BareStmt.{BareStmt}
use Rattle.c_tree.specs.Bare.{bare_def, bare_expr, bare_node, bare_stmt, bare_stmt_node}
use Rattle.c_tree.specs.declared.name.CType.TheVariants.{Integer, Handle}
use Rattle.c_tree.specs.declared.expr.Expr.{Expr}
use Rattle.c_tree.specs.declared.expr.Expr.TheFolds.{fold-roll-Expr, map-Expr}
use Rattle.c_tree.specs.declared.expr.ExprNode.{ExprNode}
use Rattle.c_tree.specs.declared.expr.ExprNode.TheVariants as node
use Rattle.c_tree.specs.declared.stmt.Stmt.{Stmt}
use Rattle.c_tree.specs.declared.stmt.Stmt.TheFolds.{fold-roll-Stmt, map-Stmt}
use Rattle.c_tree.specs.declared.stmt.StmtNode.{StmtNode}
use Rattle.c_tree.specs.declared.stmt.StmtNode.TheVariants as made
use Rattle.c_tree.specs.declared.def.DefKind.TheVariants as kind
use Rattle.c_tree.specs.declared.def.Program.{Program}
use Rattle.c_types.specs.Definitions.{Types}
use Rattle.c_types.proofs.Samples.{name, expr, stmt, variable, binding, function, def, program}
use Rattle.c_types.proofs.FoldsAtNode.{infer_at, need_at, walk_at, stmt_need_at, variables_at}
use Rattle.c_semantics.specs.Texts.{definition, names}
use Rattle.c_semantics.specs.Skeletons.{direct_uses, skeleton_of}

-- int struct T; struct T { struct T *next; }; int main(void) { struct T *p; p->next->next; return 0; }
abbrev odd : Program
odd = program (
    def 0 (kind.Global (variable (Integer I32) (name 4 "struct T") None))
    ∷ def 14 (kind.Struct (name 21 "T") (binding (Handle (name 32 "T")) (name 35 "next") ∷ []))
    ∷ def 44 (kind.Function (function (Some (Integer I32)) (name 48 "main") [] (
    stmt 61 (made.Declare (variable (Handle (name 68 "T")) (name 71 "p") None))
    ∷ stmt 74 (made.Evaluate (expr 74 (node.Arrow (expr 74 (node.Arrow (expr 74 (node.Variable (codes "p"))) (name 77 "next"))) (name 83 "next"))))
    ∷ stmt 89 (made.ReturnValue (expr 96 (node.Number (int32 (pos 0))))) ∷ []) 99 25)) ∷ []) 100

types : Types odd
types = simp (infer_at, need_at, walk_at, stmt_need_at, variables_at) refl

bare_at : (place : ℕ) (n : ExprNode Expr) →
    bare_expr (expr place n) ≡ bare_node (map-Expr Expr BareExpr bare_expr (record { place = place; node = n })).node
bare_at place n = fold-roll-Expr BareExpr (λ e. bare_node e.node) (record { place = place; node = n })

bare_stmt_at : (place : ℕ) (n : StmtNode Stmt) →
    bare_stmt (stmt place n) ≡ bare_stmt_node (map-Stmt Stmt BareStmt bare_stmt (record { place = place; node = n })).node
bare_stmt_at place n = fold-roll-Stmt BareStmt (λ s. bare_stmt_node s.node) (record { place = place; node = n })

-- its definitions: `struct T` is resolved as the global, so the field of a field is one of `struct `
uses : (let text = map bare_def odd.definitions in direct_uses (skeleton_of (definition text) (definition text (codes "main"))))
    ≡ codes "struct " ∷ codes "struct T" ∷ []
uses = simp (bare_at, bare_stmt_at) refl

defines : names (map bare_def odd.definitions) ≡ codes "struct T" ∷ codes "struct T" ∷ codes "main" ∷ []
defines = refl
