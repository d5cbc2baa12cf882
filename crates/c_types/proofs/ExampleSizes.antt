-- Functions with as many variables, as great a need and as many tokens as are allowed, and with one more.
use Rattle.std.specs.Prelude.{◌≡◌, ℕ, zero, suc, true, false, pos, List, [], ◌∷◌, map, None}
use Rattle.std.proofs.Common.{refl, arith}
use Rattle.c_ints.specs.declared.kind.Kind.TheVariants.{I32}
use Rattle.c_ints.specs.declared.int.Int.TheVariants.{I32 as int32}
use Rattle.c_ints.specs.declared.operator.BinOp.TheVariants.{Add}
use Rattle.c_tree.specs.declared.name.CType.TheVariants.{Integer}
use Rattle.c_tree.specs.declared.expr.Expr.{Expr}
use Rattle.c_tree.specs.declared.expr.ExprNode.TheVariants as node
use Rattle.c_tree.specs.declared.stmt.Stmt.{Stmt}
use Rattle.c_tree.specs.declared.stmt.StmtNode.TheVariants as made
use Rattle.c_tree.specs.declared.def.Function.{Function}
use Rattle.c_expr_types.specs.Need.{need, body_need}
use Rattle.c_types.specs.Statements.{total, variables}
use Rattle.c_types.specs.Definitions.{is_small}
use Rattle.c_types.proofs.Samples.{name, expr, stmt, variable, function}
use Rattle.c_types.proofs.FoldsAtNode.{need_at, stmt_need_at, variables_at}

-- 1
one : Expr
one = expr 0 (node.Number (int32 (pos 1)))

-- 1 + (1 + .. ), with so many sums
nested : ℕ → Expr
nested zero = one
nested (suc n) = expr 0 (node.Binary Add one (nested n))

one_need : need one ≡ 1
unfolding one
one_need = simp need_at refl

nested_need : (n : ℕ) → need (nested n) ≡ suc n
unfolding nested
nested_need zero = one_need
nested_need (suc n) = simp (need_at, one_need, nested_need n) (omega arith)

-- so many declarations
declared : ℕ → List Stmt
declared zero = []
declared (suc n) = stmt 0 (made.Declare (variable (Integer I32) (name 0 "x") None)) ∷ declared n

declared_variables : (n : ℕ) → total (map variables (declared n)) ≡ n
unfolding declared
declared_variables zero = refl
declared_variables (suc n) = simp (variables_at, declared_variables n) (omega arith)

declared_need : (n : ℕ) → body_need (declared n) ≡ 0
unfolding declared
declared_need zero = refl
declared_need (suc n) = simp (stmt_need_at, declared_need n) refl

-- `void f(void) { .. }`
of_body : List Stmt → Function
of_body body = function None (name 0 "f") [] body 0 8

need_64 : is_small (of_body (stmt 0 (made.Evaluate (nested 63)) ∷ [])) ≡ true
unfolding of_body
need_64 = simp (variables_at, stmt_need_at, nested_need) refl

need_65 : is_small (of_body (stmt 0 (made.Evaluate (nested 64)) ∷ [])) ≡ false
unfolding of_body
need_65 = simp (variables_at, stmt_need_at, nested_need) refl

variables_64 : is_small (of_body (declared 64)) ≡ true
unfolding of_body
variables_64 = simp (declared_variables, declared_need) refl

variables_65 : is_small (of_body (declared 65)) ≡ false
unfolding of_body
variables_65 = simp (declared_variables, declared_need) refl

tokens_4096 : is_small (function None (name 0 "f") [] [] 0 4096) ≡ true
tokens_4096 = refl

tokens_4097 : is_small (function None (name 0 "f") [] [] 0 4097) ≡ false
tokens_4097 = refl
