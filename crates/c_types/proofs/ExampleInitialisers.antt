-- Texts with initialisers of globals and arrays, and their first faults.
use Rattle.std.specs.Prelude.{◌≡◌, pos, [], ◌∷◌, Some, None, codes}
use Rattle.std.proofs.Common.{refl}
use Rattle.c_ints.specs.declared.kind.Kind.TheVariants.{I32}
use Rattle.c_ints.specs.declared.int.Int.TheVariants.{I32 as int32}
use Rattle.c_ints.specs.declared.operator.BinOp.TheVariants.{Add, Mul, Div, Eq}
use Rattle.c_ints.specs.declared.operator.UnOp.TheVariants.{Negate, Complement, Not}
use Rattle.c_tree.specs.declared.name.CType.TheVariants.{Integer, Handle}
use Rattle.c_tree.specs.declared.expr.ExprNode.TheVariants as node
use Rattle.c_tree.specs.declared.stmt.StmtNode.TheVariants as made
use Rattle.c_tree.specs.declared.def.DefKind.TheVariants as kind
use Rattle.c_expr_types.specs.declared.fault.TypeKind.TheVariants.{UnknownName, WrongType, OverLimit}
use Rattle.c_expr_types.specs.Faults.{fault}
use Rattle.c_types.specs.Definitions.{first_fault}
use Rattle.c_types.proofs.Samples.{name, expr, stmt, variable, binding, function, array, def, program}
use Rattle.c_types.proofs.FoldsAtNode.{infer_at, need_at, walk_at, stmt_need_at, variables_at}

-- int y; int x = y; int main(void) { return 0; }
another_global : first_fault (program ((def 0 (kind.Global (variable (Integer I32) (name 4 "y") None))) ∷ (def 7 (kind.Global (variable (Integer I32) (name 11 "x") (Some (expr 15 (node.Variable (codes "y"))))))) ∷ (def 18 (kind.Function (function (Some (Integer I32)) (name 22 "main") [] ((stmt 35 (made.ReturnValue (expr 42 (node.Number (int32 (pos 0)))))) ∷ []) 45 10))) ∷ []) 46) ≡ Some (fault WrongType 15)
another_global = simp (infer_at, need_at, walk_at, stmt_need_at, variables_at) refl

-- int x = y; int main(void) { return 0; }
unknown : first_fault (program ((def 0 (kind.Global (variable (Integer I32) (name 4 "x") (Some (expr 8 (node.Variable (codes "y"))))))) ∷ (def 11 (kind.Function (function (Some (Integer I32)) (name 15 "main") [] ((stmt 28 (made.ReturnValue (expr 35 (node.Number (int32 (pos 0)))))) ∷ []) 38 10))) ∷ []) 39) ≡ Some (fault UnknownName 8)
unknown = simp (infer_at, need_at, walk_at, stmt_need_at, variables_at) refl

-- int x = 4 / 2; int main(void) { return 0; }
quotient : first_fault (program ((def 0 (kind.Global (variable (Integer I32) (name 4 "x") (Some (expr 8 (node.Binary Div (expr 8 (node.Number (int32 (pos 4)))) (expr 12 (node.Number (int32 (pos 2)))))))))) ∷ (def 15 (kind.Function (function (Some (Integer I32)) (name 19 "main") [] ((stmt 32 (made.ReturnValue (expr 39 (node.Number (int32 (pos 0)))))) ∷ []) 42 10))) ∷ []) 43) ≡ Some (fault WrongType 8)
quotient = simp (infer_at, need_at, walk_at, stmt_need_at, variables_at) refl

-- int x = thrd_success; int main(void) { return 0; }
success : first_fault (program ((def 0 (kind.Global (variable (Integer I32) (name 4 "x") (Some (expr 8 node.Success))))) ∷ (def 22 (kind.Function (function (Some (Integer I32)) (name 26 "main") [] ((stmt 39 (made.ReturnValue (expr 46 (node.Number (int32 (pos 0)))))) ∷ []) 49 10))) ∷ []) 50) ≡ Some (fault WrongType 8)
success = simp (infer_at, need_at, walk_at, stmt_need_at, variables_at) refl

-- struct t { int v; }; struct t *p = 1; int main(void) { return 0; }
handle_from_one : first_fault (program ((def 0 (kind.Struct (name 7 "t") ((binding (Integer I32) (name 15 "v")) ∷ []))) ∷ (def 21 (kind.Global (variable (Handle (name 28 "t")) (name 31 "p") (Some (expr 35 (node.Number (int32 (pos 1)))))))) ∷ (def 38 (kind.Function (function (Some (Integer I32)) (name 42 "main") [] ((stmt 55 (made.ReturnValue (expr 62 (node.Number (int32 (pos 0)))))) ∷ []) 65 10))) ∷ []) 66) ≡ Some (fault WrongType 35)
handle_from_one = simp (infer_at, need_at, walk_at, stmt_need_at, variables_at) refl

-- struct t { int v; }; int x = -(1 + 'a') * ~2; struct t *p = (struct t *) 0; int y = NULL == (struct t *) 0 ? 1 : !3; int a[3] = {1, 2 == 2,}; int main(void) { return 0; }
allowed : first_fault (program ((def 0 (kind.Struct (name 7 "t") ((binding (Integer I32) (name 15 "v")) ∷ []))) ∷ (def 21 (kind.Global (variable (Integer I32) (name 25 "x") (Some (expr 29 (node.Binary Mul (expr 29 (node.Unary Negate (expr 31 (node.Binary Add (expr 31 (node.Number (int32 (pos 1)))) (expr 35 (node.Character (int32 (pos 97)))))))) (expr 42 (node.Unary Complement (expr 43 (node.Number (int32 (pos 2)))))))))))) ∷ (def 46 (kind.Global (variable (Handle (name 53 "t")) (name 56 "p") (Some (expr 60 (node.Cast (Handle (name 68 "t")) (expr 73 (node.Number (int32 (pos 0)))))))))) ∷ (def 76 (kind.Global (variable (Integer I32) (name 80 "y") (Some (expr 84 (node.Choice (expr 84 (node.Binary Eq (expr 84 node.Null) (expr 92 (node.Cast (Handle (name 100 "t")) (expr 105 (node.Number (int32 (pos 0)))))))) (expr 109 (node.Number (int32 (pos 1)))) (expr 113 (node.Unary Not (expr 114 (node.Number (int32 (pos 3)))))))))))) ∷ (def 117 (kind.Array (array (Integer I32) (name 121 "a") 123 (int32 (pos 3)) (Some ((expr 129 (node.Number (int32 (pos 1)))) ∷ (expr 132 (node.Binary Eq (expr 132 (node.Number (int32 (pos 2)))) (expr 137 (node.Number (int32 (pos 2)))))) ∷ []))))) ∷ (def 142 (kind.Function (function (Some (Integer I32)) (name 146 "main") [] ((stmt 159 (made.ReturnValue (expr 166 (node.Number (int32 (pos 0)))))) ∷ []) 169 10))) ∷ []) 170) ≡ None
allowed = simp (infer_at, need_at, walk_at, stmt_need_at, variables_at) refl

-- int a[2] = {1, 2, 3}; int main(void) { return 0; }
list_too_long : first_fault (program ((def 0 (kind.Array (array (Integer I32) (name 4 "a") 6 (int32 (pos 2)) (Some ((expr 12 (node.Number (int32 (pos 1)))) ∷ (expr 15 (node.Number (int32 (pos 2)))) ∷ (expr 18 (node.Number (int32 (pos 3)))) ∷ []))))) ∷ (def 22 (kind.Function (function (Some (Integer I32)) (name 26 "main") [] ((stmt 39 (made.ReturnValue (expr 46 (node.Number (int32 (pos 0)))))) ∷ []) 49 10))) ∷ []) 50) ≡ Some (fault OverLimit 0)
list_too_long = simp (infer_at, need_at, walk_at, stmt_need_at, variables_at) refl

-- int a[0]; int main(void) { return 0; }
no_elements : first_fault (program ((def 0 (kind.Array (array (Integer I32) (name 4 "a") 6 (int32 (pos 0)) None))) ∷ (def 10 (kind.Function (function (Some (Integer I32)) (name 14 "main") [] ((stmt 27 (made.ReturnValue (expr 34 (node.Number (int32 (pos 0)))))) ∷ []) 37 10))) ∷ []) 38) ≡ Some (fault OverLimit 0)
no_elements = simp (infer_at, need_at, walk_at, stmt_need_at, variables_at) refl

-- int a[65536]; int main(void) { return 0; }
longest : first_fault (program ((def 0 (kind.Array (array (Integer I32) (name 4 "a") 6 (int32 (pos 65536)) None))) ∷ (def 14 (kind.Function (function (Some (Integer I32)) (name 18 "main") [] ((stmt 31 (made.ReturnValue (expr 38 (node.Number (int32 (pos 0)))))) ∷ []) 41 10))) ∷ []) 42) ≡ None
longest = simp (infer_at, need_at, walk_at, stmt_need_at, variables_at) refl

-- int a[65537]; int main(void) { return 0; }
too_long : first_fault (program ((def 0 (kind.Array (array (Integer I32) (name 4 "a") 6 (int32 (pos 65537)) None))) ∷ (def 14 (kind.Function (function (Some (Integer I32)) (name 18 "main") [] ((stmt 31 (made.ReturnValue (expr 38 (node.Number (int32 (pos 0)))))) ∷ []) 41 10))) ∷ []) 42) ≡ Some (fault OverLimit 0)
too_long = simp (infer_at, need_at, walk_at, stmt_need_at, variables_at) refl

-- int a[65535]; int b; int c; int main(void) { return 0; }
cells : first_fault (program ((def 0 (kind.Array (array (Integer I32) (name 4 "a") 6 (int32 (pos 65535)) None))) ∷ (def 14 (kind.Global (variable (Integer I32) (name 18 "b") None))) ∷ (def 21 (kind.Global (variable (Integer I32) (name 25 "c") None))) ∷ (def 28 (kind.Function (function (Some (Integer I32)) (name 32 "main") [] ((stmt 45 (made.ReturnValue (expr 52 (node.Number (int32 (pos 0)))))) ∷ []) 55 10))) ∷ []) 56) ≡ Some (fault OverLimit 21)
cells = simp (infer_at, need_at, walk_at, stmt_need_at, variables_at) refl

-- int a[65535]; int b; int c, d; int main(void) { return 0; }
cells_of_one_declaration : first_fault (program ((def 0 (kind.Array (array (Integer I32) (name 4 "a") 6 (int32 (pos 65535)) None))) ∷ (def 14 (kind.Global (variable (Integer I32) (name 18 "b") None))) ∷ (def 21 (kind.Global (variable (Integer I32) (name 25 "c") None))) ∷ (def 21 (kind.Global (variable (Integer I32) (name 28 "d") None))) ∷ (def 31 (kind.Function (function (Some (Integer I32)) (name 35 "main") [] ((stmt 48 (made.ReturnValue (expr 55 (node.Number (int32 (pos 0)))))) ∷ []) 58 10))) ∷ []) 59) ≡ Some (fault OverLimit 21)
cells_of_one_declaration = simp (infer_at, need_at, walk_at, stmt_need_at, variables_at) refl
