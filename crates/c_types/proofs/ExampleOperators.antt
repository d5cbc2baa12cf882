-- Texts with operands of wrong types, and their first faults.
use Rattle.std.specs.Prelude.{◌≡◌, pos, [], ◌∷◌, Some, None, codes}
use Rattle.std.proofs.Common.{refl}
use Rattle.c_ints.specs.declared.kind.Kind.TheVariants.{I32}
use Rattle.c_ints.specs.declared.int.Int.TheVariants.{I32 as int32}
use Rattle.c_ints.specs.declared.operator.BinOp.TheVariants.{Add, Eq, Ne}
use Rattle.c_tree.specs.declared.name.CType.TheVariants.{Integer, Handle}
use Rattle.c_tree.specs.declared.expr.ExprNode.TheVariants as node
use Rattle.c_tree.specs.declared.stmt.StmtNode.TheVariants as made
use Rattle.c_tree.specs.declared.def.DefKind.TheVariants as kind
use Rattle.c_expr_types.specs.declared.fault.TypeKind.TheVariants.{WrongType}
use Rattle.c_expr_types.specs.Faults.{fault}
use Rattle.c_types.specs.Definitions.{first_fault}
use Rattle.c_types.proofs.Samples.{name, expr, stmt, variable, binding, function, array, def, program}
use Rattle.c_types.proofs.FoldsAtNode.{infer_at, need_at, walk_at, stmt_need_at, variables_at}

-- struct t { int v; }; struct t *p; int main(void) { return 1 + p; }
handle_in_sum : first_fault (program ((def 0 (kind.Struct (name 7 "t") ((binding (Integer I32) (name 15 "v")) ∷ []))) ∷ (def 21 (kind.Global (variable (Handle (name 28 "t")) (name 31 "p") None))) ∷ (def 34 (kind.Function (function (Some (Integer I32)) (name 38 "main") [] ((stmt 51 (made.ReturnValue (expr 58 (node.Binary Add (expr 58 (node.Number (int32 (pos 1)))) (expr 62 (node.Variable (codes "p"))))))) ∷ []) 65 12))) ∷ []) 66) ≡ Some (fault WrongType 62)
handle_in_sum = simp (infer_at, need_at, walk_at, stmt_need_at, variables_at) refl

-- struct t { int v; }; struct t *p; int main(void) { return 1 == p; }
number_and_handle : first_fault (program ((def 0 (kind.Struct (name 7 "t") ((binding (Integer I32) (name 15 "v")) ∷ []))) ∷ (def 21 (kind.Global (variable (Handle (name 28 "t")) (name 31 "p") None))) ∷ (def 34 (kind.Function (function (Some (Integer I32)) (name 38 "main") [] ((stmt 51 (made.ReturnValue (expr 58 (node.Binary Eq (expr 58 (node.Number (int32 (pos 1)))) (expr 63 (node.Variable (codes "p"))))))) ∷ []) 66 12))) ∷ []) 67) ≡ Some (fault WrongType 58)
number_and_handle = simp (infer_at, need_at, walk_at, stmt_need_at, variables_at) refl

-- struct t { int v; }; struct t *p; int main(void) { if (1 ? p : 1) ; return 0; }
choice_of_two_types : first_fault (program ((def 0 (kind.Struct (name 7 "t") ((binding (Integer I32) (name 15 "v")) ∷ []))) ∷ (def 21 (kind.Global (variable (Handle (name 28 "t")) (name 31 "p") None))) ∷ (def 34 (kind.Function (function (Some (Integer I32)) (name 38 "main") [] ((stmt 51 (made.If (expr 55 (node.Choice (expr 55 (node.Number (int32 (pos 1)))) (expr 59 (node.Variable (codes "p"))) (expr 63 (node.Number (int32 (pos 1)))))) (stmt 66 made.Empty))) ∷ (stmt 68 (made.ReturnValue (expr 75 (node.Number (int32 (pos 0)))))) ∷ []) 78 19))) ∷ []) 79) ≡ Some (fault WrongType 55)
choice_of_two_types = simp (infer_at, need_at, walk_at, stmt_need_at, variables_at) refl

-- struct t { int v; }; struct u { int v; }; struct t *p; struct u *q; int main(void) { q = p; return 0; }
two_handles : first_fault (program ((def 0 (kind.Struct (name 7 "t") ((binding (Integer I32) (name 15 "v")) ∷ []))) ∷ (def 21 (kind.Struct (name 28 "u") ((binding (Integer I32) (name 36 "v")) ∷ []))) ∷ (def 42 (kind.Global (variable (Handle (name 49 "t")) (name 52 "p") None))) ∷ (def 55 (kind.Global (variable (Handle (name 62 "u")) (name 65 "q") None))) ∷ (def 68 (kind.Function (function (Some (Integer I32)) (name 72 "main") [] ((stmt 85 (made.Evaluate (expr 85 (node.Assign (expr 85 (node.Variable (codes "q"))) (expr 89 (node.Variable (codes "p"))))))) ∷ (stmt 92 (made.ReturnValue (expr 99 (node.Number (int32 (pos 0)))))) ∷ []) 102 14))) ∷ []) 103) ≡ Some (fault WrongType 89)
two_handles = simp (infer_at, need_at, walk_at, stmt_need_at, variables_at) refl

-- struct t { int v; }; struct u { int v; }; struct t *p; int main(void) { return (struct u *) p == NULL; }
cast_of_handle : first_fault (program ((def 0 (kind.Struct (name 7 "t") ((binding (Integer I32) (name 15 "v")) ∷ []))) ∷ (def 21 (kind.Struct (name 28 "u") ((binding (Integer I32) (name 36 "v")) ∷ []))) ∷ (def 42 (kind.Global (variable (Handle (name 49 "t")) (name 52 "p") None))) ∷ (def 55 (kind.Function (function (Some (Integer I32)) (name 59 "main") [] ((stmt 72 (made.ReturnValue (expr 79 (node.Binary Eq (expr 79 (node.Cast (Handle (name 87 "u")) (expr 92 (node.Variable (codes "p"))))) (expr 97 node.Null))))) ∷ []) 103 17))) ∷ []) 104) ≡ Some (fault WrongType 92)
cast_of_handle = simp (infer_at, need_at, walk_at, stmt_need_at, variables_at) refl

-- int main(void) { if (NULL) ; return 0; }
null_alone : first_fault (program ((def 0 (kind.Function (function (Some (Integer I32)) (name 4 "main") [] ((stmt 17 (made.If (expr 21 node.Null) (stmt 27 made.Empty))) ∷ (stmt 29 (made.ReturnValue (expr 36 (node.Number (int32 (pos 0)))))) ∷ []) 39 15))) ∷ []) 40) ≡ Some (fault WrongType 21)
null_alone = simp (infer_at, need_at, walk_at, stmt_need_at, variables_at) refl

-- int main(void) { return NULL == 0; }
two_nulls : first_fault (program ((def 0 (kind.Function (function (Some (Integer I32)) (name 4 "main") [] ((stmt 17 (made.ReturnValue (expr 24 (node.Binary Eq (expr 24 node.Null) (expr 32 (node.Number (int32 (pos 0)))))))) ∷ []) 35 12))) ∷ []) 36) ≡ Some (fault WrongType 24)
two_nulls = simp (infer_at, need_at, walk_at, stmt_need_at, variables_at) refl

-- int main(void) { free(0); return 0; }
free_of_zero : first_fault (program ((def 0 (kind.Function (function (Some (Integer I32)) (name 4 "main") [] ((stmt 17 (made.Evaluate (expr 17 (node.Free (expr 22 (node.Number (int32 (pos 0)))))))) ∷ (stmt 26 (made.ReturnValue (expr 33 (node.Number (int32 (pos 0)))))) ∷ []) 36 15))) ∷ []) 37) ≡ Some (fault WrongType 22)
free_of_zero = simp (infer_at, need_at, walk_at, stmt_need_at, variables_at) refl

-- int f(void) { return 0; } int main(void) { return f; }
function_as_value : first_fault (program ((def 0 (kind.Function (function (Some (Integer I32)) (name 4 "f") [] ((stmt 14 (made.ReturnValue (expr 21 (node.Number (int32 (pos 0)))))) ∷ []) 24 10))) ∷ (def 26 (kind.Function (function (Some (Integer I32)) (name 30 "main") [] ((stmt 43 (made.ReturnValue (expr 50 (node.Variable (codes "f"))))) ∷ []) 53 10))) ∷ []) 54) ≡ Some (fault WrongType 50)
function_as_value = simp (infer_at, need_at, walk_at, stmt_need_at, variables_at) refl

-- void f(void) { } int main(void) { return f(); }
value_of_nothing : first_fault (program ((def 0 (kind.Function (function None (name 5 "f") [] [] 15 7))) ∷ (def 17 (kind.Function (function (Some (Integer I32)) (name 21 "main") [] ((stmt 34 (made.ReturnValue (expr 41 (node.Call (codes "f") [])))) ∷ []) 46 12))) ∷ []) 47) ≡ Some (fault WrongType 41)
value_of_nothing = simp (infer_at, need_at, walk_at, stmt_need_at, variables_at) refl

-- int x; int main(void) { return x.f; }
dot_of_variable : first_fault (program ((def 0 (kind.Global (variable (Integer I32) (name 4 "x") None))) ∷ (def 7 (kind.Function (function (Some (Integer I32)) (name 11 "main") [] ((stmt 24 (made.ReturnValue (expr 31 (node.Dot (expr 31 (node.Variable (codes "x"))) (name 33 "f"))))) ∷ []) 36 12))) ∷ []) 37) ≡ Some (fault WrongType 31)
dot_of_variable = simp (infer_at, need_at, walk_at, stmt_need_at, variables_at) refl

-- struct t { int v; }; struct t *p; int main(void) { if (p) return p == NULL; p = 0; return (1 ? p : NULL) != 0; }
handles_meet : first_fault (program ((def 0 (kind.Struct (name 7 "t") ((binding (Integer I32) (name 15 "v")) ∷ []))) ∷ (def 21 (kind.Global (variable (Handle (name 28 "t")) (name 31 "p") None))) ∷ (def 34 (kind.Function (function (Some (Integer I32)) (name 38 "main") [] ((stmt 51 (made.If (expr 55 (node.Variable (codes "p"))) (stmt 58 (made.ReturnValue (expr 65 (node.Binary Eq (expr 65 (node.Variable (codes "p"))) (expr 70 node.Null))))))) ∷ (stmt 76 (made.Evaluate (expr 76 (node.Assign (expr 76 (node.Variable (codes "p"))) (expr 80 (node.Number (int32 (pos 0)))))))) ∷ (stmt 83 (made.ReturnValue (expr 90 (node.Binary Ne (expr 91 (node.Choice (expr 91 (node.Number (int32 (pos 1)))) (expr 95 (node.Variable (codes "p"))) (expr 99 node.Null))) (expr 108 (node.Number (int32 (pos 0)))))))) ∷ []) 111 31))) ∷ []) 112) ≡ None
handles_meet = simp (infer_at, need_at, walk_at, stmt_need_at, variables_at) refl

-- struct t { int v; }; struct t *p; int main(void) { p = '\0'; return 0; }
zero_by_another_name : first_fault (program ((def 0 (kind.Struct (name 7 "t") ((binding (Integer I32) (name 15 "v")) ∷ []))) ∷ (def 21 (kind.Global (variable (Handle (name 28 "t")) (name 31 "p") None))) ∷ (def 34 (kind.Function (function (Some (Integer I32)) (name 38 "main") [] ((stmt 51 (made.Evaluate (expr 51 (node.Assign (expr 51 (node.Variable (codes "p"))) (expr 55 (node.Character (int32 (pos 0)))))))) ∷ (stmt 61 (made.ReturnValue (expr 68 (node.Number (int32 (pos 0)))))) ∷ []) 71 14))) ∷ []) 72) ≡ Some (fault WrongType 55)
zero_by_another_name = simp (infer_at, need_at, walk_at, stmt_need_at, variables_at) refl

-- int x; int main(void) { return x[0]; }
element_of_variable : first_fault (program ((def 0 (kind.Global (variable (Integer I32) (name 4 "x") None))) ∷ (def 7 (kind.Function (function (Some (Integer I32)) (name 11 "main") [] ((stmt 24 (made.ReturnValue (expr 31 (node.Element (codes "x") (expr 33 (node.Number (int32 (pos 0)))))))) ∷ []) 37 13))) ∷ []) 38) ≡ Some (fault WrongType 31)
element_of_variable = simp (infer_at, need_at, walk_at, stmt_need_at, variables_at) refl

-- struct t { int v; }; struct t *p; int a[2]; int main(void) { a[p] = 1; return 0; }
index_is_a_handle : first_fault (program ((def 0 (kind.Struct (name 7 "t") ((binding (Integer I32) (name 15 "v")) ∷ []))) ∷ (def 21 (kind.Global (variable (Handle (name 28 "t")) (name 31 "p") None))) ∷ (def 34 (kind.Array (array (Integer I32) (name 38 "a") 40 (int32 (pos 2)) None))) ∷ (def 44 (kind.Function (function (Some (Integer I32)) (name 48 "main") [] ((stmt 61 (made.Evaluate (expr 61 (node.Assign (expr 61 (node.Element (codes "a") (expr 63 (node.Variable (codes "p"))))) (expr 68 (node.Number (int32 (pos 1)))))))) ∷ (stmt 71 (made.ReturnValue (expr 78 (node.Number (int32 (pos 0)))))) ∷ []) 81 17))) ∷ []) 82) ≡ Some (fault WrongType 63)
index_is_a_handle = simp (infer_at, need_at, walk_at, stmt_need_at, variables_at) refl
