-- Texts with names that are unknown, declared twice or hidden, and their first faults.
use Rattle.std.specs.Prelude.{◌≡◌, pos, [], ◌∷◌, Some, None, codes}
use Rattle.std.proofs.Common.{refl}
use Rattle.c_ints.specs.declared.kind.Kind.TheVariants.{I32, I64}
use Rattle.c_ints.specs.declared.int.Int.TheVariants.{I32 as int32}
use Rattle.c_ints.specs.declared.operator.BinOp.TheVariants.{Add}
use Rattle.c_tree.specs.declared.name.CType.TheVariants.{Integer, Handle}
use Rattle.c_tree.specs.declared.expr.ExprNode.TheVariants as node
use Rattle.c_tree.specs.declared.stmt.StmtNode.TheVariants as made
use Rattle.c_tree.specs.declared.def.Parameters.TheVariants.{Named}
use Rattle.c_tree.specs.declared.def.DefKind.TheVariants as kind
use Rattle.c_expr_types.specs.declared.fault.TypeKind.TheVariants.{UnknownName, DeclaredTwice}
use Rattle.c_expr_types.specs.Faults.{fault}
use Rattle.c_types.specs.Definitions.{first_fault}
use Rattle.c_types.proofs.Samples.{name, expr, stmt, variable, binding, function, def, program}
use Rattle.c_types.proofs.FoldsAtNode.{infer_at, need_at, walk_at, stmt_need_at, variables_at}

-- int main(void) { return x; }
unknown_variable : first_fault (program ((def 0 (kind.Function (function (Some (Integer I32)) (name 4 "main") [] ((stmt 17 (made.ReturnValue (expr 24 (node.Variable (codes "x"))))) ∷ []) 27 10))) ∷ []) 28) ≡ Some (fault UnknownName 24)
unknown_variable = simp (infer_at, need_at, walk_at, stmt_need_at, variables_at) refl

-- int main(void) { return f(y); }
unknown_argument_before_function : first_fault (program ((def 0 (kind.Function (function (Some (Integer I32)) (name 4 "main") [] ((stmt 17 (made.ReturnValue (expr 24 (node.Call (codes "f") ((expr 26 (node.Variable (codes "y"))) ∷ []))))) ∷ []) 30 13))) ∷ []) 31) ≡ Some (fault UnknownName 26)
unknown_argument_before_function = simp (infer_at, need_at, walk_at, stmt_need_at, variables_at) refl

-- int main(void) { return f(1); }
unknown_function : first_fault (program ((def 0 (kind.Function (function (Some (Integer I32)) (name 4 "main") [] ((stmt 17 (made.ReturnValue (expr 24 (node.Call (codes "f") ((expr 26 (node.Number (int32 (pos 1)))) ∷ []))))) ∷ []) 30 13))) ∷ []) 31) ≡ Some (fault UnknownName 24)
unknown_function = simp (infer_at, need_at, walk_at, stmt_need_at, variables_at) refl

-- int main(void) { return f(); } int f(void);
prototype_alone_before_its_call : first_fault (program ((def 0 (kind.Function (function (Some (Integer I32)) (name 4 "main") [] ((stmt 17 (made.ReturnValue (expr 24 (node.Call (codes "f") [])))) ∷ []) 29 12))) ∷ (def 31 (kind.Prototype (record { result = (Some (Integer I32)); name = (name 35 "f"); parameters = (Named []) }))) ∷ []) 43) ≡ Some (fault UnknownName 24)
prototype_alone_before_its_call = simp (infer_at, need_at, walk_at, stmt_need_at, variables_at) refl

-- struct t *p; int main(void) { return 0; }
unknown_tag : first_fault (program ((def 0 (kind.Global (variable (Handle (name 7 "t")) (name 10 "p") None))) ∷ (def 13 (kind.Function (function (Some (Integer I32)) (name 17 "main") [] ((stmt 30 (made.ReturnValue (expr 37 (node.Number (int32 (pos 0)))))) ∷ []) 40 10))) ∷ []) 41) ≡ Some (fault UnknownName 7)
unknown_tag = simp (infer_at, need_at, walk_at, stmt_need_at, variables_at) refl

-- int main(void) { mtx_lock(&m); return 0; }
unknown_mutex : first_fault (program ((def 0 (kind.Function (function (Some (Integer I32)) (name 4 "main") [] ((stmt 17 (made.Evaluate (expr 17 (node.Lock (name 27 "m"))))) ∷ (stmt 31 (made.ReturnValue (expr 38 (node.Number (int32 (pos 0)))))) ∷ []) 41 16))) ∷ []) 42) ≡ Some (fault UnknownName 27)
unknown_mutex = simp (infer_at, need_at, walk_at, stmt_need_at, variables_at) refl

-- int main(void) { return x; } int x;
known_behind : first_fault (program ((def 0 (kind.Function (function (Some (Integer I32)) (name 4 "main") [] ((stmt 17 (made.ReturnValue (expr 24 (node.Variable (codes "x"))))) ∷ []) 27 10))) ∷ (def 29 (kind.Global (variable (Integer I32) (name 33 "x") None))) ∷ []) 35) ≡ None
known_behind = simp (infer_at, need_at, walk_at, stmt_need_at, variables_at) refl

-- int main(void) { int x = x; return x; }
own_initialiser : first_fault (program ((def 0 (kind.Function (function (Some (Integer I32)) (name 4 "main") [] ((stmt 17 (made.Declare (variable (Integer I32) (name 21 "x") (Some (expr 25 (node.Variable (codes "x"))))))) ∷ (stmt 28 (made.ReturnValue (expr 35 (node.Variable (codes "x"))))) ∷ []) 38 15))) ∷ []) 39) ≡ None
own_initialiser = simp (infer_at, need_at, walk_at, stmt_need_at, variables_at) refl

-- int main(void) { { int x; } return x; }
out_of_its_block : first_fault (program ((def 0 (kind.Function (function (Some (Integer I32)) (name 4 "main") [] ((stmt 17 (made.Block ((stmt 19 (made.Declare (variable (Integer I32) (name 23 "x") None))) ∷ []))) ∷ (stmt 28 (made.ReturnValue (expr 35 (node.Variable (codes "x"))))) ∷ []) 38 15))) ∷ []) 39) ≡ Some (fault UnknownName 35)
out_of_its_block = simp (infer_at, need_at, walk_at, stmt_need_at, variables_at) refl

-- struct t { int v; }; struct t *x; int main(void) { int x = 1; return x + 1; }
local_hides : first_fault (program ((def 0 (kind.Struct (name 7 "t") ((binding (Integer I32) (name 15 "v")) ∷ []))) ∷ (def 21 (kind.Global (variable (Handle (name 28 "t")) (name 31 "x") None))) ∷ (def 34 (kind.Function (function (Some (Integer I32)) (name 38 "main") [] ((stmt 51 (made.Declare (variable (Integer I32) (name 55 "x") (Some (expr 59 (node.Number (int32 (pos 1)))))))) ∷ (stmt 62 (made.ReturnValue (expr 69 (node.Binary Add (expr 69 (node.Variable (codes "x"))) (expr 73 (node.Number (int32 (pos 1)))))))) ∷ []) 76 17))) ∷ []) 77) ≡ None
local_hides = simp (infer_at, need_at, walk_at, stmt_need_at, variables_at) refl

-- int x; long x; int main(void) { return 0; }
twice_in_text : first_fault (program ((def 0 (kind.Global (variable (Integer I32) (name 4 "x") None))) ∷ (def 7 (kind.Global (variable (Integer I64) (name 12 "x") None))) ∷ (def 15 (kind.Function (function (Some (Integer I32)) (name 19 "main") [] ((stmt 32 (made.ReturnValue (expr 39 (node.Number (int32 (pos 0)))))) ∷ []) 42 10))) ∷ []) 43) ≡ Some (fault DeclaredTwice 12)
twice_in_text = simp (infer_at, need_at, walk_at, stmt_need_at, variables_at) refl

-- int main(void) { int x; int x; return 0; }
twice_in_block : first_fault (program ((def 0 (kind.Function (function (Some (Integer I32)) (name 4 "main") [] ((stmt 17 (made.Declare (variable (Integer I32) (name 21 "x") None))) ∷ (stmt 24 (made.Declare (variable (Integer I32) (name 28 "x") None))) ∷ (stmt 31 (made.ReturnValue (expr 38 (node.Number (int32 (pos 0)))))) ∷ []) 41 16))) ∷ []) 42) ≡ Some (fault DeclaredTwice 28)
twice_in_block = simp (infer_at, need_at, walk_at, stmt_need_at, variables_at) refl

-- int f(int x) { int x; return 0; } int main(void) { return 0; }
parameter_and_variable : first_fault (program ((def 0 (kind.Function (function (Some (Integer I32)) (name 4 "f") ((binding (Integer I32) (name 10 "x")) ∷ []) ((stmt 15 (made.Declare (variable (Integer I32) (name 19 "x") None))) ∷ (stmt 22 (made.ReturnValue (expr 29 (node.Number (int32 (pos 0)))))) ∷ []) 32 14))) ∷ (def 34 (kind.Function (function (Some (Integer I32)) (name 38 "main") [] ((stmt 51 (made.ReturnValue (expr 58 (node.Number (int32 (pos 0)))))) ∷ []) 61 10))) ∷ []) 62) ≡ Some (fault DeclaredTwice 19)
parameter_and_variable = simp (infer_at, need_at, walk_at, stmt_need_at, variables_at) refl

-- int f(int x) { { int x = 1; return x; } } int main(void) { return 0; }
hidden_in_inner_block : first_fault (program ((def 0 (kind.Function (function (Some (Integer I32)) (name 4 "f") ((binding (Integer I32) (name 10 "x")) ∷ []) ((stmt 15 (made.Block ((stmt 17 (made.Declare (variable (Integer I32) (name 21 "x") (Some (expr 25 (node.Number (int32 (pos 1)))))))) ∷ (stmt 28 (made.ReturnValue (expr 35 (node.Variable (codes "x"))))) ∷ []))) ∷ []) 40 18))) ∷ (def 42 (kind.Function (function (Some (Integer I32)) (name 46 "main") [] ((stmt 59 (made.ReturnValue (expr 66 (node.Number (int32 (pos 0)))))) ∷ []) 69 10))) ∷ []) 70) ≡ None
hidden_in_inner_block = simp (infer_at, need_at, walk_at, stmt_need_at, variables_at) refl

-- struct t { int f; int f; }; int main(void) { return 0; }
twice_in_struct : first_fault (program ((def 0 (kind.Struct (name 7 "t") ((binding (Integer I32) (name 15 "f")) ∷ (binding (Integer I32) (name 22 "f")) ∷ []))) ∷ (def 28 (kind.Function (function (Some (Integer I32)) (name 32 "main") [] ((stmt 45 (made.ReturnValue (expr 52 (node.Number (int32 (pos 0)))))) ∷ []) 55 10))) ∷ []) 56) ≡ Some (fault DeclaredTwice 22)
twice_in_struct = simp (infer_at, need_at, walk_at, stmt_need_at, variables_at) refl

-- int f(int a, int a); int f(int a, int b) { return a; } int main(void) { return 0; }
twice_in_prototype : first_fault (program ((def 0 (kind.Prototype (record { result = (Some (Integer I32)); name = (name 4 "f"); parameters = (Named ((binding (Integer I32) (name 10 "a")) ∷ (binding (Integer I32) (name 17 "a")) ∷ [])) }))) ∷ (def 21 (kind.Function (function (Some (Integer I32)) (name 25 "f") ((binding (Integer I32) (name 31 "a")) ∷ (binding (Integer I32) (name 38 "b")) ∷ []) ((stmt 43 (made.ReturnValue (expr 50 (node.Variable (codes "a"))))) ∷ []) 53 14))) ∷ (def 55 (kind.Function (function (Some (Integer I32)) (name 59 "main") [] ((stmt 72 (made.ReturnValue (expr 79 (node.Number (int32 (pos 0)))))) ∷ []) 82 10))) ∷ []) 83) ≡ Some (fault DeclaredTwice 17)
twice_in_prototype = simp (infer_at, need_at, walk_at, stmt_need_at, variables_at) refl

-- int main(void) { return 0; } int main(void) { return 1; }
second_main : first_fault (program ((def 0 (kind.Function (function (Some (Integer I32)) (name 4 "main") [] ((stmt 17 (made.ReturnValue (expr 24 (node.Number (int32 (pos 0)))))) ∷ []) 27 10))) ∷ (def 29 (kind.Function (function (Some (Integer I32)) (name 33 "main") [] ((stmt 46 (made.ReturnValue (expr 53 (node.Number (int32 (pos 1)))))) ∷ []) 56 10))) ∷ []) 57) ≡ Some (fault DeclaredTwice 33)
second_main = simp (infer_at, need_at, walk_at, stmt_need_at, variables_at) refl

-- struct t { int v; }; int t; int main(void) { return 0; }
tag_and_variable : first_fault (program ((def 0 (kind.Struct (name 7 "t") ((binding (Integer I32) (name 15 "v")) ∷ []))) ∷ (def 21 (kind.Global (variable (Integer I32) (name 25 "t") None))) ∷ (def 28 (kind.Function (function (Some (Integer I32)) (name 32 "main") [] ((stmt 45 (made.ReturnValue (expr 52 (node.Number (int32 (pos 0)))))) ∷ []) 55 10))) ∷ []) 56) ≡ None
tag_and_variable = simp (infer_at, need_at, walk_at, stmt_need_at, variables_at) refl
