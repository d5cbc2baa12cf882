-- Texts with calls and places, and their first faults.
use Rattle.std.specs.Prelude.{◌≡◌, pos, [], ◌∷◌, Some, None, codes}
use Rattle.std.proofs.Common.{refl}
use Rattle.c_ints.specs.declared.kind.Kind.TheVariants.{I32, I64}
use Rattle.c_ints.specs.declared.int.Int.TheVariants.{I32 as int32}
use Rattle.c_tree.specs.declared.name.CType.TheVariants.{Integer, Handle, Thread}
use Rattle.c_tree.specs.declared.expr.StepOp.TheVariants.{PreIncrement, PostIncrement}
use Rattle.c_tree.specs.declared.expr.ExprNode.TheVariants as node
use Rattle.c_tree.specs.declared.stmt.StmtNode.TheVariants as made
use Rattle.c_tree.specs.declared.def.DefKind.TheVariants as kind
use Rattle.c_expr_types.specs.declared.fault.TypeKind.TheVariants.{WrongType, WrongCount, NotPlace}
use Rattle.c_expr_types.specs.Faults.{fault}
use Rattle.c_types.specs.Definitions.{first_fault}
use Rattle.c_types.proofs.Samples.{name, expr, stmt, variable, binding, function, array, def, program}
use Rattle.c_types.proofs.FoldsAtNode.{infer_at, need_at, walk_at, stmt_need_at, variables_at}

-- int f(int a) { return a; } int main(void) { return f(); }
too_few : first_fault (program ((def 0 (kind.Function (function (Some (Integer I32)) (name 4 "f") ((binding (Integer I32) (name 10 "a")) ∷ []) ((stmt 15 (made.ReturnValue (expr 22 (node.Variable (codes "a"))))) ∷ []) 25 11))) ∷ (def 27 (kind.Function (function (Some (Integer I32)) (name 31 "main") [] ((stmt 44 (made.ReturnValue (expr 51 (node.Call (codes "f") [])))) ∷ []) 56 12))) ∷ []) 57) ≡ Some (fault WrongCount 51)
too_few = simp (infer_at, need_at, walk_at, stmt_need_at, variables_at) refl

-- int f(void) { return 0; } int main(void) { return f(1); }
too_many : first_fault (program ((def 0 (kind.Function (function (Some (Integer I32)) (name 4 "f") [] ((stmt 14 (made.ReturnValue (expr 21 (node.Number (int32 (pos 0)))))) ∷ []) 24 10))) ∷ (def 26 (kind.Function (function (Some (Integer I32)) (name 30 "main") [] ((stmt 43 (made.ReturnValue (expr 50 (node.Call (codes "f") ((expr 52 (node.Number (int32 (pos 1)))) ∷ []))))) ∷ []) 56 13))) ∷ []) 57) ≡ Some (fault WrongCount 50)
too_many = simp (infer_at, need_at, walk_at, stmt_need_at, variables_at) refl

-- struct t { int v; }; struct t *p; int f(int a) { return a; } int main(void) { return f(p); }
argument_of_another_type : first_fault (program ((def 0 (kind.Struct (name 7 "t") ((binding (Integer I32) (name 15 "v")) ∷ []))) ∷ (def 21 (kind.Global (variable (Handle (name 28 "t")) (name 31 "p") None))) ∷ (def 34 (kind.Function (function (Some (Integer I32)) (name 38 "f") ((binding (Integer I32) (name 44 "a")) ∷ []) ((stmt 49 (made.ReturnValue (expr 56 (node.Variable (codes "a"))))) ∷ []) 59 11))) ∷ (def 61 (kind.Function (function (Some (Integer I32)) (name 65 "main") [] ((stmt 78 (made.ReturnValue (expr 85 (node.Call (codes "f") ((expr 87 (node.Variable (codes "p"))) ∷ []))))) ∷ []) 91 13))) ∷ []) 92) ≡ Some (fault WrongType 87)
argument_of_another_type = simp (infer_at, need_at, walk_at, stmt_need_at, variables_at) refl

-- int x; int main(void) { return x(); }
call_of_variable : first_fault (program ((def 0 (kind.Global (variable (Integer I32) (name 4 "x") None))) ∷ (def 7 (kind.Function (function (Some (Integer I32)) (name 11 "main") [] ((stmt 24 (made.ReturnValue (expr 31 (node.Call (codes "x") [])))) ∷ []) 36 12))) ∷ []) 37) ≡ Some (fault WrongType 31)
call_of_variable = simp (infer_at, need_at, walk_at, stmt_need_at, variables_at) refl

-- int main(void) { 1 = 2; return 0; }
number_assigned : first_fault (program ((def 0 (kind.Function (function (Some (Integer I32)) (name 4 "main") [] ((stmt 17 (made.Evaluate (expr 17 (node.Assign (expr 17 (node.Number (int32 (pos 1)))) (expr 21 (node.Number (int32 (pos 2)))))))) ∷ (stmt 24 (made.ReturnValue (expr 31 (node.Number (int32 (pos 0)))))) ∷ []) 34 14))) ∷ []) 35) ≡ Some (fault NotPlace 17)
number_assigned = simp (infer_at, need_at, walk_at, stmt_need_at, variables_at) refl

-- int f(void) { return 0; } int main(void) { f++; return 0; }
function_stepped : first_fault (program ((def 0 (kind.Function (function (Some (Integer I32)) (name 4 "f") [] ((stmt 14 (made.ReturnValue (expr 21 (node.Number (int32 (pos 0)))))) ∷ []) 24 10))) ∷ (def 26 (kind.Function (function (Some (Integer I32)) (name 30 "main") [] ((stmt 43 (made.Evaluate (expr 43 (node.Step PostIncrement (expr 43 (node.Variable (codes "f"))))))) ∷ (stmt 48 (made.ReturnValue (expr 55 (node.Number (int32 (pos 0)))))) ∷ []) 58 13))) ∷ []) 59) ≡ Some (fault NotPlace 43)
function_stepped = simp (infer_at, need_at, walk_at, stmt_need_at, variables_at) refl

-- int a[2]; int main(void) { a = 1; return 0; }
array_assigned : first_fault (program ((def 0 (kind.Array (array (Integer I32) (name 4 "a") 6 (int32 (pos 2)) None))) ∷ (def 10 (kind.Function (function (Some (Integer I32)) (name 14 "main") [] ((stmt 27 (made.Evaluate (expr 27 (node.Assign (expr 27 (node.Variable (codes "a"))) (expr 31 (node.Number (int32 (pos 1)))))))) ∷ (stmt 34 (made.ReturnValue (expr 41 (node.Number (int32 (pos 0)))))) ∷ []) 44 14))) ∷ []) 45) ≡ Some (fault NotPlace 27)
array_assigned = simp (infer_at, need_at, walk_at, stmt_need_at, variables_at) refl

-- int main(void) { int x; x++ ++; return 0; }
step_of_step : first_fault (program ((def 0 (kind.Function (function (Some (Integer I32)) (name 4 "main") [] ((stmt 17 (made.Declare (variable (Integer I32) (name 21 "x") None))) ∷ (stmt 24 (made.Evaluate (expr 24 (node.Step PostIncrement (expr 24 (node.Step PostIncrement (expr 24 (node.Variable (codes "x"))))))))) ∷ (stmt 32 (made.ReturnValue (expr 39 (node.Number (int32 (pos 0)))))) ∷ []) 42 17))) ∷ []) 43) ≡ Some (fault NotPlace 24)
step_of_step = simp (infer_at, need_at, walk_at, stmt_need_at, variables_at) refl

-- struct t { int v; }; struct t *p; int main(void) { ++p; return 0; }
handle_stepped : first_fault (program ((def 0 (kind.Struct (name 7 "t") ((binding (Integer I32) (name 15 "v")) ∷ []))) ∷ (def 21 (kind.Global (variable (Handle (name 28 "t")) (name 31 "p") None))) ∷ (def 34 (kind.Function (function (Some (Integer I32)) (name 38 "main") [] ((stmt 51 (made.Evaluate (expr 51 (node.Step PreIncrement (expr 53 (node.Variable (codes "p"))))))) ∷ (stmt 56 (made.ReturnValue (expr 63 (node.Number (int32 (pos 0)))))) ∷ []) 66 13))) ∷ []) 67) ≡ Some (fault WrongType 53)
handle_stepped = simp (infer_at, need_at, walk_at, stmt_need_at, variables_at) refl

-- int x; int main(void) { thrd_t t; thrd_create(&t, x, 1); return 0; }
spawn_of_variable : first_fault (program ((def 0 (kind.Global (variable (Integer I32) (name 4 "x") None))) ∷ (def 7 (kind.Function (function (Some (Integer I32)) (name 11 "main") [] ((stmt 24 (made.Declare (variable Thread (name 31 "t") None))) ∷ (stmt 34 (made.Evaluate (expr 34 (node.Create (expr 47 (node.Variable (codes "t"))) (name 50 "x") (expr 53 (node.Number (int32 (pos 1)))))))) ∷ (stmt 57 (made.ReturnValue (expr 64 (node.Number (int32 (pos 0)))))) ∷ []) 67 23))) ∷ []) 68) ≡ Some (fault WrongType 34)
spawn_of_variable = simp (infer_at, need_at, walk_at, stmt_need_at, variables_at) refl

-- void f(int a) { } int main(void) { thrd_t t; thrd_create(&t, f, 1); return 0; }
spawn_of_void : first_fault (program ((def 0 (kind.Function (function None (name 5 "f") ((binding (Integer I32) (name 11 "a")) ∷ []) [] 16 8))) ∷ (def 18 (kind.Function (function (Some (Integer I32)) (name 22 "main") [] ((stmt 35 (made.Declare (variable Thread (name 42 "t") None))) ∷ (stmt 45 (made.Evaluate (expr 45 (node.Create (expr 58 (node.Variable (codes "t"))) (name 61 "f") (expr 64 (node.Number (int32 (pos 1)))))))) ∷ (stmt 68 (made.ReturnValue (expr 75 (node.Number (int32 (pos 0)))))) ∷ []) 78 23))) ∷ []) 79) ≡ Some (fault WrongType 45)
spawn_of_void = simp (infer_at, need_at, walk_at, stmt_need_at, variables_at) refl

-- int f(int a) { return a; } int main(void) { int t; thrd_create(&t, f, 1); return 0; }
spawn_into_int : first_fault (program ((def 0 (kind.Function (function (Some (Integer I32)) (name 4 "f") ((binding (Integer I32) (name 10 "a")) ∷ []) ((stmt 15 (made.ReturnValue (expr 22 (node.Variable (codes "a"))))) ∷ []) 25 11))) ∷ (def 27 (kind.Function (function (Some (Integer I32)) (name 31 "main") [] ((stmt 44 (made.Declare (variable (Integer I32) (name 48 "t") None))) ∷ (stmt 51 (made.Evaluate (expr 51 (node.Create (expr 64 (node.Variable (codes "t"))) (name 67 "f") (expr 70 (node.Number (int32 (pos 1)))))))) ∷ (stmt 74 (made.ReturnValue (expr 81 (node.Number (int32 (pos 0)))))) ∷ []) 84 23))) ∷ []) 85) ≡ Some (fault WrongType 64)
spawn_into_int = simp (infer_at, need_at, walk_at, stmt_need_at, variables_at) refl

-- int f(int a) { return a; } int main(void) { thrd_t t; long r; thrd_join(t, &r); return 0; }
join_into_long : first_fault (program ((def 0 (kind.Function (function (Some (Integer I32)) (name 4 "f") ((binding (Integer I32) (name 10 "a")) ∷ []) ((stmt 15 (made.ReturnValue (expr 22 (node.Variable (codes "a"))))) ∷ []) 25 11))) ∷ (def 27 (kind.Function (function (Some (Integer I32)) (name 31 "main") [] ((stmt 44 (made.Declare (variable Thread (name 51 "t") None))) ∷ (stmt 54 (made.Declare (variable (Integer I64) (name 59 "r") None))) ∷ (stmt 62 (made.Evaluate (expr 62 (node.JoinInto (expr 72 (node.Variable (codes "t"))) (expr 76 (node.Variable (codes "r"))))))) ∷ (stmt 80 (made.ReturnValue (expr 87 (node.Number (int32 (pos 0)))))) ∷ []) 90 24))) ∷ []) 91) ≡ Some (fault WrongType 76)
join_into_long = simp (infer_at, need_at, walk_at, stmt_need_at, variables_at) refl

-- int x; int main(void) { mtx_lock(&x); return 0; }
lock_of_variable : first_fault (program ((def 0 (kind.Global (variable (Integer I32) (name 4 "x") None))) ∷ (def 7 (kind.Function (function (Some (Integer I32)) (name 11 "main") [] ((stmt 24 (made.Evaluate (expr 24 (node.Lock (name 34 "x"))))) ∷ (stmt 38 (made.ReturnValue (expr 45 (node.Number (int32 (pos 0)))))) ∷ []) 48 16))) ∷ []) 49) ≡ Some (fault WrongType 24)
lock_of_variable = simp (infer_at, need_at, walk_at, stmt_need_at, variables_at) refl
