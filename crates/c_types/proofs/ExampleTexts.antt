-- Texts with a wrong main, format, field or prototype, and their first faults.
use Rattle.std.specs.Prelude.{◌≡◌, pos, [], ◌∷◌, Some, None, codes}
use Rattle.std.proofs.Common.{refl}
use Rattle.c_ints.specs.declared.kind.Kind.TheVariants.{I8, I32, I64}
use Rattle.c_ints.specs.declared.int.Int.TheVariants.{I32 as int32, U32 as uint32, I64 as int64, U64 as uint64}
use Rattle.c_tree.specs.declared.name.CType.TheVariants.{Integer, Handle}
use Rattle.c_tree.specs.declared.expr.ExprNode.TheVariants as node
use Rattle.c_tree.specs.declared.stmt.StmtNode.TheVariants as made
use Rattle.c_tree.specs.declared.def.Parameters.TheVariants.{Named, Unnamed}
use Rattle.c_tree.specs.declared.def.DefKind.TheVariants as kind
use Rattle.c_expr_types.specs.declared.fault.TypeKind.TheVariants.{UnknownName, WrongType, NoMain, BadFormat, UnknownField}
use Rattle.c_expr_types.specs.Faults.{fault}
use Rattle.c_types.specs.Definitions.{first_fault}
use Rattle.c_types.proofs.Samples.{name, expr, stmt, variable, binding, function, def, program}
use Rattle.c_types.proofs.FoldsAtNode.{infer_at, need_at, walk_at, stmt_need_at, variables_at}

-- nothing
empty : first_fault (program [] 0) ≡ Some (fault NoMain 0)
empty = refl

-- int x;
only_a_global : first_fault (program ((def 0 (kind.Global (variable (Integer I32) (name 4 "x") None))) ∷ []) 7) ≡ Some (fault NoMain 7)
only_a_global = refl

-- long main(void) { return 0; }
main_of_long : first_fault (program ((def 0 (kind.Function (function (Some (Integer I64)) (name 5 "main") [] ((stmt 18 (made.ReturnValue (expr 25 (node.Number (int32 (pos 0)))))) ∷ []) 28 10))) ∷ []) 29) ≡ Some (fault NoMain 5)
main_of_long = simp (infer_at, need_at, walk_at, stmt_need_at, variables_at) refl

-- int main(int a) { return a; }
main_with_parameter : first_fault (program ((def 0 (kind.Function (function (Some (Integer I32)) (name 4 "main") ((binding (Integer I32) (name 13 "a")) ∷ []) ((stmt 18 (made.ReturnValue (expr 25 (node.Variable (codes "a"))))) ∷ []) 28 11))) ∷ []) 29) ≡ Some (fault NoMain 4)
main_with_parameter = simp (infer_at, need_at, walk_at, stmt_need_at, variables_at) refl

-- mtx_t main;
main_is_a_mutex : first_fault (program ((def 0 (kind.Mutex (name 6 "main"))) ∷ []) 11) ≡ Some (fault NoMain 6)
main_is_a_mutex = refl

-- int f(void) { return x; }
fault_before_no_main : first_fault (program ((def 0 (kind.Function (function (Some (Integer I32)) (name 4 "f") [] ((stmt 14 (made.ReturnValue (expr 21 (node.Variable (codes "x"))))) ∷ []) 24 10))) ∷ []) 25) ≡ Some (fault UnknownName 21)
fault_before_no_main = simp (infer_at, need_at, walk_at, stmt_need_at, variables_at) refl

-- int main(void) { printf("%u\n", 4294967295); return 0; }
unsigned_of_long : first_fault (program ((def 0 (kind.Function (function (Some (Integer I32)) (name 4 "main") [] ((stmt 17 (made.Evaluate (expr 17 (node.Print 24 (codes "%u\n") ((expr 32 (node.Number (int64 (pos 4294967295)))) ∷ []))))) ∷ (stmt 45 (made.ReturnValue (expr 52 (node.Number (int32 (pos 0)))))) ∷ []) 55 17))) ∷ []) 56) ≡ Some (fault BadFormat 24)
unsigned_of_long = simp (infer_at, need_at, walk_at, stmt_need_at, variables_at) refl

-- int main(void) { int x; printf("%u", x); return 0; }
unsigned_of_int : first_fault (program ((def 0 (kind.Function (function (Some (Integer I32)) (name 4 "main") [] ((stmt 17 (made.Declare (variable (Integer I32) (name 21 "x") None))) ∷ (stmt 24 (made.Evaluate (expr 24 (node.Print 31 (codes "%u") ((expr 37 (node.Variable (codes "x"))) ∷ []))))) ∷ (stmt 41 (made.ReturnValue (expr 48 (node.Number (int32 (pos 0)))))) ∷ []) 51 20))) ∷ []) 52) ≡ Some (fault BadFormat 31)
unsigned_of_int = simp (infer_at, need_at, walk_at, stmt_need_at, variables_at) refl

-- int main(void) { printf("%d %d", 1); return 0; }
missing_argument : first_fault (program ((def 0 (kind.Function (function (Some (Integer I32)) (name 4 "main") [] ((stmt 17 (made.Evaluate (expr 17 (node.Print 24 (codes "%d %d") ((expr 33 (node.Number (int32 (pos 1)))) ∷ []))))) ∷ (stmt 37 (made.ReturnValue (expr 44 (node.Number (int32 (pos 0)))))) ∷ []) 47 17))) ∷ []) 48) ≡ Some (fault BadFormat 24)
missing_argument = simp (infer_at, need_at, walk_at, stmt_need_at, variables_at) refl

-- int main(void) { printf("100%"); return 0; }
percent_at_the_end : first_fault (program ((def 0 (kind.Function (function (Some (Integer I32)) (name 4 "main") [] ((stmt 17 (made.Evaluate (expr 17 (node.Print 24 (codes "100%") [])))) ∷ (stmt 33 (made.ReturnValue (expr 40 (node.Number (int32 (pos 0)))))) ∷ []) 43 15))) ∷ []) 44) ≡ Some (fault BadFormat 24)
percent_at_the_end = simp (infer_at, need_at, walk_at, stmt_need_at, variables_at) refl

-- int main(void) { char c; printf("%d%% " "%u %ld %lu\n", c, 1u, 1l, 1ul); return 0; }
formats : first_fault (program ((def 0 (kind.Function (function (Some (Integer I32)) (name 4 "main") [] ((stmt 17 (made.Declare (variable (Integer I8) (name 22 "c") None))) ∷ (stmt 25 (made.Evaluate (expr 25 (node.Print 32 (codes "%d%% %u %ld %lu\n") ((expr 56 (node.Variable (codes "c"))) ∷ (expr 59 (node.Number (uint32 1))) ∷ (expr 63 (node.Number (int64 (pos 1)))) ∷ (expr 67 (node.Number (uint64 1))) ∷ []))))) ∷ (stmt 73 (made.ReturnValue (expr 80 (node.Number (int32 (pos 0)))))) ∷ []) 83 27))) ∷ []) 84) ≡ None
formats = simp (infer_at, need_at, walk_at, stmt_need_at, variables_at) refl

-- int main(void) { printf("%d", x, 1); return 0; }
argument_before_format : first_fault (program ((def 0 (kind.Function (function (Some (Integer I32)) (name 4 "main") [] ((stmt 17 (made.Evaluate (expr 17 (node.Print 24 (codes "%d") ((expr 30 (node.Variable (codes "x"))) ∷ (expr 33 (node.Number (int32 (pos 1)))) ∷ []))))) ∷ (stmt 37 (made.ReturnValue (expr 44 (node.Number (int32 (pos 0)))))) ∷ []) 47 19))) ∷ []) 48) ≡ Some (fault UnknownName 30)
argument_before_format = simp (infer_at, need_at, walk_at, stmt_need_at, variables_at) refl

-- struct t { int v; }; struct t *p; int main(void) { return p->w; }
unknown_field : first_fault (program ((def 0 (kind.Struct (name 7 "t") ((binding (Integer I32) (name 15 "v")) ∷ []))) ∷ (def 21 (kind.Global (variable (Handle (name 28 "t")) (name 31 "p") None))) ∷ (def 34 (kind.Function (function (Some (Integer I32)) (name 38 "main") [] ((stmt 51 (made.ReturnValue (expr 58 (node.Arrow (expr 58 (node.Variable (codes "p"))) (name 61 "w"))))) ∷ []) 64 12))) ∷ []) 65) ≡ Some (fault UnknownField 61)
unknown_field = simp (infer_at, need_at, walk_at, stmt_need_at, variables_at) refl

-- int f(void) { return p->v; } struct t; struct t *p; int main(void) { return 0; }
field_of_undefined : first_fault (program ((def 0 (kind.Function (function (Some (Integer I32)) (name 4 "f") [] ((stmt 14 (made.ReturnValue (expr 21 (node.Arrow (expr 21 (node.Variable (codes "p"))) (name 24 "v"))))) ∷ []) 27 12))) ∷ (def 29 (kind.Forward (name 36 "t"))) ∷ (def 39 (kind.Global (variable (Handle (name 46 "t")) (name 49 "p") None))) ∷ (def 52 (kind.Function (function (Some (Integer I32)) (name 56 "main") [] ((stmt 69 (made.ReturnValue (expr 76 (node.Number (int32 (pos 0)))))) ∷ []) 79 10))) ∷ []) 80) ≡ Some (fault UnknownField 24)
field_of_undefined = simp (infer_at, need_at, walk_at, stmt_need_at, variables_at) refl

-- int x; int main(void) { return x->v; }
field_of_number : first_fault (program ((def 0 (kind.Global (variable (Integer I32) (name 4 "x") None))) ∷ (def 7 (kind.Function (function (Some (Integer I32)) (name 11 "main") [] ((stmt 24 (made.ReturnValue (expr 31 (node.Arrow (expr 31 (node.Variable (codes "x"))) (name 34 "v"))))) ∷ []) 37 12))) ∷ []) 38) ≡ Some (fault WrongType 31)
field_of_number = simp (infer_at, need_at, walk_at, stmt_need_at, variables_at) refl

-- int f(long a); int f(int a) { return a; } int main(void) { return 0; }
prototype_of_another_type : first_fault (program ((def 0 (kind.Prototype (record { result = (Some (Integer I32)); name = (name 4 "f"); parameters = (Named ((binding (Integer I64) (name 11 "a")) ∷ [])) }))) ∷ (def 15 (kind.Function (function (Some (Integer I32)) (name 19 "f") ((binding (Integer I32) (name 25 "a")) ∷ []) ((stmt 30 (made.ReturnValue (expr 37 (node.Variable (codes "a"))))) ∷ []) 40 11))) ∷ (def 42 (kind.Function (function (Some (Integer I32)) (name 46 "main") [] ((stmt 59 (made.ReturnValue (expr 66 (node.Number (int32 (pos 0)))))) ∷ []) 69 10))) ∷ []) 70) ≡ Some (fault WrongType 0)
prototype_of_another_type = simp (infer_at, need_at, walk_at, stmt_need_at, variables_at) refl

-- long f(void); int main(void) { return 0; }
prototype_without_function : first_fault (program ((def 0 (kind.Prototype (record { result = (Some (Integer I64)); name = (name 5 "f"); parameters = (Named []) }))) ∷ (def 14 (kind.Function (function (Some (Integer I32)) (name 18 "main") [] ((stmt 31 (made.ReturnValue (expr 38 (node.Number (int32 (pos 0)))))) ∷ []) 41 10))) ∷ []) 42) ≡ Some (fault WrongType 0)
prototype_without_function = simp (infer_at, need_at, walk_at, stmt_need_at, variables_at) refl

-- int f(int); int f(long); int f(int a) { return a; } int main(void) { return 0; }
two_prototypes : first_fault (program ((def 0 (kind.Prototype (record { result = (Some (Integer I32)); name = (name 4 "f"); parameters = (Unnamed ((Integer I32) ∷ [])) }))) ∷ (def 12 (kind.Prototype (record { result = (Some (Integer I32)); name = (name 16 "f"); parameters = (Unnamed ((Integer I64) ∷ [])) }))) ∷ (def 25 (kind.Function (function (Some (Integer I32)) (name 29 "f") ((binding (Integer I32) (name 35 "a")) ∷ []) ((stmt 40 (made.ReturnValue (expr 47 (node.Variable (codes "a"))))) ∷ []) 50 11))) ∷ (def 52 (kind.Function (function (Some (Integer I32)) (name 56 "main") [] ((stmt 69 (made.ReturnValue (expr 76 (node.Number (int32 (pos 0)))))) ∷ []) 79 10))) ∷ []) 80) ≡ Some (fault WrongType 12)
two_prototypes = simp (infer_at, need_at, walk_at, stmt_need_at, variables_at) refl

-- struct t; int main(void) { return 0; }
forward_without_struct : first_fault (program ((def 0 (kind.Forward (name 7 "t"))) ∷ (def 10 (kind.Function (function (Some (Integer I32)) (name 14 "main") [] ((stmt 27 (made.ReturnValue (expr 34 (node.Number (int32 (pos 0)))))) ∷ []) 37 10))) ∷ []) 38) ≡ Some (fault WrongType 0)
forward_without_struct = simp (infer_at, need_at, walk_at, stmt_need_at, variables_at) refl

-- struct t; struct t { struct t *next; }; struct t *f(struct t *, int); struct t *f(struct t *p, int n) { return n ? p->next : NULL; } int main(void) { return 0; }
forward_and_prototype : first_fault (program ((def 0 (kind.Forward (name 7 "t"))) ∷ (def 10 (kind.Struct (name 17 "t") ((binding (Handle (name 28 "t")) (name 31 "next")) ∷ []))) ∷ (def 40 (kind.Prototype (record { result = (Some (Handle (name 47 "t"))); name = (name 50 "f"); parameters = (Unnamed ((Handle (name 59 "t")) ∷ (Integer I32) ∷ [])) }))) ∷ (def 70 (kind.Function (function (Some (Handle (name 77 "t"))) (name 80 "f") ((binding (Handle (name 89 "t")) (name 92 "p")) ∷ (binding (Integer I32) (name 99 "n")) ∷ []) ((stmt 104 (made.ReturnValue (expr 111 (node.Choice (expr 111 (node.Variable (codes "n"))) (expr 115 (node.Arrow (expr 115 (node.Variable (codes "p"))) (name 118 "next"))) (expr 125 node.Null))))) ∷ []) 131 24))) ∷ (def 133 (kind.Function (function (Some (Integer I32)) (name 137 "main") [] ((stmt 150 (made.ReturnValue (expr 157 (node.Number (int32 (pos 0)))))) ∷ []) 160 10))) ∷ []) 161) ≡ None
forward_and_prototype = simp (infer_at, need_at, walk_at, stmt_need_at, variables_at) refl
