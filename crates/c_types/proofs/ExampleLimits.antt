-- Texts at a limit and one past it.
use Rattle.std.specs.Prelude.{◌≡◌, pos, [], ◌∷◌, Some, None}
use Rattle.std.proofs.Common.{refl}
use Rattle.c_ints.specs.declared.kind.Kind.TheVariants.{I32}
use Rattle.c_ints.specs.declared.int.Int.TheVariants.{I32 as int32}
use Rattle.c_tree.specs.declared.name.CType.TheVariants.{Integer}
use Rattle.c_tree.specs.declared.expr.ExprNode.TheVariants as node
use Rattle.c_tree.specs.declared.stmt.StmtNode.TheVariants as made
use Rattle.c_tree.specs.declared.def.DefKind.TheVariants as kind
use Rattle.c_expr_types.specs.declared.fault.TypeKind.TheVariants.{OverLimit}
use Rattle.c_expr_types.specs.Faults.{fault}
use Rattle.c_types.specs.Definitions.{first_fault}
use Rattle.c_types.proofs.Samples.{name, expr, stmt, binding, function, def, program}
use Rattle.c_types.proofs.FoldsAtNode.{infer_at, need_at, walk_at, stmt_need_at, variables_at}

-- struct t { int a, b, c, d, e, f, g, h, i, j, k, l, m, n, o, p; }; int main(void) { return 0; }
sixteen_fields : first_fault (program ((def 0 (kind.Struct (name 7 "t") ((binding (Integer I32) (name 15 "a")) ∷ (binding (Integer I32) (name 18 "b")) ∷ (binding (Integer I32) (name 21 "c")) ∷ (binding (Integer I32) (name 24 "d")) ∷ (binding (Integer I32) (name 27 "e")) ∷ (binding (Integer I32) (name 30 "f")) ∷ (binding (Integer I32) (name 33 "g")) ∷ (binding (Integer I32) (name 36 "h")) ∷ (binding (Integer I32) (name 39 "i")) ∷ (binding (Integer I32) (name 42 "j")) ∷ (binding (Integer I32) (name 45 "k")) ∷ (binding (Integer I32) (name 48 "l")) ∷ (binding (Integer I32) (name 51 "m")) ∷ (binding (Integer I32) (name 54 "n")) ∷ (binding (Integer I32) (name 57 "o")) ∷ (binding (Integer I32) (name 60 "p")) ∷ []))) ∷ (def 66 (kind.Function (function (Some (Integer I32)) (name 70 "main") [] ((stmt 83 (made.ReturnValue (expr 90 (node.Number (int32 (pos 0)))))) ∷ []) 93 10))) ∷ []) 94) ≡ None
sixteen_fields = simp (infer_at, need_at, walk_at, stmt_need_at, variables_at) refl

-- struct t { int a, b, c, d, e, f, g, h, i, j, k, l, m, n, o, p, q; }; int main(void) { return 0; }
seventeen_fields : first_fault (program ((def 0 (kind.Struct (name 7 "t") ((binding (Integer I32) (name 15 "a")) ∷ (binding (Integer I32) (name 18 "b")) ∷ (binding (Integer I32) (name 21 "c")) ∷ (binding (Integer I32) (name 24 "d")) ∷ (binding (Integer I32) (name 27 "e")) ∷ (binding (Integer I32) (name 30 "f")) ∷ (binding (Integer I32) (name 33 "g")) ∷ (binding (Integer I32) (name 36 "h")) ∷ (binding (Integer I32) (name 39 "i")) ∷ (binding (Integer I32) (name 42 "j")) ∷ (binding (Integer I32) (name 45 "k")) ∷ (binding (Integer I32) (name 48 "l")) ∷ (binding (Integer I32) (name 51 "m")) ∷ (binding (Integer I32) (name 54 "n")) ∷ (binding (Integer I32) (name 57 "o")) ∷ (binding (Integer I32) (name 60 "p")) ∷ (binding (Integer I32) (name 63 "q")) ∷ []))) ∷ (def 69 (kind.Function (function (Some (Integer I32)) (name 73 "main") [] ((stmt 86 (made.ReturnValue (expr 93 (node.Number (int32 (pos 0)))))) ∷ []) 96 10))) ∷ []) 97) ≡ Some (fault OverLimit 0)
seventeen_fields = simp (infer_at, need_at, walk_at, stmt_need_at, variables_at) refl

-- int f(int a, int b, int c, int d, int e, int g, int h, int i) { return 0; } int main(void) { return 0; }
eight_parameters : first_fault (program ((def 0 (kind.Function (function (Some (Integer I32)) (name 4 "f") ((binding (Integer I32) (name 10 "a")) ∷ (binding (Integer I32) (name 17 "b")) ∷ (binding (Integer I32) (name 24 "c")) ∷ (binding (Integer I32) (name 31 "d")) ∷ (binding (Integer I32) (name 38 "e")) ∷ (binding (Integer I32) (name 45 "g")) ∷ (binding (Integer I32) (name 52 "h")) ∷ (binding (Integer I32) (name 59 "i")) ∷ []) ((stmt 64 (made.ReturnValue (expr 71 (node.Number (int32 (pos 0)))))) ∷ []) 74 32))) ∷ (def 76 (kind.Function (function (Some (Integer I32)) (name 80 "main") [] ((stmt 93 (made.ReturnValue (expr 100 (node.Number (int32 (pos 0)))))) ∷ []) 103 10))) ∷ []) 104) ≡ None
eight_parameters = simp (infer_at, need_at, walk_at, stmt_need_at, variables_at) refl

-- int f(int a, int b, int c, int d, int e, int g, int h, int i, int j) { return 0; } int main(void) { return 0; }
nine_parameters : first_fault (program ((def 0 (kind.Function (function (Some (Integer I32)) (name 4 "f") ((binding (Integer I32) (name 10 "a")) ∷ (binding (Integer I32) (name 17 "b")) ∷ (binding (Integer I32) (name 24 "c")) ∷ (binding (Integer I32) (name 31 "d")) ∷ (binding (Integer I32) (name 38 "e")) ∷ (binding (Integer I32) (name 45 "g")) ∷ (binding (Integer I32) (name 52 "h")) ∷ (binding (Integer I32) (name 59 "i")) ∷ (binding (Integer I32) (name 66 "j")) ∷ []) ((stmt 71 (made.ReturnValue (expr 78 (node.Number (int32 (pos 0)))))) ∷ []) 81 35))) ∷ (def 83 (kind.Function (function (Some (Integer I32)) (name 87 "main") [] ((stmt 100 (made.ReturnValue (expr 107 (node.Number (int32 (pos 0)))))) ∷ []) 110 10))) ∷ []) 111) ≡ Some (fault OverLimit 0)
nine_parameters = simp (infer_at, need_at, walk_at, stmt_need_at, variables_at) refl
