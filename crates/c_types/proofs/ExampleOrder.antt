-- Texts with more faults than one: the least place is reported, then the least number.
use Rattle.std.specs.Prelude.{◌≡◌, pos, [], ◌∷◌, Some, None, codes}
use Rattle.std.proofs.Common.{refl}
use Rattle.c_ints.specs.declared.kind.Kind.TheVariants.{I32}
use Rattle.c_ints.specs.declared.int.Int.TheVariants.{I32 as int32}
use Rattle.c_ints.specs.declared.operator.BinOp.TheVariants.{Add}
use Rattle.c_tree.specs.declared.name.CType.TheVariants.{Integer, Handle}
use Rattle.c_tree.specs.declared.expr.ExprNode.TheVariants as node
use Rattle.c_tree.specs.declared.stmt.StmtNode.TheVariants as made
use Rattle.c_tree.specs.declared.def.DefKind.TheVariants as kind
use Rattle.c_expr_types.specs.declared.fault.TypeKind.TheVariants.{UnknownName, WrongType, OutsideLoop}
use Rattle.c_expr_types.specs.Faults.{fault}
use Rattle.c_types.specs.Definitions.{first_fault}
use Rattle.c_types.proofs.Samples.{name, expr, stmt, variable, binding, function, def, program}
use Rattle.c_types.proofs.FoldsAtNode.{infer_at, need_at, walk_at, stmt_need_at, variables_at}

-- int main(void) { return y + x; }
least_place : first_fault (program ((def 0 (kind.Function (function (Some (Integer I32)) (name 4 "main") [] ((stmt 17 (made.ReturnValue (expr 24 (node.Binary Add (expr 24 (node.Variable (codes "y"))) (expr 28 (node.Variable (codes "x"))))))) ∷ []) 31 12))) ∷ []) 32) ≡ Some (fault UnknownName 24)
least_place = simp (infer_at, need_at, walk_at, stmt_need_at, variables_at) refl

-- int main(void) { break; return x; }
least_place_over_kinds : first_fault (program ((def 0 (kind.Function (function (Some (Integer I32)) (name 4 "main") [] ((stmt 17 made.Break) ∷ (stmt 24 (made.ReturnValue (expr 31 (node.Variable (codes "x"))))) ∷ []) 34 12))) ∷ []) 35) ≡ Some (fault OutsideLoop 17)
least_place_over_kinds = simp (infer_at, walk_at, stmt_need_at, variables_at) refl

-- int f(int a) { return a; } int main(void) { return f(z, 1); }
part_before_whole : first_fault (program ((def 0 (kind.Function (function (Some (Integer I32)) (name 4 "f") ((binding (Integer I32) (name 10 "a")) ∷ []) ((stmt 15 (made.ReturnValue (expr 22 (node.Variable (codes "a"))))) ∷ []) 25 11))) ∷ (def 27 (kind.Function (function (Some (Integer I32)) (name 31 "main") [] ((stmt 44 (made.ReturnValue (expr 51 (node.Call (codes "f") ((expr 53 (node.Variable (codes "z"))) ∷ (expr 56 (node.Number (int32 (pos 1)))) ∷ []))))) ∷ []) 60 15))) ∷ []) 61) ≡ Some (fault UnknownName 53)
part_before_whole = simp (infer_at, need_at, walk_at, stmt_need_at, variables_at) refl

-- int f(int a, int b, int c, int d, int e, int g, int h, int i, int j) { return x; } int main(void) { return 0; }
body_before_limit : first_fault (program ((def 0 (kind.Function (function (Some (Integer I32)) (name 4 "f") ((binding (Integer I32) (name 10 "a")) ∷ (binding (Integer I32) (name 17 "b")) ∷ (binding (Integer I32) (name 24 "c")) ∷ (binding (Integer I32) (name 31 "d")) ∷ (binding (Integer I32) (name 38 "e")) ∷ (binding (Integer I32) (name 45 "g")) ∷ (binding (Integer I32) (name 52 "h")) ∷ (binding (Integer I32) (name 59 "i")) ∷ (binding (Integer I32) (name 66 "j")) ∷ []) ((stmt 71 (made.ReturnValue (expr 78 (node.Variable (codes "x"))))) ∷ []) 81 35))) ∷ (def 83 (kind.Function (function (Some (Integer I32)) (name 87 "main") [] ((stmt 100 (made.ReturnValue (expr 107 (node.Number (int32 (pos 0)))))) ∷ []) 110 10))) ∷ []) 111) ≡ Some (fault UnknownName 78)
body_before_limit = simp (infer_at, need_at, walk_at, stmt_need_at, variables_at) refl

-- int main(void) { dsu_tx { return; } return 0; }
least_number_at_return : first_fault (program ((def 0 (kind.Function (function (Some (Integer I32)) (name 4 "main") [] ((stmt 17 (made.Transaction ((stmt 26 made.Return) ∷ []) 34)) ∷ (stmt 36 (made.ReturnValue (expr 43 (node.Number (int32 (pos 0)))))) ∷ []) 46 15))) ∷ []) 47) ≡ Some (fault WrongType 26)
least_number_at_return = simp (infer_at, need_at, walk_at, stmt_need_at, variables_at) refl

-- int x = y; int main(void) { return 0; }
least_number_at_name : first_fault (program ((def 0 (kind.Global (variable (Integer I32) (name 4 "x") (Some (expr 8 (node.Variable (codes "y"))))))) ∷ (def 11 (kind.Function (function (Some (Integer I32)) (name 15 "main") [] ((stmt 28 (made.ReturnValue (expr 35 (node.Number (int32 (pos 0)))))) ∷ []) 38 10))) ∷ []) 39) ≡ Some (fault UnknownName 8)
least_number_at_name = simp (infer_at, need_at, walk_at, stmt_need_at, variables_at) refl

-- int main(void) { for (;;) { } dsu_tx { break; } return 0; }
least_number_at_break : first_fault (program ((def 0 (kind.Function (function (Some (Integer I32)) (name 4 "main") [] ((stmt 17 (made.For [] None None (stmt 26 (made.Block [])))) ∷ (stmt 30 (made.Transaction ((stmt 39 made.Break) ∷ []) 46)) ∷ (stmt 48 (made.ReturnValue (expr 55 (node.Number (int32 (pos 0)))))) ∷ []) 58 22))) ∷ []) 59) ≡ Some (fault OutsideLoop 39)
least_number_at_break = simp (infer_at, need_at, walk_at, stmt_need_at, variables_at) refl

-- int f(void) { return 0; } int f(void) { return x; } int main(void) { return 0; }
body_before_twice : first_fault (program ((def 0 (kind.Function (function (Some (Integer I32)) (name 4 "f") [] ((stmt 14 (made.ReturnValue (expr 21 (node.Number (int32 (pos 0)))))) ∷ []) 24 10))) ∷ (def 26 (kind.Function (function (Some (Integer I32)) (name 30 "f") [] ((stmt 40 (made.ReturnValue (expr 47 (node.Variable (codes "x"))))) ∷ []) 50 10))) ∷ (def 52 (kind.Function (function (Some (Integer I32)) (name 56 "main") [] ((stmt 69 (made.ReturnValue (expr 76 (node.Number (int32 (pos 0)))))) ∷ []) 79 10))) ∷ []) 80) ≡ Some (fault UnknownName 47)
body_before_twice = simp (infer_at, need_at, walk_at, stmt_need_at, variables_at) refl

-- struct t { int v; }; struct t *p; int main(void) { return p + y; }
handle_before_unknown : first_fault (program ((def 0 (kind.Struct (name 7 "t") ((binding (Integer I32) (name 15 "v")) ∷ []))) ∷ (def 21 (kind.Global (variable (Handle (name 28 "t")) (name 31 "p") None))) ∷ (def 34 (kind.Function (function (Some (Integer I32)) (name 38 "main") [] ((stmt 51 (made.ReturnValue (expr 58 (node.Binary Add (expr 58 (node.Variable (codes "p"))) (expr 62 (node.Variable (codes "y"))))))) ∷ []) 65 12))) ∷ []) 66) ≡ Some (fault WrongType 58)
handle_before_unknown = simp (infer_at, need_at, walk_at, stmt_need_at, variables_at) refl
