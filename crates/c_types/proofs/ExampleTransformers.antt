-- Texts with transformers, and their first faults.
use Rattle.std.specs.Prelude.{◌≡◌, pos, [], ◌∷◌, Some, None, codes}
use Rattle.std.proofs.Common.{refl}
use Rattle.c_ints.specs.declared.kind.Kind.TheVariants.{I32}
use Rattle.c_ints.specs.declared.int.Int.TheVariants.{I32 as int32}
use Rattle.c_ints.specs.declared.operator.BinOp.TheVariants.{Add, Mul, Div, Eq}
use Rattle.c_ints.specs.declared.operator.UnOp.TheVariants.{Negate}
use Rattle.c_tree.specs.declared.name.CType.TheVariants.{Integer, Handle}
use Rattle.c_tree.specs.declared.expr.ExprNode.TheVariants as node
use Rattle.c_tree.specs.declared.stmt.StmtNode.TheVariants as made
use Rattle.c_tree.specs.declared.def.DefKind.TheVariants as kind
use Rattle.c_expr_types.specs.declared.fault.TypeKind.TheVariants.{BadTransformer}
use Rattle.c_expr_types.specs.Faults.{fault}
use Rattle.c_types.specs.Definitions.{first_fault}
use Rattle.c_types.proofs.Samples.{name, expr, stmt, variable, binding, field_value, function, def, program}
use Rattle.c_types.proofs.FoldsAtNode.{infer_at, need_at, allowed_at, old_at, walk_at, stmt_need_at, variables_at}

-- dsu_transform struct u { } int main(void) { return 0; }
no_such_struct : first_fault (program ((def 0 (kind.TransformStruct (record { name = (name 21 "u"); values = [] }))) ∷ (def 27 (kind.Function (function (Some (Integer I32)) (name 31 "main") [] ((stmt 44 (made.ReturnValue (expr 51 (node.Number (int32 (pos 0)))))) ∷ []) 54 10))) ∷ []) 55) ≡ Some (fault BadTransformer 0)
no_such_struct = simp (infer_at, need_at, walk_at, stmt_need_at, variables_at) refl

-- dsu_transform h = 1; int main(void) { return 0; }
no_such_global : first_fault (program ((def 0 (kind.TransformGlobal (name 14 "h") (expr 18 (node.Number (int32 (pos 1)))))) ∷ (def 21 (kind.Function (function (Some (Integer I32)) (name 25 "main") [] ((stmt 38 (made.ReturnValue (expr 45 (node.Number (int32 (pos 0)))))) ∷ []) 48 10))) ∷ []) 49) ≡ Some (fault BadTransformer 0)
no_such_global = simp (infer_at, need_at, walk_at, stmt_need_at, variables_at) refl

-- dsu_transform main = 1; int main(void) { return 0; }
of_a_function : first_fault (program ((def 0 (kind.TransformGlobal (name 14 "main") (expr 21 (node.Number (int32 (pos 1)))))) ∷ (def 24 (kind.Function (function (Some (Integer I32)) (name 28 "main") [] ((stmt 41 (made.ReturnValue (expr 48 (node.Number (int32 (pos 0)))))) ∷ []) 51 10))) ∷ []) 52) ≡ Some (fault BadTransformer 0)
of_a_function = simp (infer_at, need_at, walk_at, stmt_need_at, variables_at) refl

-- struct t { int v; int w; }; int g; dsu_transform g = 1; dsu_transform g = 2; int main(void) { return 0; }
twice : first_fault (program ((def 0 (kind.Struct (name 7 "t") ((binding (Integer I32) (name 15 "v")) ∷ (binding (Integer I32) (name 22 "w")) ∷ []))) ∷ (def 28 (kind.Global (variable (Integer I32) (name 32 "g") None))) ∷ (def 35 (kind.TransformGlobal (name 49 "g") (expr 53 (node.Number (int32 (pos 1)))))) ∷ (def 56 (kind.TransformGlobal (name 70 "g") (expr 74 (node.Number (int32 (pos 2)))))) ∷ (def 77 (kind.Function (function (Some (Integer I32)) (name 81 "main") [] ((stmt 94 (made.ReturnValue (expr 101 (node.Number (int32 (pos 0)))))) ∷ []) 104 10))) ∷ []) 105) ≡ Some (fault BadTransformer 56)
twice = simp (infer_at, need_at, allowed_at, walk_at, stmt_need_at, variables_at) refl

-- struct t { int v; int w; }; int g; dsu_transform struct t { v = 1; v = 2; } int main(void) { return 0; }
field_twice : first_fault (program ((def 0 (kind.Struct (name 7 "t") ((binding (Integer I32) (name 15 "v")) ∷ (binding (Integer I32) (name 22 "w")) ∷ []))) ∷ (def 28 (kind.Global (variable (Integer I32) (name 32 "g") None))) ∷ (def 35 (kind.TransformStruct (record { name = (name 56 "t"); values = ((field_value (name 60 "v") (expr 64 (node.Number (int32 (pos 1))))) ∷ (field_value (name 67 "v") (expr 71 (node.Number (int32 (pos 2))))) ∷ []) }))) ∷ (def 76 (kind.Function (function (Some (Integer I32)) (name 80 "main") [] ((stmt 93 (made.ReturnValue (expr 100 (node.Number (int32 (pos 0)))))) ∷ []) 103 10))) ∷ []) 104) ≡ Some (fault BadTransformer 35)
field_twice = simp (infer_at, need_at, walk_at, stmt_need_at, variables_at) refl

-- struct t { int v; int w; }; int g; dsu_transform struct t { u = 1; } int main(void) { return 0; }
unknown_field : first_fault (program ((def 0 (kind.Struct (name 7 "t") ((binding (Integer I32) (name 15 "v")) ∷ (binding (Integer I32) (name 22 "w")) ∷ []))) ∷ (def 28 (kind.Global (variable (Integer I32) (name 32 "g") None))) ∷ (def 35 (kind.TransformStruct (record { name = (name 56 "t"); values = ((field_value (name 60 "u") (expr 64 (node.Number (int32 (pos 1))))) ∷ []) }))) ∷ (def 69 (kind.Function (function (Some (Integer I32)) (name 73 "main") [] ((stmt 86 (made.ReturnValue (expr 93 (node.Number (int32 (pos 0)))))) ∷ []) 96 10))) ∷ []) 97) ≡ Some (fault BadTransformer 35)
unknown_field = simp (infer_at, need_at, walk_at, stmt_need_at, variables_at) refl

-- struct t { int v; int w; }; int g; dsu_transform struct t { v = g; } int main(void) { return 0; }
another_name : first_fault (program ((def 0 (kind.Struct (name 7 "t") ((binding (Integer I32) (name 15 "v")) ∷ (binding (Integer I32) (name 22 "w")) ∷ []))) ∷ (def 28 (kind.Global (variable (Integer I32) (name 32 "g") None))) ∷ (def 35 (kind.TransformStruct (record { name = (name 56 "t"); values = ((field_value (name 60 "v") (expr 64 (node.Variable (codes "g")))) ∷ []) }))) ∷ (def 69 (kind.Function (function (Some (Integer I32)) (name 73 "main") [] ((stmt 86 (made.ReturnValue (expr 93 (node.Number (int32 (pos 0)))))) ∷ []) 96 10))) ∷ []) 97) ≡ Some (fault BadTransformer 35)
another_name = simp (infer_at, need_at, allowed_at, walk_at, stmt_need_at, variables_at) refl

-- struct t { int v; int w; }; int g; dsu_transform g = old / 2; int main(void) { return 0; }
quotient : first_fault (program ((def 0 (kind.Struct (name 7 "t") ((binding (Integer I32) (name 15 "v")) ∷ (binding (Integer I32) (name 22 "w")) ∷ []))) ∷ (def 28 (kind.Global (variable (Integer I32) (name 32 "g") None))) ∷ (def 35 (kind.TransformGlobal (name 49 "g") (expr 53 (node.Binary Div (expr 53 (node.Variable (codes "old"))) (expr 59 (node.Number (int32 (pos 2)))))))) ∷ (def 62 (kind.Function (function (Some (Integer I32)) (name 66 "main") [] ((stmt 79 (made.ReturnValue (expr 86 (node.Number (int32 (pos 0)))))) ∷ []) 89 10))) ∷ []) 90) ≡ Some (fault BadTransformer 35)
quotient = simp (infer_at, need_at, allowed_at, walk_at, stmt_need_at, variables_at) refl

-- struct t { int v; int w; }; int g; dsu_transform g = (struct u *) old == NULL; int main(void) { return 0; }
unknown_tag : first_fault (program ((def 0 (kind.Struct (name 7 "t") ((binding (Integer I32) (name 15 "v")) ∷ (binding (Integer I32) (name 22 "w")) ∷ []))) ∷ (def 28 (kind.Global (variable (Integer I32) (name 32 "g") None))) ∷ (def 35 (kind.TransformGlobal (name 49 "g") (expr 53 (node.Binary Eq (expr 53 (node.Cast (Handle (name 61 "u")) (expr 66 (node.Variable (codes "old"))))) (expr 73 node.Null))))) ∷ (def 79 (kind.Function (function (Some (Integer I32)) (name 83 "main") [] ((stmt 96 (made.ReturnValue (expr 103 (node.Number (int32 (pos 0)))))) ∷ []) 106 10))) ∷ []) 107) ≡ Some (fault BadTransformer 35)
unknown_tag = simp (infer_at, need_at, allowed_at, walk_at, stmt_need_at, variables_at) refl

-- struct t { int v; int w; }; int g; dsu_transform struct t { v = (-old).v; } int main(void) { return 0; }
field_of_a_cast : first_fault (program ((def 0 (kind.Struct (name 7 "t") ((binding (Integer I32) (name 15 "v")) ∷ (binding (Integer I32) (name 22 "w")) ∷ []))) ∷ (def 28 (kind.Global (variable (Integer I32) (name 32 "g") None))) ∷ (def 35 (kind.TransformStruct (record { name = (name 56 "t"); values = ((field_value (name 60 "v") (expr 64 (node.Dot (expr 65 (node.Unary Negate (expr 66 (node.Variable (codes "old"))))) (name 71 "v")))) ∷ []) }))) ∷ (def 76 (kind.Function (function (Some (Integer I32)) (name 80 "main") [] ((stmt 93 (made.ReturnValue (expr 100 (node.Number (int32 (pos 0)))))) ∷ []) 103 10))) ∷ []) 104) ≡ Some (fault BadTransformer 35)
field_of_a_cast = simp (infer_at, need_at, allowed_at, old_at, walk_at, stmt_need_at, variables_at) refl

-- struct t { int v; int w; }; int g; dsu_transform struct t { v = old.v + 1; w = old.u ? 1 : 2; } dsu_transform g = old * 2; int main(void) { return 0; }
allowed : first_fault (program ((def 0 (kind.Struct (name 7 "t") ((binding (Integer I32) (name 15 "v")) ∷ (binding (Integer I32) (name 22 "w")) ∷ []))) ∷ (def 28 (kind.Global (variable (Integer I32) (name 32 "g") None))) ∷ (def 35 (kind.TransformStruct (record { name = (name 56 "t"); values = ((field_value (name 60 "v") (expr 64 (node.Binary Add (expr 64 (node.Dot (expr 64 (node.Variable (codes "old"))) (name 68 "v"))) (expr 72 (node.Number (int32 (pos 1))))))) ∷ (field_value (name 75 "w") (expr 79 (node.Choice (expr 79 (node.Dot (expr 79 (node.Variable (codes "old"))) (name 83 "u"))) (expr 87 (node.Number (int32 (pos 1)))) (expr 91 (node.Number (int32 (pos 2))))))) ∷ []) }))) ∷ (def 96 (kind.TransformGlobal (name 110 "g") (expr 114 (node.Binary Mul (expr 114 (node.Variable (codes "old"))) (expr 120 (node.Number (int32 (pos 2)))))))) ∷ (def 123 (kind.Function (function (Some (Integer I32)) (name 127 "main") [] ((stmt 140 (made.ReturnValue (expr 147 (node.Number (int32 (pos 0)))))) ∷ []) 150 10))) ∷ []) 151) ≡ None
allowed = simp (infer_at, need_at, allowed_at, old_at, walk_at, stmt_need_at, variables_at) refl
