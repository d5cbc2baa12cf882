-- An older and a newer text, transformers of the newer one, and their first faults.
use Rattle.std.specs.Prelude.{◌≡◌, ℕ, pos, List, [], ◌∷◌, ◌++◌, Some, None, codes}
use Rattle.std.proofs.Common.{refl}
use Rattle.c_ints.specs.declared.kind.Kind.TheVariants.{I32, I64}
use Rattle.c_ints.specs.declared.int.Int.TheVariants.{I32 as int32}
use Rattle.c_ints.specs.declared.operator.BinOp.TheVariants as op
use Rattle.c_ints.specs.declared.operator.UnOp.TheVariants.{Complement, Not}
use Rattle.c_tree.specs.declared.name.CType.TheVariants.{Integer, Handle, Thread}
use Rattle.c_tree.specs.declared.expr.Expr.{Expr}
use Rattle.c_tree.specs.declared.expr.Expr.TheFolds.{fold-roll-Expr, map-Expr}
use Rattle.c_tree.specs.declared.expr.ExprNode.{ExprNode}
use Rattle.c_tree.specs.declared.expr.ExprNode.TheVariants as node
use Rattle.c_tree.specs.declared.def.Def.{Def}
use Rattle.c_tree.specs.declared.def.DefKind.TheVariants as kind
use Rattle.c_expr_types.specs.declared.found.Part.{Part}
use Rattle.c_definitions.specs.Lookup.{Names}
use Rattle.c_types.proofs.Samples.{name, expr, variable, binding, field_value, array, def}
use Rattle.patch_faults.specs.declared.fault.TransformFault.TheVariants.{NotChanged, OldField, Wrong}
use Rattle.patch_faults.specs.TransformTypes.{Old, part_of, infer_old}
use Rattle.patch_faults.specs.TransformFaults.{transform_faults, first_transform_fault}

infer_old_at : (names : Names) (old : Old) (place : ℕ) (made : ExprNode Expr) →
    infer_old names old (expr place made)
    ≡ part_of names old place (map-Expr Expr Part (infer_old names old) (record { place = place; node = made })).node
infer_old_at names old place made =
    fold-roll-Expr Part (λ e. part_of names old e.place e.node) (record { place = place; node = made })

-- struct t { int a; int b; struct t *p; thrd_t run; }; struct same { int a; }; struct renamed { int a; int b; }; int g; int h; int kept; int row[2]; int cell; int cells[2]; thrd_t thread; mtx_t lock;
abbrev before : List Def
before = (def 0 (kind.Struct (name 7 "t") ((binding (Integer I32) (name 15 "a")) ∷ (binding (Integer I32) (name 22 "b")) ∷ (binding (Handle (name 32 "t")) (name 35 "p")) ∷ (binding Thread (name 45 "run")) ∷ []))) ∷ (def 53 (kind.Struct (name 60 "same") ((binding (Integer I32) (name 71 "a")) ∷ []))) ∷ (def 77 (kind.Struct (name 84 "renamed") ((binding (Integer I32) (name 98 "a")) ∷ (binding (Integer I32) (name 105 "b")) ∷ []))) ∷ (def 111 (kind.Global (variable (Integer I32) (name 115 "g") None))) ∷ (def 118 (kind.Global (variable (Integer I32) (name 122 "h") None))) ∷ (def 125 (kind.Global (variable (Integer I32) (name 129 "kept") None))) ∷ (def 135 (kind.Array (array (Integer I32) (name 139 "row") 143 (int32 (pos 2)) None))) ∷ (def 147 (kind.Global (variable (Integer I32) (name 151 "cell") None))) ∷ (def 157 (kind.Array (array (Integer I32) (name 161 "cells") 167 (int32 (pos 2)) None))) ∷ (def 171 (kind.Global (variable Thread (name 178 "thread") None))) ∷ (def 186 (kind.Mutex (name 192 "lock"))) ∷ []

-- struct t { int a; long sum; struct t *p; struct v *q; thrd_t run; }; struct same { int a; }; struct renamed { int b; int a; }; struct v { int a; }; long g; struct t *h; int kept = 1; long row[2]; long cell[2]; long cells; int thread; int lock; int fresh;
abbrev shared : List Def
shared = (def 0 (kind.Struct (name 7 "t") ((binding (Integer I32) (name 15 "a")) ∷ (binding (Integer I64) (name 23 "sum")) ∷ (binding (Handle (name 35 "t")) (name 38 "p")) ∷ (binding (Handle (name 48 "v")) (name 51 "q")) ∷ (binding Thread (name 61 "run")) ∷ []))) ∷ (def 69 (kind.Struct (name 76 "same") ((binding (Integer I32) (name 87 "a")) ∷ []))) ∷ (def 93 (kind.Struct (name 100 "renamed") ((binding (Integer I32) (name 114 "b")) ∷ (binding (Integer I32) (name 121 "a")) ∷ []))) ∷ (def 127 (kind.Struct (name 134 "v") ((binding (Integer I32) (name 142 "a")) ∷ []))) ∷ (def 148 (kind.Global (variable (Integer I64) (name 153 "g") None))) ∷ (def 156 (kind.Global (variable (Handle (name 163 "t")) (name 166 "h") None))) ∷ (def 169 (kind.Global (variable (Integer I32) (name 173 "kept") (Some (expr 180 (node.Number (int32 (pos 1)))))))) ∷ (def 183 (kind.Array (array (Integer I64) (name 188 "row") 192 (int32 (pos 2)) None))) ∷ (def 196 (kind.Array (array (Integer I64) (name 201 "cell") 206 (int32 (pos 2)) None))) ∷ (def 210 (kind.Global (variable (Integer I64) (name 215 "cells") None))) ∷ (def 222 (kind.Global (variable (Integer I32) (name 226 "thread") None))) ∷ (def 234 (kind.Global (variable (Integer I32) (name 238 "lock") None))) ∷ (def 244 (kind.Global (variable (Integer I32) (name 248 "fresh") None))) ∷ []

-- the newer text with transformers after this
abbrev with : List Def → List Def
with transformers = shared ++ transformers

-- What doesn't change.

-- dsu_transform struct same { a = old.a; }
same_struct : first_transform_fault before (with ((def 255 (kind.TransformStruct (record { name = (name 276 "same"); values = (field_value (name 283 "a") (expr 287 (node.Dot (expr 287 (node.Variable (codes "old"))) (name 291 "a")))) ∷ [] }))) ∷ [])) ≡ Some (NotChanged 255)
same_struct = refl

-- dsu_transform struct v { a = 1; }
added_struct : first_transform_fault before (with ((def 255 (kind.TransformStruct (record { name = (name 276 "v"); values = (field_value (name 280 "a") (expr 284 (node.Number (int32 (pos 1))))) ∷ [] }))) ∷ [])) ≡ Some (NotChanged 255)
added_struct = refl

-- dsu_transform kept = old;
same_global : first_transform_fault before (with ((def 255 (kind.TransformGlobal (name 269 "kept") (expr 276 (node.Variable (codes "old"))))) ∷ [])) ≡ Some (NotChanged 255)
same_global = refl

-- dsu_transform fresh = 1;
added_global : first_transform_fault before (with ((def 255 (kind.TransformGlobal (name 269 "fresh") (expr 277 (node.Number (int32 (pos 1)))))) ∷ [])) ≡ Some (NotChanged 255)
added_global = refl

-- dsu_transform row = 1;
an_array : first_transform_fault before (with ((def 255 (kind.TransformGlobal (name 269 "row") (expr 275 (node.Number (int32 (pos 1)))))) ∷ [])) ≡ Some (NotChanged 255)
an_array = refl

-- dsu_transform cell = old;
becomes_array : first_transform_fault before (with ((def 255 (kind.TransformGlobal (name 269 "cell") (expr 276 (node.Variable (codes "old"))))) ∷ [])) ≡ Some (NotChanged 255)
becomes_array = refl

-- dsu_transform cells = 1;
was_array : first_transform_fault before (with ((def 255 (kind.TransformGlobal (name 269 "cells") (expr 277 (node.Number (int32 (pos 1)))))) ∷ [])) ≡ Some (NotChanged 255)
was_array = refl

-- dsu_transform lock = 1;
was_mutex : first_transform_fault before (with ((def 255 (kind.TransformGlobal (name 269 "lock") (expr 276 (node.Number (int32 (pos 1)))))) ∷ [])) ≡ Some (NotChanged 255)
was_mutex = refl

-- Fields that the old layout doesn't have, at the field.

-- dsu_transform struct t { a = 1 + old.c; }
no_such_field : first_transform_fault before (with ((def 255 (kind.TransformStruct (record { name = (name 276 "t"); values = (field_value (name 280 "a") (expr 284 (node.Binary op.Add (expr 284 (node.Number (int32 (pos 1)))) (expr 288 (node.Dot (expr 288 (node.Variable (codes "old"))) (name 292 "c")))))) ∷ [] }))) ∷ [])) ≡ Some (OldField 292)
no_such_field = simp infer_old_at refl

-- dsu_transform struct t { sum = old.sum; }
new_field : first_transform_fault before (with ((def 255 (kind.TransformStruct (record { name = (name 276 "t"); values = (field_value (name 280 "sum") (expr 286 (node.Dot (expr 286 (node.Variable (codes "old"))) (name 290 "sum")))) ∷ [] }))) ∷ [])) ≡ Some (OldField 290)
new_field = simp infer_old_at refl

-- Types that don't fit, at the expression.

-- dsu_transform struct t { a = old; }
bare_old : first_transform_fault before (with ((def 255 (kind.TransformStruct (record { name = (name 276 "t"); values = (field_value (name 280 "a") (expr 284 (node.Variable (codes "old")))) ∷ [] }))) ∷ [])) ≡ Some (Wrong 284)
bare_old = simp infer_old_at refl

-- dsu_transform struct t { a = !old; }
negated_old : first_transform_fault before (with ((def 255 (kind.TransformStruct (record { name = (name 276 "t"); values = (field_value (name 280 "a") (expr 284 (node.Unary Not (expr 285 (node.Variable (codes "old")))))) ∷ [] }))) ∷ [])) ≡ Some (Wrong 285)
negated_old = simp infer_old_at refl

-- dsu_transform g = old.a;
field_of_a_global : first_transform_fault before (with ((def 255 (kind.TransformGlobal (name 269 "g") (expr 273 (node.Dot (expr 273 (node.Variable (codes "old"))) (name 277 "a"))))) ∷ [])) ≡ Some (Wrong 273)
field_of_a_global = simp infer_old_at refl

-- dsu_transform struct t { p = 1 + old.a; }
int_for_a_handle : first_transform_fault before (with ((def 255 (kind.TransformStruct (record { name = (name 276 "t"); values = (field_value (name 280 "p") (expr 284 (node.Binary op.Add (expr 284 (node.Number (int32 (pos 1)))) (expr 288 (node.Dot (expr 288 (node.Variable (codes "old"))) (name 292 "a")))))) ∷ [] }))) ∷ [])) ≡ Some (Wrong 284)
int_for_a_handle = simp infer_old_at refl

-- dsu_transform struct t { a = old.p; }
handle_for_an_int : first_transform_fault before (with ((def 255 (kind.TransformStruct (record { name = (name 276 "t"); values = (field_value (name 280 "a") (expr 284 (node.Dot (expr 284 (node.Variable (codes "old"))) (name 288 "p")))) ∷ [] }))) ∷ [])) ≡ Some (Wrong 284)
handle_for_an_int = simp infer_old_at refl

-- dsu_transform struct t { q = old.p; }
another_handle : first_transform_fault before (with ((def 255 (kind.TransformStruct (record { name = (name 276 "t"); values = (field_value (name 280 "q") (expr 284 (node.Dot (expr 284 (node.Variable (codes "old"))) (name 288 "p")))) ∷ [] }))) ∷ [])) ≡ Some (Wrong 284)
another_handle = simp infer_old_at refl

-- dsu_transform struct t { sum = 1 + old.p; }
handle_in_a_sum : first_transform_fault before (with ((def 255 (kind.TransformStruct (record { name = (name 276 "t"); values = (field_value (name 280 "sum") (expr 286 (node.Binary op.Add (expr 286 (node.Number (int32 (pos 1)))) (expr 290 (node.Dot (expr 290 (node.Variable (codes "old"))) (name 294 "p")))))) ∷ [] }))) ∷ [])) ≡ Some (Wrong 290)
handle_in_a_sum = simp infer_old_at refl

-- dsu_transform struct t { p = old.a ? old.p : 1; }
results_do_not_meet : first_transform_fault before (with ((def 255 (kind.TransformStruct (record { name = (name 276 "t"); values = (field_value (name 280 "p") (expr 284 (node.Choice (expr 284 (node.Dot (expr 284 (node.Variable (codes "old"))) (name 288 "a"))) (expr 292 (node.Dot (expr 292 (node.Variable (codes "old"))) (name 296 "p"))) (expr 300 (node.Number (int32 (pos 1))))))) ∷ [] }))) ∷ [])) ≡ Some (Wrong 284)
results_do_not_meet = simp infer_old_at refl

-- dsu_transform struct t { a = 1 + (old.p == 1); }
operands_do_not_meet : first_transform_fault before (with ((def 255 (kind.TransformStruct (record { name = (name 276 "t"); values = (field_value (name 280 "a") (expr 284 (node.Binary op.Add (expr 284 (node.Number (int32 (pos 1)))) (expr 289 (node.Binary op.Eq (expr 289 (node.Dot (expr 289 (node.Variable (codes "old"))) (name 293 "p"))) (expr 298 (node.Number (int32 (pos 1))))))))) ∷ [] }))) ∷ [])) ≡ Some (Wrong 289)
operands_do_not_meet = simp infer_old_at refl

-- dsu_transform struct t { a = (int) old.p; }
cast_of_a_handle : first_transform_fault before (with ((def 255 (kind.TransformStruct (record { name = (name 276 "t"); values = (field_value (name 280 "a") (expr 284 (node.Cast (Integer I32) (expr 290 (node.Dot (expr 290 (node.Variable (codes "old"))) (name 294 "p")))))) ∷ [] }))) ∷ [])) ≡ Some (Wrong 290)
cast_of_a_handle = simp infer_old_at refl

-- dsu_transform struct t { a = old.run; }
thread_for_an_int : first_transform_fault before (with ((def 255 (kind.TransformStruct (record { name = (name 276 "t"); values = (field_value (name 280 "a") (expr 284 (node.Dot (expr 284 (node.Variable (codes "old"))) (name 288 "run")))) ∷ [] }))) ∷ [])) ≡ Some (Wrong 284)
thread_for_an_int = simp infer_old_at refl

-- dsu_transform h = old;
int_for_a_handle_global : first_transform_fault before (with ((def 255 (kind.TransformGlobal (name 269 "h") (expr 273 (node.Variable (codes "old"))))) ∷ [])) ≡ Some (Wrong 273)
int_for_a_handle_global = simp infer_old_at refl

-- dsu_transform thread = old;
thread_for_an_int_global : first_transform_fault before (with ((def 255 (kind.TransformGlobal (name 269 "thread") (expr 278 (node.Variable (codes "old"))))) ∷ [])) ≡ Some (Wrong 278)
thread_for_an_int_global = simp infer_old_at refl

-- What has no fault.

-- dsu_transform struct t { sum = old.a + old.b; }
sum_of_fields : first_transform_fault before (with ((def 255 (kind.TransformStruct (record { name = (name 276 "t"); values = (field_value (name 280 "sum") (expr 286 (node.Binary op.Add (expr 286 (node.Dot (expr 286 (node.Variable (codes "old"))) (name 290 "a"))) (expr 294 (node.Dot (expr 294 (node.Variable (codes "old"))) (name 298 "b")))))) ∷ [] }))) ∷ [])) ≡ None
sum_of_fields = simp infer_old_at refl

-- dsu_transform struct t { a = (int) (old.b * 2); sum = (long) old.a; }
a_cast : first_transform_fault before (with ((def 255 (kind.TransformStruct (record { name = (name 276 "t"); values = (field_value (name 280 "a") (expr 284 (node.Cast (Integer I32) (expr 291 (node.Binary op.Mul (expr 291 (node.Dot (expr 291 (node.Variable (codes "old"))) (name 295 "b"))) (expr 299 (node.Number (int32 (pos 2))))))))) ∷ (field_value (name 303 "sum") (expr 309 (node.Cast (Integer I64) (expr 316 (node.Dot (expr 316 (node.Variable (codes "old"))) (name 320 "a")))))) ∷ [] }))) ∷ [])) ≡ None
a_cast = simp infer_old_at refl

-- dsu_transform struct t { p = old.p; q = (struct v *) NULL; run = old.run; }
handles : first_transform_fault before (with ((def 255 (kind.TransformStruct (record { name = (name 276 "t"); values = (field_value (name 280 "p") (expr 284 (node.Dot (expr 284 (node.Variable (codes "old"))) (name 288 "p")))) ∷ (field_value (name 291 "q") (expr 295 (node.Cast (Handle (name 303 "v")) (expr 308 node.Null)))) ∷ (field_value (name 314 "run") (expr 320 (node.Dot (expr 320 (node.Variable (codes "old"))) (name 324 "run")))) ∷ [] }))) ∷ [])) ≡ None
handles = simp infer_old_at refl

-- dsu_transform struct t { p = old.a == 0 ? NULL : old.p; a = old.p != 0; }
chosen_handle : first_transform_fault before (with ((def 255 (kind.TransformStruct (record { name = (name 276 "t"); values = (field_value (name 280 "p") (expr 284 (node.Choice (expr 284 (node.Binary op.Eq (expr 284 (node.Dot (expr 284 (node.Variable (codes "old"))) (name 288 "a"))) (expr 293 (node.Number (int32 (pos 0)))))) (expr 297 node.Null) (expr 304 (node.Dot (expr 304 (node.Variable (codes "old"))) (name 308 "p")))))) ∷ (field_value (name 311 "a") (expr 315 (node.Binary op.Ne (expr 315 (node.Dot (expr 315 (node.Variable (codes "old"))) (name 319 "p"))) (expr 324 (node.Number (int32 (pos 0))))))) ∷ [] }))) ∷ [])) ≡ None
chosen_handle = simp infer_old_at refl

-- dsu_transform h = 0;
zero_for_a_handle : first_transform_fault before (with ((def 255 (kind.TransformGlobal (name 269 "h") (expr 273 (node.Number (int32 (pos 0)))))) ∷ [])) ≡ None
zero_for_a_handle = simp infer_old_at refl

-- dsu_transform h = NULL;
null_for_a_handle : first_transform_fault before (with ((def 255 (kind.TransformGlobal (name 269 "h") (expr 273 node.Null))) ∷ [])) ≡ None
null_for_a_handle = simp infer_old_at refl

-- dsu_transform g = ~old - 1;
old_value : first_transform_fault before (with ((def 255 (kind.TransformGlobal (name 269 "g") (expr 273 (node.Binary op.Sub (expr 273 (node.Unary Complement (expr 274 (node.Variable (codes "old"))))) (expr 280 (node.Number (int32 (pos 1)))))))) ∷ [])) ≡ None
old_value = simp infer_old_at refl

-- dsu_transform struct renamed { a = old.b; b = old.a; }
another_order : first_transform_fault before (with ((def 255 (kind.TransformStruct (record { name = (name 276 "renamed"); values = (field_value (name 286 "a") (expr 290 (node.Dot (expr 290 (node.Variable (codes "old"))) (name 294 "b")))) ∷ (field_value (name 297 "b") (expr 301 (node.Dot (expr 301 (node.Variable (codes "old"))) (name 305 "a")))) ∷ [] }))) ∷ [])) ≡ None
another_order = simp infer_old_at refl

-- dsu_transform thread = 1;
number_for_a_thread : first_transform_fault before (with ((def 255 (kind.TransformGlobal (name 269 "thread") (expr 278 (node.Number (int32 (pos 1)))))) ∷ [])) ≡ None
number_for_a_thread = simp infer_old_at refl

-- Several at once: the first by place.

-- dsu_transform struct t { a = old.c; sum = 1 + old.p; }
two_fields : first_transform_fault before (with ((def 255 (kind.TransformStruct (record { name = (name 276 "t"); values = (field_value (name 280 "a") (expr 284 (node.Dot (expr 284 (node.Variable (codes "old"))) (name 288 "c")))) ∷ (field_value (name 291 "sum") (expr 297 (node.Binary op.Add (expr 297 (node.Number (int32 (pos 1)))) (expr 301 (node.Dot (expr 301 (node.Variable (codes "old"))) (name 305 "p")))))) ∷ [] }))) ∷ [])) ≡ Some (OldField 288)
two_fields = simp infer_old_at refl

-- dsu_transform struct t { p = 1; q = old.d; } dsu_transform kept = 1;
three_faults : first_transform_fault before (with ((def 255 (kind.TransformStruct (record { name = (name 276 "t"); values = (field_value (name 280 "p") (expr 284 (node.Number (int32 (pos 1))))) ∷ (field_value (name 287 "q") (expr 291 (node.Dot (expr 291 (node.Variable (codes "old"))) (name 295 "d")))) ∷ [] }))) ∷ (def 300 (kind.TransformGlobal (name 314 "kept") (expr 321 (node.Number (int32 (pos 1)))))) ∷ [])) ≡ Some (Wrong 284)
three_faults = simp infer_old_at refl

-- dsu_transform struct t { a = old.p + old.c; }
two_operands : first_transform_fault before (with ((def 255 (kind.TransformStruct (record { name = (name 276 "t"); values = (field_value (name 280 "a") (expr 284 (node.Binary op.Add (expr 284 (node.Dot (expr 284 (node.Variable (codes "old"))) (name 288 "p"))) (expr 292 (node.Dot (expr 292 (node.Variable (codes "old"))) (name 296 "c")))))) ∷ [] }))) ∷ [])) ≡ Some (Wrong 284)
two_operands = simp infer_old_at refl

-- dsu_transform struct t { a = (old.a ? old.p : 1) + old.c; }
parts_first : first_transform_fault before (with ((def 255 (kind.TransformStruct (record { name = (name 276 "t"); values = (field_value (name 280 "a") (expr 284 (node.Binary op.Add (expr 285 (node.Choice (expr 285 (node.Dot (expr 285 (node.Variable (codes "old"))) (name 289 "a"))) (expr 293 (node.Dot (expr 293 (node.Variable (codes "old"))) (name 297 "p"))) (expr 301 (node.Number (int32 (pos 1)))))) (expr 306 (node.Dot (expr 306 (node.Variable (codes "old"))) (name 310 "c")))))) ∷ [] }))) ∷ [])) ≡ Some (Wrong 285)
parts_first = simp infer_old_at refl

-- all of them, for each field and each transformer in order
all_three : transform_faults before (with ((def 255 (kind.TransformStruct (record { name = (name 276 "t"); values = (field_value (name 280 "p") (expr 284 (node.Number (int32 (pos 1))))) ∷ (field_value (name 287 "q") (expr 291 (node.Dot (expr 291 (node.Variable (codes "old"))) (name 295 "d")))) ∷ [] }))) ∷ (def 300 (kind.TransformGlobal (name 314 "kept") (expr 321 (node.Number (int32 (pos 1)))))) ∷ [])) ≡ Wrong 284 ∷ OldField 295 ∷ NotChanged 300 ∷ []
all_three = simp infer_old_at refl
