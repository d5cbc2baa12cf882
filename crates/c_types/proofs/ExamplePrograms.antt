-- Whole programs.
use Rattle.std.specs.Prelude.{◌≡◌, pos, [], ◌∷◌, Some, None, codes}
use Rattle.std.proofs.Common.{refl}
use Rattle.c_ints.specs.declared.kind.Kind.TheVariants.{I32}
use Rattle.c_ints.specs.declared.int.Int.TheVariants.{I32 as int32, I64 as int64}
use Rattle.c_ints.specs.declared.operator.BinOp.TheVariants.{Add, Eq}
use Rattle.c_tree.specs.declared.name.CType.TheVariants.{Integer, Handle, Thread}
use Rattle.c_tree.specs.declared.expr.ExprNode.TheVariants as node
use Rattle.c_tree.specs.declared.stmt.StmtNode.TheVariants as made
use Rattle.c_tree.specs.declared.def.DefKind.TheVariants as kind
use Rattle.c_expr_types.specs.declared.fault.TypeKind.TheVariants.{UnknownName, BadFormat, LeavesTransaction}
use Rattle.c_expr_types.specs.Faults.{fault}
use Rattle.c_types.specs.Definitions.{first_fault}
use Rattle.c_types.proofs.Samples.{name, expr, stmt, variable, binding, field_value, function, def, program}
use Rattle.c_types.proofs.FoldsAtNode.{infer_at, need_at, allowed_at, old_at, walk_at, stmt_need_at, variables_at}

-- int main(void) { return x; }
return_of_unknown : first_fault (program ((def 0 (kind.Function (function (Some (Integer I32)) (name 4 "main") [] ((stmt 17 (made.ReturnValue (expr 24 (node.Variable (codes "x"))))) ∷ []) 27 10))) ∷ []) 28) ≡ Some (fault UnknownName 24)
return_of_unknown = simp (infer_at, need_at, walk_at, stmt_need_at, variables_at) refl

-- int main(void) { dsu_tx { return 0; } }
return_in_transaction : first_fault (program ((def 0 (kind.Function (function (Some (Integer I32)) (name 4 "main") [] ((stmt 17 (made.Transaction ((stmt 26 (made.ReturnValue (expr 33 (node.Number (int32 (pos 0)))))) ∷ []) 36)) ∷ []) 38 13))) ∷ []) 39) ≡ Some (fault LeavesTransaction 26)
return_in_transaction = simp (infer_at, walk_at, stmt_need_at, variables_at) refl

-- int main(void) { printf("%u\n", 4294967295); return 0; }
unsigned_of_long : first_fault (program ((def 0 (kind.Function (function (Some (Integer I32)) (name 4 "main") [] ((stmt 17 (made.Evaluate (expr 17 (node.Print 24 (codes "%u\n") ((expr 32 (node.Number (int64 (pos 4294967295)))) ∷ []))))) ∷ (stmt 45 (made.ReturnValue (expr 52 (node.Number (int32 (pos 0)))))) ∷ []) 55 17))) ∷ []) 56) ≡ Some (fault BadFormat 24)
unsigned_of_long = simp (infer_at, need_at, walk_at, stmt_need_at, variables_at) refl

-- struct s { int v; };
-- int main(void) {
--   struct s *a = calloc(1, sizeof(struct s));
--   struct s *b = calloc(1, sizeof(struct s));
--   printf("%d\n", b == NULL);
--   free(a);
--   b = calloc(1, sizeof(struct s));
--   printf("%d\n", b == NULL);
--   a->v = 1;
--   return 0;
-- }
--
p8 : first_fault (program ((def 0 (kind.Struct (name 7 "s") ((binding (Integer I32) (name 15 "v")) ∷ []))) ∷ (def 21 (kind.Function (function (Some (Integer I32)) (name 25 "main") [] ((stmt 40 (made.Declare (variable (Handle (name 47 "s")) (name 50 "a") (Some (expr 54 (node.Calloc (name 78 "s"))))))) ∷ (stmt 85 (made.Declare (variable (Handle (name 92 "s")) (name 95 "b") (Some (expr 99 (node.Calloc (name 123 "s"))))))) ∷ (stmt 130 (made.Evaluate (expr 130 (node.Print 137 (codes "%d\n") ((expr 145 (node.Binary Eq (expr 145 (node.Variable (codes "b"))) (expr 150 node.Null))) ∷ []))))) ∷ (stmt 159 (made.Evaluate (expr 159 (node.Free (expr 164 (node.Variable (codes "a"))))))) ∷ (stmt 170 (made.Evaluate (expr 170 (node.Assign (expr 170 (node.Variable (codes "b"))) (expr 174 (node.Calloc (name 198 "s"))))))) ∷ (stmt 205 (made.Evaluate (expr 205 (node.Print 212 (codes "%d\n") ((expr 220 (node.Binary Eq (expr 220 (node.Variable (codes "b"))) (expr 225 node.Null))) ∷ []))))) ∷ (stmt 234 (made.Evaluate (expr 234 (node.Assign (expr 234 (node.Arrow (expr 234 (node.Variable (codes "a"))) (name 237 "v"))) (expr 241 (node.Number (int32 (pos 1)))))))) ∷ (stmt 246 (made.ReturnValue (expr 253 (node.Number (int32 (pos 0)))))) ∷ []) 256 84))) ∷ []) 258) ≡ None
p8 = simp (infer_at, need_at, walk_at, stmt_need_at, variables_at) refl

-- mtx_t a;
-- mtx_t b;
-- int other(int x) {
--   mtx_lock(&b); mtx_lock(&a); mtx_unlock(&a); mtx_unlock(&b);
--   return x;
-- }
-- int main(void) {
--   thrd_t t;
--   thrd_create(&t, other, 0);
--   mtx_lock(&a); mtx_lock(&b); mtx_unlock(&b); mtx_unlock(&a);
--   thrd_join(t, NULL);
--   printf("done\n");
--   return 0;
-- }
--
lock : first_fault (program ((def 0 (kind.Mutex (name 6 "a"))) ∷ (def 9 (kind.Mutex (name 15 "b"))) ∷ (def 18 (kind.Function (function (Some (Integer I32)) (name 22 "other") ((binding (Integer I32) (name 32 "x")) ∷ []) ((stmt 39 (made.Evaluate (expr 39 (node.Lock (name 49 "b"))))) ∷ (stmt 53 (made.Evaluate (expr 53 (node.Lock (name 63 "a"))))) ∷ (stmt 67 (made.Evaluate (expr 67 (node.Unlock (name 79 "a"))))) ∷ (stmt 83 (made.Evaluate (expr 83 (node.Unlock (name 95 "b"))))) ∷ (stmt 101 (made.ReturnValue (expr 108 (node.Variable (codes "x"))))) ∷ []) 111 35))) ∷ (def 113 (kind.Function (function (Some (Integer I32)) (name 117 "main") [] ((stmt 132 (made.Declare (variable Thread (name 139 "t") None))) ∷ (stmt 144 (made.Evaluate (expr 144 (node.Create (expr 157 (node.Variable (codes "t"))) (name 160 "other") (expr 167 (node.Number (int32 (pos 0)))))))) ∷ (stmt 173 (made.Evaluate (expr 173 (node.Lock (name 183 "a"))))) ∷ (stmt 187 (made.Evaluate (expr 187 (node.Lock (name 197 "b"))))) ∷ (stmt 201 (made.Evaluate (expr 201 (node.Unlock (name 213 "b"))))) ∷ (stmt 217 (made.Evaluate (expr 217 (node.Unlock (name 229 "a"))))) ∷ (stmt 235 (made.Evaluate (expr 235 (node.Join (expr 245 (node.Variable (codes "t"))))))) ∷ (stmt 257 (made.Evaluate (expr 257 (node.Print 264 (codes "done\n") [])))) ∷ (stmt 277 (made.ReturnValue (expr 284 (node.Number (int32 (pos 0)))))) ∷ []) 287 59))) ∷ []) 289) ≡ None
lock = simp (infer_at, need_at, walk_at, stmt_need_at, variables_at) refl

-- int h(void) { return 0; }
-- int g(void) { return 1; }
-- int f(void) { return g(); }
-- int main(void) {
--   dsu_tx {
--     printf("start\n");
--     h();
--     printf("%d\n", g());
--     printf("%d\n", f());
--   }
--   return 0;
-- }
--
transactions : first_fault (program ((def 0 (kind.Function (function (Some (Integer I32)) (name 4 "h") [] ((stmt 14 (made.ReturnValue (expr 21 (node.Number (int32 (pos 0)))))) ∷ []) 24 10))) ∷ (def 26 (kind.Function (function (Some (Integer I32)) (name 30 "g") [] ((stmt 40 (made.ReturnValue (expr 47 (node.Number (int32 (pos 1)))))) ∷ []) 50 10))) ∷ (def 52 (kind.Function (function (Some (Integer I32)) (name 56 "f") [] ((stmt 66 (made.ReturnValue (expr 73 (node.Call (codes "g") [])))) ∷ []) 78 12))) ∷ (def 80 (kind.Function (function (Some (Integer I32)) (name 84 "main") [] ((stmt 99 (made.Transaction ((stmt 112 (made.Evaluate (expr 112 (node.Print 119 (codes "start\n") [])))) ∷ (stmt 135 (made.Evaluate (expr 135 (node.Call (codes "h") [])))) ∷ (stmt 144 (made.Evaluate (expr 144 (node.Print 151 (codes "%d\n") ((expr 159 (node.Call (codes "g") [])) ∷ []))))) ∷ (stmt 169 (made.Evaluate (expr 169 (node.Print 176 (codes "%d\n") ((expr 184 (node.Call (codes "f") [])) ∷ []))))) ∷ []) 192)) ∷ (stmt 196 (made.ReturnValue (expr 203 (node.Number (int32 (pos 0)))))) ∷ []) 206 40))) ∷ []) 208) ≡ None
transactions = simp (infer_at, need_at, walk_at, stmt_need_at, variables_at) refl

-- struct conn { int in; int out; int total; };
-- struct conn *c;
-- int show(void) { printf("%d\n", c->total); return 0; }
-- int main(void) {
--   c = calloc(1, sizeof(struct conn));
--   c->in = 3;
--   c->out = 4;
--   dsu_update();
--   printf("a\n");
--   dsu_update();
--   printf("b\n");
--   dsu_update();
--   show();
--   return 0;
-- }
-- dsu_transform struct conn { total = old.in + old.out; }
--
transformer : first_fault (program ((def 0 (kind.Struct (name 7 "conn") ((binding (Integer I32) (name 18 "in")) ∷ (binding (Integer I32) (name 26 "out")) ∷ (binding (Integer I32) (name 35 "total")) ∷ []))) ∷ (def 45 (kind.Global (variable (Handle (name 52 "conn")) (name 58 "c") None))) ∷ (def 61 (kind.Function (function (Some (Integer I32)) (name 65 "show") [] ((stmt 78 (made.Evaluate (expr 78 (node.Print 85 (codes "%d\n") ((expr 93 (node.Arrow (expr 93 (node.Variable (codes "c"))) (name 96 "total"))) ∷ []))))) ∷ (stmt 104 (made.ReturnValue (expr 111 (node.Number (int32 (pos 0)))))) ∷ []) 114 19))) ∷ (def 116 (kind.Function (function (Some (Integer I32)) (name 120 "main") [] ((stmt 135 (made.Evaluate (expr 135 (node.Assign (expr 135 (node.Variable (codes "c"))) (expr 139 (node.Calloc (name 163 "conn"))))))) ∷ (stmt 173 (made.Evaluate (expr 173 (node.Assign (expr 173 (node.Arrow (expr 173 (node.Variable (codes "c"))) (name 176 "in"))) (expr 181 (node.Number (int32 (pos 3)))))))) ∷ (stmt 186 (made.Evaluate (expr 186 (node.Assign (expr 186 (node.Arrow (expr 186 (node.Variable (codes "c"))) (name 189 "out"))) (expr 195 (node.Number (int32 (pos 4)))))))) ∷ (stmt 200 made.Update) ∷ (stmt 216 (made.Evaluate (expr 216 (node.Print 223 (codes "a\n") [])))) ∷ (stmt 233 made.Update) ∷ (stmt 249 (made.Evaluate (expr 249 (node.Print 256 (codes "b\n") [])))) ∷ (stmt 266 made.Update) ∷ (stmt 282 (made.Evaluate (expr 282 (node.Call (codes "show") [])))) ∷ (stmt 292 (made.ReturnValue (expr 299 (node.Number (int32 (pos 0)))))) ∷ []) 302 61))) ∷ (def 304 (kind.TransformStruct (record { name = (name 325 "conn"); values = ((field_value (name 332 "total") (expr 340 (node.Binary Add (expr 340 (node.Dot (expr 340 (node.Variable (codes "old"))) (name 344 "in"))) (expr 349 (node.Dot (expr 349 (node.Variable (codes "old"))) (name 353 "out")))))) ∷ []) }))) ∷ []) 360) ≡ None
transformer = simp (infer_at, need_at, allowed_at, old_at, walk_at, stmt_need_at, variables_at) refl
