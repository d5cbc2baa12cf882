-- Small texts that come to a trap, to a wait or to a corner of the rules.
use Rattle.std.specs.Prelude.{ℕ, pos, List, [], ◌∷◌, Some, None, codes}
use Rattle.c_ints.specs.declared.kind.Kind.TheVariants.{I32, U32, I64}
use Rattle.c_ints.specs.declared.operator.BinOp.{BinOp}
use Rattle.c_ints.specs.declared.operator.BinOp.TheVariants as b
use Rattle.c_ints.specs.Number.{number}
use Rattle.c_tree.specs.declared.expr.StepOp.TheVariants as st
use Rattle.c_tree.specs.BareExpr.{Bytes, BareType, Integer, Handle, Thread, BareExpr}
use Rattle.c_tree.specs.BareExpr as e
use Rattle.c_tree.specs.BareStmt.{BareStmt, BareStmts}
use Rattle.c_tree.specs.BareStmt as s
use Rattle.c_tree.specs.BareDef.{BareBinding, BareDef}
use Rattle.c_tree.specs.BareDef as d
use Rattle.source_model.proofs.Texts.{calling}

-- statements in order
abbrev pub in_order : List BareStmt → BareStmts
in_order [] = s.NoStmts
in_order (a ∷ more) = s.StmtThen a (in_order more)

-- the int n, a variable, a declaration, a call without arguments
abbrev pub int : ℕ → BareExpr
int n = e.Number (number I32 (pos n))

abbrev pub variable : Bytes → BareExpr
variable name = e.Variable name

abbrev pub declare : BareType → Bytes → BareStmt
declare type name = s.Declare (record { declared = type; name = name; initial = None })

abbrev begin_with : Bytes → ℕ → BareStmt
begin_with name n = s.Declare (record { declared = Integer I32; name = name; initial = Some (int n) })

abbrev called : Bytes → BareStmt
called name = s.Evaluate (e.Call name e.NoExprs)

abbrev pub returned : BareExpr → List BareStmt
returned value = s.ReturnValue value ∷ []

-- printf("%d %d\n", a, b);
abbrev shown : BareExpr → BareExpr → BareStmt
shown a b = s.Evaluate (e.Print (codes "%d %d\n") (e.ExprThen a (e.ExprThen b e.NoExprs)))

-- int main(void) { .. }
abbrev pub main : List BareStmt → BareDef
main body = d.Function (Some (Integer I32)) (codes "main") [] (in_order body)

-- int f(int x) { .. }
abbrev pub of_int : Bytes → List BareStmt → BareDef
of_int name body =
    d.Function (Some (Integer I32)) name (record { declared = Integer I32; name = codes "x" } ∷ []) (in_order body)

-- int f(void) { return n; }
abbrev giving : Bytes → ℕ → BareDef
giving name n = d.Function (Some (Integer I32)) name [] (in_order (returned (int n)))

-- the definitions after the first two
abbrev after_two : List BareDef → List BareDef
after_two (a ∷ b ∷ more) = more
after_two more = []

-- thrd_create(&t, f, 0); and thrd_join(t, NULL);
abbrev created : Bytes → Bytes → BareStmt
created handle function = s.Evaluate (e.Create (variable handle) function (int 0))

abbrev joined : Bytes → BareStmt
joined handle = s.Evaluate (e.Join (variable handle))

-- int main(void) { return a op b; }
abbrev pub operating : BinOp → ℕ → ℕ → List BareDef
operating op x y = main (returned (e.Binary op (int x) (int y))) ∷ []

-- struct s { int v; };
abbrev struct_s : BareDef
struct_s = d.Struct (codes "s") (record { declared = Integer I32; name = codes "v" } ∷ [])

-- struct s { int v; };
-- int main(void) { struct s *p; free(p); p->v = 1; return 0; }
abbrev pub null_handle : List BareDef
null_handle =
    struct_s
    ∷ main (declare (Handle (codes "s")) (codes "p") ∷ s.Evaluate (e.Free (variable (codes "p")))
    ∷ s.Evaluate (e.Assign (e.Arrow (variable (codes "p")) (codes "v")) (int 1)) ∷ returned (int 0)) ∷ []

-- struct s { int v; };
-- int main(void) { struct s *p; p = calloc(1, sizeof(struct s)); free(p); free(p); return 0; }
abbrev pub freeing_twice : List BareDef
freeing_twice =
    struct_s
    ∷ main (declare (Handle (codes "s")) (codes "p")
    ∷ s.Evaluate (e.Assign (variable (codes "p")) (e.Calloc (codes "s")))
    ∷ s.Evaluate (e.Free (variable (codes "p"))) ∷ s.Evaluate (e.Free (variable (codes "p"))) ∷ returned (int 0)) ∷ []

-- mtx_t a;
-- int main(void) { mtx_lock(&a); mtx_lock(&a); return 0; }
abbrev pub locking_twice : List BareDef
locking_twice =
    d.Mutex (codes "a") ∷ main (s.Evaluate (e.Lock (codes "a")) ∷ s.Evaluate (e.Lock (codes "a")) ∷ returned (int 0)) ∷ []

-- mtx_t a;
-- int main(void) { mtx_unlock(&a); return 0; }
abbrev pub unlocking : List BareDef
unlocking = d.Mutex (codes "a") ∷ main (s.Evaluate (e.Unlock (codes "a")) ∷ returned (int 0)) ∷ []

-- mtx_t a;
-- int main(void) { mtx_init(&a, mtx_plain); mtx_lock(&a); mtx_init(&a, mtx_plain); return 0; }
abbrev pub initialising : List BareDef
initialising =
    d.Mutex (codes "a")
    ∷ main (s.Evaluate (e.InitMutex (codes "a")) ∷ s.Evaluate (e.Lock (codes "a"))
    ∷ s.Evaluate (e.InitMutex (codes "a")) ∷ returned (int 0)) ∷ []

-- mtx_t a;
-- int f(int x) { mtx_lock(&a); return x; }
-- int g(int x) { mtx_unlock(&a); return x; }
abbrev mutex_and_users : List BareDef → List BareDef
mutex_and_users more =
    d.Mutex (codes "a") ∷ of_int (codes "f") (s.Evaluate (e.Lock (codes "a")) ∷ returned (variable (codes "x")))
    ∷ of_int (codes "g") (s.Evaluate (e.Unlock (codes "a")) ∷ returned (variable (codes "x"))) ∷ more

-- with int main(void) {
--   thrd_t t;
--   thrd_create(&t, f, 0); thrd_join(t, NULL); thrd_create(&t, g, 0); thrd_join(t, NULL);
--   return 0;
-- }
abbrev pub handing_over : List BareDef
handing_over =
    mutex_and_users
    (main (declare Thread (codes "t") ∷ created (codes "t") (codes "f") ∷ joined (codes "t")
    ∷ created (codes "t") (codes "g") ∷ joined (codes "t") ∷ returned (int 0)) ∷ [])

-- with int main(void) { thrd_t t; mtx_lock(&a); thrd_create(&t, g, 0); thrd_join(t, NULL); return 0; }
abbrev pub unlocking_anothers : List BareDef
unlocking_anothers =
    mutex_and_users
    (main (declare Thread (codes "t") ∷ s.Evaluate (e.Lock (codes "a")) ∷ created (codes "t") (codes "g")
    ∷ joined (codes "t") ∷ returned (int 0)) ∷ [])

-- int main(void) { thrd_t t; thrd_join(t, NULL); return 0; }
abbrev pub joining_none : List BareDef
joining_none = main (declare Thread (codes "t") ∷ joined (codes "t") ∷ returned (int 0)) ∷ []

-- int f(int x) { return x; }
-- int main(void) { thrd_t t; thrd_create(&t, f, 0); thrd_join(t, NULL); thrd_join(t, NULL); return 0; }
abbrev pub joining_twice : List BareDef
joining_twice =
    of_int (codes "f") (returned (variable (codes "x")))
    ∷ main (declare Thread (codes "t") ∷ created (codes "t") (codes "f") ∷ joined (codes "t") ∷ joined (codes "t")
    ∷ returned (int 0)) ∷ []

-- thrd_t t;
-- int f(int x) { thrd_join(t, NULL); return x; }
-- int main(void) { thrd_t u; thrd_create(&u, f, 0); t = u; dsu_update(); thrd_join(u, NULL); return 0; }
abbrev pub joining_itself : List BareDef
joining_itself =
    d.Global (record { declared = Thread; name = codes "t"; initial = None })
    ∷ of_int (codes "f") (joined (codes "t") ∷ returned (variable (codes "x")))
    ∷ main (declare Thread (codes "u") ∷ created (codes "u") (codes "f")
    ∷ s.Evaluate (e.Assign (variable (codes "t")) (variable (codes "u"))) ∷ s.Update ∷ joined (codes "u")
    ∷ returned (int 0)) ∷ []

-- int g(void) { return 1; }
-- int h(void) { return 2; }
-- int main(void) { dsu_tx { g(); dsu_tx { h(); } g(); } dsu_tx { h(); } return 0; }
abbrev pub nesting_giving : ℕ → List BareDef
nesting_giving n =
    giving (codes "g") n ∷ giving (codes "h") 2
    ∷ main (s.Transaction (in_order (called (codes "g") ∷ s.Transaction (in_order (called (codes "h") ∷ []))
    ∷ called (codes "g") ∷ [])) ∷ s.Transaction (in_order (called (codes "h") ∷ [])) ∷ returned (int 0)) ∷ []

abbrev pub nesting : List BareDef
nesting = nesting_giving 1

-- the same with another g
abbrev pub nesting_2 : List BareDef
nesting_2 = nesting_giving 3

-- int a[2];
-- int main(void) {
--   int i = 0;
--   int x = 1;
--   a[i = 1] = i + 1;
--   printf("%d %d\n", a[0], a[1]);
--   x += x++;
--   printf("%d %d\n", x, x++);
--   return 0;
-- }
abbrev pub ordering : List BareDef
ordering =
    d.Array (Integer I32) (codes "a") (number I32 (pos 2)) None
    ∷ main (begin_with (codes "i") 0 ∷ begin_with (codes "x") 1
    ∷ s.Evaluate (e.Assign (e.Element (codes "a") (e.Assign (variable (codes "i")) (int 1)))
    (e.Binary b.Add (variable (codes "i")) (int 1)))
    ∷ shown (e.Element (codes "a") (int 0)) (e.Element (codes "a") (int 1))
    ∷ s.Evaluate (e.Update b.Add (variable (codes "x")) (e.Step st.PostIncrement (variable (codes "x"))))
    ∷ shown (variable (codes "x")) (e.Step st.PostIncrement (variable (codes "x"))) ∷ returned (int 0)) ∷ []

-- int d(int x) { if (x == 0) return 0; return d(x - 1); }
-- int main(void) { d(254); printf("ok\n"); d(255); printf("no\n"); return 0; }
abbrev deep_call : ℕ → BareStmt
deep_call n = s.Evaluate (e.Call (codes "d") (e.ExprThen (int n) e.NoExprs))

abbrev pub calling_deep : List BareDef
calling_deep =
    of_int (codes "d") (s.If (e.Binary b.Eq (variable (codes "x")) (int 0)) (s.ReturnValue (int 0))
    ∷ returned (e.Call (codes "d") (e.ExprThen (e.Binary b.Sub (variable (codes "x")) (int 1)) e.NoExprs)))
    ∷ main (deep_call 254 ∷ s.Evaluate (e.Print (codes "ok\n") e.NoExprs) ∷ deep_call 255
    ∷ s.Evaluate (e.Print (codes "no\n") e.NoExprs) ∷ returned (int 0)) ∷ []

-- int main(void) { return 0; }
abbrev pub nothing_else : List BareDef
nothing_else = main (returned (int 0)) ∷ []

-- int g = 5;
-- struct s { int v; };
-- int main(void) {
--   struct s *p = calloc(1, sizeof(struct s));
--   p->v = 7;
--   g = 6;
--   dsu_update();
--   printf("%d %d\n", p->v, g);
--   return 0;
-- }
abbrev pub coming_back : List BareDef
coming_back =
    d.Global (record { declared = Integer I32; name = codes "g"; initial = Some (int 5) }) ∷ struct_s
    ∷ main (s.Declare (record { declared = Handle (codes "s"); name = codes "p"; initial = Some (e.Calloc (codes "s")) })
    ∷ s.Evaluate (e.Assign (e.Arrow (variable (codes "p")) (codes "v")) (int 7))
    ∷ s.Evaluate (e.Assign (variable (codes "g")) (int 6)) ∷ s.Update
    ∷ shown (e.Arrow (variable (codes "p")) (codes "v")) (variable (codes "g")) ∷ returned (int 0)) ∷ []

-- int g(void) { return 1; }
-- int main(void) { g(); g(); return 0; }
abbrev pub stepping : List BareDef
stepping = giving (codes "g") 1 ∷ main (called (codes "g") ∷ called (codes "g") ∷ returned (int 0)) ∷ []

-- int g(void) { return 2; }
-- int main(void) { g(); return 0; }
abbrev pub stepping_2 : List BareDef
stepping_2 = giving (codes "g") 2 ∷ main (called (codes "g") ∷ returned (int 0)) ∷ []

-- int f(int x) { dsu_tx { dsu_update(); } return x; }
-- int main(void) { thrd_t t; thrd_create(&t, f, 0); return 0; }
abbrev pub leaving : List BareDef
leaving =
    of_int (codes "f") (s.Transaction (in_order (s.Update ∷ [])) ∷ returned (variable (codes "x")))
    ∷ main (declare Thread (codes "t") ∷ created (codes "t") (codes "f") ∷ returned (int 0)) ∷ []

-- `calling` with return 2; in g and return 3; in h
abbrev pub calling_3 : List BareDef
calling_3 = giving (codes "h") 3 ∷ giving (codes "g") 2 ∷ after_two calling

-- a global g of a type, alone and with a transformer
abbrev pub global_of : BareType → List BareDef
global_of type = d.Global (record { declared = type; name = codes "g"; initial = Some (int 5) }) ∷ []

abbrev pub transforming : BareType → BareExpr → List BareDef
transforming type by = d.TransformGlobal (codes "g") by ∷ global_of type

-- old + n
abbrev pub old_and : ℕ → BareExpr
old_and n = e.Binary b.Add (variable (codes "old")) (int n)

-- int g[3]; and long g[3];
abbrev pub array_g : BareType → List BareDef
array_g type = d.Array type (codes "g") (number I32 (pos 3)) None ∷ []

-- struct s { long v; int w; };
abbrev pub wider_struct : List BareDef
wider_struct =
    d.Struct (codes "s") (record { declared = Integer I64; name = codes "v" } ∷ record { declared = Integer I32; name = codes "w" } ∷ [])
    ∷ []

abbrev pub narrow_struct : List BareDef
narrow_struct = struct_s ∷ []

-- int a[2]; and int a[2u]; and int a[3];
abbrev pub array_of_two : List BareDef
array_of_two = d.Array (Integer I32) (codes "a") (number I32 (pos 2)) None ∷ []

abbrev pub array_of_two_unsigned : List BareDef
array_of_two_unsigned = d.Array (Integer I32) (codes "a") (number U32 (pos 2)) None ∷ []

abbrev pub array_of_three : List BareDef
array_of_three = d.Array (Integer I32) (codes "a") (number I32 (pos 3)) None ∷ []
