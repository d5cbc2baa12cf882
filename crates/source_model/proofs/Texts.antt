-- Small texts as trees.
use Rattle.std.specs.Prelude.{pos, List, [], ◌∷◌, Some, None, codes}
use Rattle.c_ints.specs.declared.kind.Kind.TheVariants.{U8, I16, I32, U32, I64}
use Rattle.c_ints.specs.declared.operator.BinOp.TheVariants as b
use Rattle.c_ints.specs.declared.operator.UnOp.TheVariants as u
use Rattle.c_ints.specs.Number.{number}
use Rattle.c_tree.specs.declared.expr.StepOp.TheVariants as st
use Rattle.c_tree.specs.BareExpr.{Bytes, BareType, Integer, Handle, Thread}
use Rattle.c_tree.specs.BareExpr as e
use Rattle.c_tree.specs.BareStmt as s
use Rattle.c_tree.specs.BareDef.{BareBinding, BareDef}
use Rattle.c_tree.specs.BareDef as d
use Rattle.c_semantics.specs.SourceTexts.{Tokens, Text}

-- a text with these definitions and numbers of tokens; its tree is of no account where no transformer has a fault
abbrev pub text_with : List BareDef → List Tokens → Text
text_with definitions tokens =
    record { definitions = definitions; tokens = tokens; tree = record { definitions = []; end = 0 } }

abbrev pub member : BareType → Bytes → BareBinding
member type name = record { declared = type; name = name }

-- int main(void) { printf("a\n"); printf("%d\n", 2147483647 + 1); return 0; }
abbrev pub overflowing : List BareDef
overflowing =
    d.Function (Some (Integer I32)) (codes "main") [] (s.StmtThen (s.Evaluate (e.Print (codes "a\n")
    e.NoExprs)) (s.StmtThen (s.Evaluate (e.Print (codes "%d\n") (e.ExprThen (e.Binary b.Add (e.Number (number
    I32 (pos 2147483647))) (e.Number (number I32 (pos 1)))) e.NoExprs))) (s.StmtThen (s.ReturnValue (e.Number
    (number I32 (pos 0)))) s.NoStmts))) ∷ []

-- int main(void) { int x = 0; printf("%u\n", 4294967295u + 1u); printf("%d %d\n", -7/2, -7%2); printf("%d\n", x && 1/x); return 0; }
abbrev pub dividing : List BareDef
dividing =
    d.Function (Some (Integer I32)) (codes "main") [] (s.StmtThen (s.Declare (record {
      declared = (Integer
          I32);
      name = (codes "x");
      initial = (Some (e.Number (number I32 (pos 0))));
    })) (s.StmtThen (s.Evaluate
    (e.Print (codes "%u\n") (e.ExprThen (e.Binary b.Add (e.Number (number U32 (pos 4294967295))) (e.Number
    (number U32 (pos 1)))) e.NoExprs))) (s.StmtThen (s.Evaluate (e.Print (codes "%d %d\n") (e.ExprThen
    (e.Binary b.Div (e.Unary u.Negate (e.Number (number I32 (pos 7)))) (e.Number (number I32 (pos 2))))
    (e.ExprThen (e.Binary b.Rem (e.Unary u.Negate (e.Number (number I32 (pos 7)))) (e.Number (number I32 (pos
    2)))) e.NoExprs)))) (s.StmtThen (s.Evaluate (e.Print (codes "%d\n") (e.ExprThen (e.And (e.Variable (codes
    "x")) (e.Binary b.Div (e.Number (number I32 (pos 1))) (e.Variable (codes "x")))) e.NoExprs))) (s.StmtThen
    (s.ReturnValue (e.Number (number I32 (pos 0)))) s.NoStmts))))) ∷ []

-- struct s { int v; };
-- int main(void) {
--   struct s *a = calloc(1, sizeof(struct s));
--   struct s *b = calloc(1, sizeof(struct s));
--   printf("%d\n", b == NULL);
--   free(a);
--   b = calloc(1, sizeof(struct s));
--   printf("%d\n", b == NULL);
--   a->v = 1;
--   return 0;
-- }
abbrev pub ending_objects : List BareDef
ending_objects =
    d.Struct (codes "s") ((member (Integer I32) (codes "v")) ∷ []) ∷ d.Function (Some (Integer I32)) (codes
    "main") [] (s.StmtThen (s.Declare (record {
      declared = (Handle (codes "s"));
      name = (codes "a");
      initial =
          (Some (e.Calloc (codes "s")));
    })) (s.StmtThen (s.Declare (record {
      declared = (Handle (codes "s"));
      name =
          (codes "b");
      initial = (Some (e.Calloc (codes "s")));
    })) (s.StmtThen (s.Evaluate (e.Print (codes "%d\n")
    (e.ExprThen (e.Binary b.Eq (e.Variable (codes "b")) e.Null) e.NoExprs))) (s.StmtThen (s.Evaluate (e.Free
    (e.Variable (codes "a")))) (s.StmtThen (s.Evaluate (e.Assign (e.Variable (codes "b")) (e.Calloc (codes
    "s")))) (s.StmtThen (s.Evaluate (e.Print (codes "%d\n") (e.ExprThen (e.Binary b.Eq (e.Variable (codes "b"))
    e.Null) e.NoExprs))) (s.StmtThen (s.Evaluate (e.Assign (e.Arrow (e.Variable (codes "a")) (codes "v"))
    (e.Number (number I32 (pos 1))))) (s.StmtThen (s.ReturnValue (e.Number (number I32 (pos 0))))
    s.NoStmts)))))))) ∷ []

-- int main(void) { int i; for (i = 0; ; i++) printf("%d\n", i); }
abbrev pub counting : List BareDef
counting =
    d.Function (Some (Integer I32)) (codes "main") [] (s.StmtThen (s.Declare (record {
      declared = (Integer
          I32);
      name = (codes "i");
      initial = None;
    })) (s.StmtThen (s.For (s.StmtThen (s.Evaluate (e.Assign
    (e.Variable (codes "i")) (e.Number (number I32 (pos 0))))) s.NoStmts) None (Some (e.Step st.PostIncrement
    (e.Variable (codes "i")))) (s.Evaluate (e.Print (codes "%d\n") (e.ExprThen (e.Variable (codes "i"))
    e.NoExprs)))) s.NoStmts)) ∷ []

-- mtx_t a;
-- mtx_t b;
-- int other(int x) {
--   mtx_lock(&b); mtx_lock(&a); mtx_unlock(&a); mtx_unlock(&b);
--   return x;
-- }
-- int main(void) {
--   thrd_t t;
--   thrd_create(&t, other, 0);
--   mtx_lock(&a); mtx_lock(&b); mtx_unlock(&b); mtx_unlock(&a);
--   thrd_join(t, NULL);
--   printf("done\n");
--   return 0;
-- }
abbrev pub locking : List BareDef
locking =
    d.Mutex (codes "a") ∷ d.Mutex (codes "b") ∷ d.Function (Some (Integer I32)) (codes "other") ((member
    (Integer I32) (codes "x")) ∷ []) (s.StmtThen (s.Evaluate (e.Lock (codes "b"))) (s.StmtThen (s.Evaluate
    (e.Lock (codes "a"))) (s.StmtThen (s.Evaluate (e.Unlock (codes "a"))) (s.StmtThen (s.Evaluate (e.Unlock
    (codes "b"))) (s.StmtThen (s.ReturnValue (e.Variable (codes "x"))) s.NoStmts))))) ∷ d.Function (Some
    (Integer I32)) (codes "main") [] (s.StmtThen (s.Declare (record {
      declared = Thread;
      name = (codes "t");
      initial = None;
    })) (s.StmtThen (s.Evaluate (e.Create (e.Variable (codes "t")) (codes "other") (e.Number
    (number I32 (pos 0))))) (s.StmtThen (s.Evaluate (e.Lock (codes "a"))) (s.StmtThen (s.Evaluate (e.Lock
    (codes "b"))) (s.StmtThen (s.Evaluate (e.Unlock (codes "b"))) (s.StmtThen (s.Evaluate (e.Unlock (codes
    "a"))) (s.StmtThen (s.Evaluate (e.Join (e.Variable (codes "t")))) (s.StmtThen (s.Evaluate (e.Print (codes
    "done\n") e.NoExprs)) (s.StmtThen (s.ReturnValue (e.Number (number I32 (pos 0)))) s.NoStmts))))))))) ∷ []

-- int h(void) { return 0; }
-- int g(void) { return 1; }
-- int f(void) { return g(); }
-- int main(void) {
--   dsu_tx {
--     printf("start\n");
--     h();
--     printf("%d\n", g());
--     printf("%d\n", f());
--   }
--   return 0;
-- }
abbrev pub calling : List BareDef
calling =
    d.Function (Some (Integer I32)) (codes "h") [] (s.StmtThen (s.ReturnValue (e.Number (number I32 (pos 0))))
    s.NoStmts) ∷ d.Function (Some (Integer I32)) (codes "g") [] (s.StmtThen (s.ReturnValue (e.Number (number
    I32 (pos 1)))) s.NoStmts) ∷ d.Function (Some (Integer I32)) (codes "f") [] (s.StmtThen (s.ReturnValue
    (e.Call (codes "g") e.NoExprs)) s.NoStmts) ∷ d.Function (Some (Integer I32)) (codes "main") [] (s.StmtThen
    (s.Transaction (s.StmtThen (s.Evaluate (e.Print (codes "start\n") e.NoExprs)) (s.StmtThen (s.Evaluate
    (e.Call (codes "h") e.NoExprs)) (s.StmtThen (s.Evaluate (e.Print (codes "%d\n") (e.ExprThen (e.Call (codes
    "g") e.NoExprs) e.NoExprs))) (s.StmtThen (s.Evaluate (e.Print (codes "%d\n") (e.ExprThen (e.Call (codes
    "f") e.NoExprs) e.NoExprs))) s.NoStmts))))) (s.StmtThen (s.ReturnValue (e.Number (number I32 (pos 0))))
    s.NoStmts)) ∷ []

-- int h(void) { return 0; }
-- int g(void) { return 2; }
-- int f(void) { return g(); }
-- int main(void) {
--   dsu_tx {
--     printf("start\n");
--     h();
--     printf("%d\n", g());
--     printf("%d\n", f());
--   }
--   return 0;
-- }
abbrev pub calling_2 : List BareDef
calling_2 =
    d.Function (Some (Integer I32)) (codes "h") [] (s.StmtThen (s.ReturnValue (e.Number (number I32 (pos 0))))
    s.NoStmts) ∷ d.Function (Some (Integer I32)) (codes "g") [] (s.StmtThen (s.ReturnValue (e.Number (number
    I32 (pos 2)))) s.NoStmts) ∷ d.Function (Some (Integer I32)) (codes "f") [] (s.StmtThen (s.ReturnValue
    (e.Call (codes "g") e.NoExprs)) s.NoStmts) ∷ d.Function (Some (Integer I32)) (codes "main") [] (s.StmtThen
    (s.Transaction (s.StmtThen (s.Evaluate (e.Print (codes "start\n") e.NoExprs)) (s.StmtThen (s.Evaluate
    (e.Call (codes "h") e.NoExprs)) (s.StmtThen (s.Evaluate (e.Print (codes "%d\n") (e.ExprThen (e.Call (codes
    "g") e.NoExprs) e.NoExprs))) (s.StmtThen (s.Evaluate (e.Print (codes "%d\n") (e.ExprThen (e.Call (codes
    "f") e.NoExprs) e.NoExprs))) s.NoStmts))))) (s.StmtThen (s.ReturnValue (e.Number (number I32 (pos 0))))
    s.NoStmts)) ∷ []

-- int g; int main(void) { return 0; }
abbrev pub other_kind_of : List BareDef
other_kind_of =
    d.Global (record { declared = (Integer I32); name = (codes "g"); initial = None }) ∷ d.Function (Some
    (Integer I32)) (codes "main") [] (s.StmtThen (s.ReturnValue (e.Number (number I32 (pos 0)))) s.NoStmts) ∷
    []

-- int a[2]; int main(void) { a[2] = 1; return 0; }
abbrev pub indexing : List BareDef
indexing =
    d.Array (Integer I32) (codes "a") (number I32 (pos 2)) None ∷ d.Function (Some (Integer I32)) (codes
    "main") [] (s.StmtThen (s.Evaluate (e.Assign (e.Element (codes "a") (e.Number (number I32 (pos 2))))
    (e.Number (number I32 (pos 1))))) (s.StmtThen (s.ReturnValue (e.Number (number I32 (pos 0)))) s.NoStmts)) ∷
    []

-- int w(int x) { return x; }
-- int main(void) {
--   thrd_t t;
--   int i;
--   for (i = 1; i <= 16; i++) printf("%d\n", thrd_create(&t, w, i));
--   return 0;
-- }
abbrev pub starting : List BareDef
starting =
    d.Function (Some (Integer I32)) (codes "w") ((member (Integer I32) (codes "x")) ∷ []) (s.StmtThen
    (s.ReturnValue (e.Variable (codes "x"))) s.NoStmts) ∷ d.Function (Some (Integer I32)) (codes "main") []
    (s.StmtThen (s.Declare (record { declared = Thread; name = (codes "t"); initial = None })) (s.StmtThen
    (s.Declare (record { declared = (Integer I32); name = (codes "i"); initial = None })) (s.StmtThen (s.For
    (s.StmtThen (s.Evaluate (e.Assign (e.Variable (codes "i")) (e.Number (number I32 (pos 1))))) s.NoStmts)
    (Some (e.Binary b.Le (e.Variable (codes "i")) (e.Number (number I32 (pos 16))))) (Some (e.Step
    st.PostIncrement (e.Variable (codes "i")))) (s.Evaluate (e.Print (codes "%d\n") (e.ExprThen (e.Create
    (e.Variable (codes "t")) (codes "w") (e.Variable (codes "i"))) e.NoExprs)))) (s.StmtThen (s.ReturnValue
    (e.Number (number I32 (pos 0)))) s.NoStmts)))) ∷ []

-- int f(int x) { return x; }
-- int main(void) {
--   thrd_t t;
--   int r;
--   thrd_create(&t, f, 7);
--   dsu_update();
--   thrd_join(t, &r);
--   printf("%d\n", r);
--   return 0;
-- }
abbrev pub joining : List BareDef
joining =
    d.Function (Some (Integer I32)) (codes "f") ((member (Integer I32) (codes "x")) ∷ []) (s.StmtThen
    (s.ReturnValue (e.Variable (codes "x"))) s.NoStmts) ∷ d.Function (Some (Integer I32)) (codes "main") []
    (s.StmtThen (s.Declare (record { declared = Thread; name = (codes "t"); initial = None })) (s.StmtThen
    (s.Declare (record { declared = (Integer I32); name = (codes "r"); initial = None })) (s.StmtThen
    (s.Evaluate (e.Create (e.Variable (codes "t")) (codes "f") (e.Number (number I32 (pos 7))))) (s.StmtThen
    s.Update (s.StmtThen (s.Evaluate (e.JoinInto (e.Variable (codes "t")) (e.Variable (codes "r"))))
    (s.StmtThen (s.Evaluate (e.Print (codes "%d\n") (e.ExprThen (e.Variable (codes "r")) e.NoExprs)))
    (s.StmtThen (s.ReturnValue (e.Number (number I32 (pos 0)))) s.NoStmts))))))) ∷ []

-- int main(void) { printf("%u\n", 0xFFFFFFFF); printf("%ld\n", 4294967295); return 0; }
abbrev pub constants : List BareDef
constants =
    d.Function (Some (Integer I32)) (codes "main") [] (s.StmtThen (s.Evaluate (e.Print (codes "%u\n")
    (e.ExprThen (e.Number (number U32 (pos 4294967295))) e.NoExprs))) (s.StmtThen (s.Evaluate (e.Print (codes
    "%ld\n") (e.ExprThen (e.Number (number I64 (pos 4294967295))) e.NoExprs))) (s.StmtThen (s.ReturnValue
    (e.Number (number I32 (pos 0)))) s.NoStmts))) ∷ []

-- struct node { short n; struct node *next; };
-- unsigned char small = 250;
-- long all[3] = { 1, -2 };
-- struct node *first;
-- int twice(int n) { int m = n; if (n > 2) { int m = 1; m += 1; return n * m; } return m + m; }
-- void push(int n) { struct node *p = calloc(1, sizeof(struct node)); p->n = n; p->next = first; first = p; }
-- int main(void) {
--   int i = 0;
--   do { if (i == 1) continue; push(i * 20000); } while (i++ < 2);
--   while (first) { struct node *p = first; first = p->next; printf("%d ", p->n); free(p); }
--   for (int k = 0; ; k++) { if (k == 3) break; all[k] *= 3; printf("%ld ", all[k]); }
--   small += 10;
--   printf("%d %d %d\n", small++, small, twice(i) + twice(2));
--   printf("%d%%\n", (i > 2 ? -1 : 0u) > 0 && (first == NULL || first->n));
--   return ~i;
-- }
abbrev pub mixing : List BareDef
mixing =
    d.Struct (codes "node") ((member (Integer I16) (codes "n")) ∷ (member (Handle (codes "node")) (codes
    "next")) ∷ []) ∷ d.Global (record {
      declared = (Integer U8);
      name = (codes "small");
      initial = (Some
          (e.Number (number I32 (pos 250))));
    }) ∷ d.Array (Integer I64) (codes "all") (number I32 (pos 3)) (Some
    ((e.Number (number I32 (pos 1))) ∷ (e.Unary u.Negate (e.Number (number I32 (pos 2)))) ∷ [])) ∷ d.Global
    (record { declared = (Handle (codes "node")); name = (codes "first"); initial = None }) ∷ d.Function (Some
    (Integer I32)) (codes "twice") ((member (Integer I32) (codes "n")) ∷ []) (s.StmtThen (s.Declare (record {
      declared = (Integer I32);
      name = (codes "m");
      initial = (Some (e.Variable (codes "n")));
    })) (s.StmtThen
    (s.If (e.Binary b.Gt (e.Variable (codes "n")) (e.Number (number I32 (pos 2)))) (s.Block (s.StmtThen
    (s.Declare (record {
      declared = (Integer I32);
      name = (codes "m");
      initial = (Some (e.Number (number I32
          (pos 1))));
    })) (s.StmtThen (s.Evaluate (e.Update b.Add (e.Variable (codes "m")) (e.Number (number I32 (pos
    1))))) (s.StmtThen (s.ReturnValue (e.Binary b.Mul (e.Variable (codes "n")) (e.Variable (codes "m"))))
    s.NoStmts))))) (s.StmtThen (s.ReturnValue (e.Binary b.Add (e.Variable (codes "m")) (e.Variable (codes
    "m")))) s.NoStmts))) ∷ d.Function None (codes "push") ((member (Integer I32) (codes "n")) ∷ []) (s.StmtThen
    (s.Declare (record {
      declared = (Handle (codes "node"));
      name = (codes "p");
      initial = (Some (e.Calloc
          (codes "node")));
    })) (s.StmtThen (s.Evaluate (e.Assign (e.Arrow (e.Variable (codes "p")) (codes "n"))
    (e.Variable (codes "n")))) (s.StmtThen (s.Evaluate (e.Assign (e.Arrow (e.Variable (codes "p")) (codes
    "next")) (e.Variable (codes "first")))) (s.StmtThen (s.Evaluate (e.Assign (e.Variable (codes "first"))
    (e.Variable (codes "p")))) s.NoStmts)))) ∷ d.Function (Some (Integer I32)) (codes "main") [] (s.StmtThen
    (s.Declare (record {
      declared = (Integer I32);
      name = (codes "i");
      initial = (Some (e.Number (number I32
          (pos 0))));
    })) (s.StmtThen (s.DoWhile (s.Block (s.StmtThen (s.If (e.Binary b.Eq (e.Variable (codes "i"))
    (e.Number (number I32 (pos 1)))) s.Continue) (s.StmtThen (s.Evaluate (e.Call (codes "push") (e.ExprThen
    (e.Binary b.Mul (e.Variable (codes "i")) (e.Number (number I32 (pos 20000)))) e.NoExprs))) s.NoStmts)))
    (e.Binary b.Lt (e.Step st.PostIncrement (e.Variable (codes "i"))) (e.Number (number I32 (pos 2)))))
    (s.StmtThen (s.While (e.Variable (codes "first")) (s.Block (s.StmtThen (s.Declare (record {
      declared =
          (Handle (codes "node"));
      name = (codes "p");
      initial = (Some (e.Variable (codes "first")));
    })) (s.StmtThen
    (s.Evaluate (e.Assign (e.Variable (codes "first")) (e.Arrow (e.Variable (codes "p")) (codes "next"))))
    (s.StmtThen (s.Evaluate (e.Print (codes "%d ") (e.ExprThen (e.Arrow (e.Variable (codes "p")) (codes "n"))
    e.NoExprs))) (s.StmtThen (s.Evaluate (e.Free (e.Variable (codes "p")))) s.NoStmts)))))) (s.StmtThen (s.For
    (s.StmtThen (s.Declare (record {
      declared = (Integer I32);
      name = (codes "k");
      initial = (Some (e.Number
          (number I32 (pos 0))));
    })) s.NoStmts) None (Some (e.Step st.PostIncrement (e.Variable (codes "k"))))
    (s.Block (s.StmtThen (s.If (e.Binary b.Eq (e.Variable (codes "k")) (e.Number (number I32 (pos 3))))
    s.Break) (s.StmtThen (s.Evaluate (e.Update b.Mul (e.Element (codes "all") (e.Variable (codes "k")))
    (e.Number (number I32 (pos 3))))) (s.StmtThen (s.Evaluate (e.Print (codes "%ld ") (e.ExprThen (e.Element
    (codes "all") (e.Variable (codes "k"))) e.NoExprs))) s.NoStmts))))) (s.StmtThen (s.Evaluate (e.Update b.Add
    (e.Variable (codes "small")) (e.Number (number I32 (pos 10))))) (s.StmtThen (s.Evaluate (e.Print (codes
    "%d %d %d\n") (e.ExprThen (e.Step st.PostIncrement (e.Variable (codes "small"))) (e.ExprThen (e.Variable
    (codes "small")) (e.ExprThen (e.Binary b.Add (e.Call (codes "twice") (e.ExprThen (e.Variable (codes "i"))
    e.NoExprs)) (e.Call (codes "twice") (e.ExprThen (e.Number (number I32 (pos 2))) e.NoExprs))) e.NoExprs)))))
    (s.StmtThen (s.Evaluate (e.Print (codes "%d%%\n") (e.ExprThen (e.And (e.Binary b.Gt (e.Choice (e.Binary
    b.Gt (e.Variable (codes "i")) (e.Number (number I32 (pos 2)))) (e.Unary u.Negate (e.Number (number I32 (pos
    1)))) (e.Number (number U32 (pos 0)))) (e.Number (number I32 (pos 0)))) (e.Or (e.Binary b.Eq (e.Variable
    (codes "first")) e.Null) (e.Arrow (e.Variable (codes "first")) (codes "n")))) e.NoExprs))) (s.StmtThen
    (s.ReturnValue (e.Unary u.Complement (e.Variable (codes "i")))) s.NoStmts)))))))) ∷ []

-- struct conn { int in; int out; };
-- struct conn *c;
-- int show(void) { printf("%d\n", c->in); return 0; }
-- int main(void) {
--   c = calloc(1, sizeof(struct conn));
--   c->in = 3;
--   c->out = 4;
--   dsu_update();
--   printf("a\n");
--   dsu_update();
--   printf("b\n");
--   dsu_update();
--   show();
--   return 0;
-- }
abbrev pub connection : List BareDef
connection =
    d.Struct (codes "conn") ((member (Integer I32) (codes "in")) ∷ (member (Integer I32) (codes "out")) ∷ []) ∷
    d.Global (record { declared = (Handle (codes "conn")); name = (codes "c"); initial = None }) ∷ d.Function
    (Some (Integer I32)) (codes "show") [] (s.StmtThen (s.Evaluate (e.Print (codes "%d\n") (e.ExprThen (e.Arrow
    (e.Variable (codes "c")) (codes "in")) e.NoExprs))) (s.StmtThen (s.ReturnValue (e.Number (number I32 (pos
    0)))) s.NoStmts)) ∷ d.Function (Some (Integer I32)) (codes "main") [] (s.StmtThen (s.Evaluate (e.Assign
    (e.Variable (codes "c")) (e.Calloc (codes "conn")))) (s.StmtThen (s.Evaluate (e.Assign (e.Arrow (e.Variable
    (codes "c")) (codes "in")) (e.Number (number I32 (pos 3))))) (s.StmtThen (s.Evaluate (e.Assign (e.Arrow
    (e.Variable (codes "c")) (codes "out")) (e.Number (number I32 (pos 4))))) (s.StmtThen s.Update (s.StmtThen
    (s.Evaluate (e.Print (codes "a\n") e.NoExprs)) (s.StmtThen s.Update (s.StmtThen (s.Evaluate (e.Print (codes
    "b\n") e.NoExprs)) (s.StmtThen s.Update (s.StmtThen (s.Evaluate (e.Call (codes "show") e.NoExprs))
    (s.StmtThen (s.ReturnValue (e.Number (number I32 (pos 0)))) s.NoStmts)))))))))) ∷ []

-- struct conn { int in; int out; int total; };
-- struct conn *c;
-- int show(void) { printf("%d\n", c->total); return 0; }
-- int main(void) {
--   c = calloc(1, sizeof(struct conn));
--   c->in = 3;
--   c->out = 4;
--   dsu_update();
--   printf("a\n");
--   dsu_update();
--   printf("b\n");
--   dsu_update();
--   show();
--   return 0;
-- }
-- dsu_transform struct conn { total = old.in + old.out; }
abbrev pub connection_2 : List BareDef
connection_2 =
    d.Struct (codes "conn") ((member (Integer I32) (codes "in")) ∷ (member (Integer I32) (codes "out")) ∷
    (member (Integer I32) (codes "total")) ∷ []) ∷ d.Global (record {
      declared = (Handle (codes "conn"));
      name
          = (codes "c");
      initial = None;
    }) ∷ d.Function (Some (Integer I32)) (codes "show") [] (s.StmtThen
    (s.Evaluate (e.Print (codes "%d\n") (e.ExprThen (e.Arrow (e.Variable (codes "c")) (codes "total"))
    e.NoExprs))) (s.StmtThen (s.ReturnValue (e.Number (number I32 (pos 0)))) s.NoStmts)) ∷ d.Function (Some
    (Integer I32)) (codes "main") [] (s.StmtThen (s.Evaluate (e.Assign (e.Variable (codes "c")) (e.Calloc
    (codes "conn")))) (s.StmtThen (s.Evaluate (e.Assign (e.Arrow (e.Variable (codes "c")) (codes "in"))
    (e.Number (number I32 (pos 3))))) (s.StmtThen (s.Evaluate (e.Assign (e.Arrow (e.Variable (codes "c"))
    (codes "out")) (e.Number (number I32 (pos 4))))) (s.StmtThen s.Update (s.StmtThen (s.Evaluate (e.Print
    (codes "a\n") e.NoExprs)) (s.StmtThen s.Update (s.StmtThen (s.Evaluate (e.Print (codes "b\n") e.NoExprs))
    (s.StmtThen s.Update (s.StmtThen (s.Evaluate (e.Call (codes "show") e.NoExprs)) (s.StmtThen (s.ReturnValue
    (e.Number (number I32 (pos 0)))) s.NoStmts)))))))))) ∷ d.TransformStruct (codes "conn") ((record {
      field =
          (codes "total");
      value = (e.Binary b.Add (e.Dot (e.Variable (codes "old")) (codes "in")) (e.Dot (e.Variable
          (codes "old")) (codes "out")));
    }) ∷ []) ∷ []

-- struct conn { int in; int out; int total; int twice; };
-- struct conn *c;
-- int show(void) { printf("%d %d\n", c->total, c->twice); return 0; }
-- int main(void) {
--   c = calloc(1, sizeof(struct conn));
--   c->in = 3;
--   c->out = 4;
--   dsu_update();
--   printf("a\n");
--   dsu_update();
--   printf("b\n");
--   dsu_update();
--   show();
--   return 0;
-- }
-- dsu_transform struct conn { twice = old.total * 2; }
abbrev pub connection_3 : List BareDef
connection_3 =
    d.Struct (codes "conn") ((member (Integer I32) (codes "in")) ∷ (member (Integer I32) (codes "out")) ∷
    (member (Integer I32) (codes "total")) ∷ (member (Integer I32) (codes "twice")) ∷ []) ∷ d.Global (record {
      declared = (Handle (codes "conn"));
      name = (codes "c");
      initial = None;
    }) ∷ d.Function (Some (Integer I32))
    (codes "show") [] (s.StmtThen (s.Evaluate (e.Print (codes "%d %d\n") (e.ExprThen (e.Arrow (e.Variable
    (codes "c")) (codes "total")) (e.ExprThen (e.Arrow (e.Variable (codes "c")) (codes "twice")) e.NoExprs))))
    (s.StmtThen (s.ReturnValue (e.Number (number I32 (pos 0)))) s.NoStmts)) ∷ d.Function (Some (Integer I32))
    (codes "main") [] (s.StmtThen (s.Evaluate (e.Assign (e.Variable (codes "c")) (e.Calloc (codes "conn"))))
    (s.StmtThen (s.Evaluate (e.Assign (e.Arrow (e.Variable (codes "c")) (codes "in")) (e.Number (number I32
    (pos 3))))) (s.StmtThen (s.Evaluate (e.Assign (e.Arrow (e.Variable (codes "c")) (codes "out")) (e.Number
    (number I32 (pos 4))))) (s.StmtThen s.Update (s.StmtThen (s.Evaluate (e.Print (codes "a\n") e.NoExprs))
    (s.StmtThen s.Update (s.StmtThen (s.Evaluate (e.Print (codes "b\n") e.NoExprs)) (s.StmtThen s.Update
    (s.StmtThen (s.Evaluate (e.Call (codes "show") e.NoExprs)) (s.StmtThen (s.ReturnValue (e.Number (number I32
    (pos 0)))) s.NoStmts)))))))))) ∷ d.TransformStruct (codes "conn") ((record {
      field = (codes "twice");
      value
          = (e.Binary b.Mul (e.Dot (e.Variable (codes "old")) (codes "total")) (e.Number (number I32 (pos 2))));
    }) ∷
    []) ∷ []
