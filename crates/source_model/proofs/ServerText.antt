-- A server as a tree: four threads take requests from a list.
use Rattle.std.specs.Prelude.{ℕ, pos, List, [], ◌∷◌, Some, None, codes}
use Rattle.c_ints.specs.declared.kind.Kind.TheVariants.{I32}
use Rattle.c_ints.specs.declared.operator.BinOp.TheVariants as b
use Rattle.c_ints.specs.Number.{number}
use Rattle.c_tree.specs.declared.expr.StepOp.TheVariants as st
use Rattle.c_tree.specs.BareExpr.{Bytes, BareType, Integer, Handle, Thread, BareExpr}
use Rattle.c_tree.specs.BareExpr as e
use Rattle.c_tree.specs.BareStmt.{BareStmt}
use Rattle.c_tree.specs.BareStmt as s
use Rattle.c_tree.specs.BareDef.{BareDef}
use Rattle.c_tree.specs.BareDef as d
use Rattle.source_model.proofs.Texts.{member}
use Rattle.source_model.proofs.CornerTexts.{in_order, int, variable, declare, main, of_int, returned}

abbrev request : BareType
request = Handle (codes "req")

abbrev give : BareExpr → BareExpr → BareStmt
give a value = s.Evaluate (e.Assign a value)

abbrev declare_as : BareType → Bytes → BareExpr → BareStmt
declare_as type name value = s.Declare (record { declared = type; name = name; initial = Some value })

abbrev lock : BareStmt
lock = s.Evaluate (e.Lock (codes "m"))

abbrev unlock : BareStmt
unlock = s.Evaluate (e.Unlock (codes "m"))

-- for (i = first; i op last; i++)
abbrev counting_up : ℕ → BareExpr → BareStmt → BareStmt
counting_up first test body =
    s.For (in_order (give (variable (codes "i")) (int first) ∷ [])) (Some test)
    (Some (e.Step st.PostIncrement (variable (codes "i")))) body

abbrev thread_i : BareExpr
thread_i = e.Element (codes "t") (variable (codes "i"))

-- struct req { int size; struct req *next; };
-- struct req *head;
-- int total;
-- mtx_t m;
-- thrd_t t[4];
-- int cost(int x) { return value; }
-- struct req *take(void) {
--   struct req *r;
--   mtx_lock(&m);
--   r = head;
--   if (r) head = r->next;
--   mtx_unlock(&m);
--   return r;
-- }
-- int serve(int x) {
--   struct req *r = take();
--   while (r) {
--     dsu_tx {
--       int n = cost(r->size);
--       mtx_lock(&m);
--       total += n;
--       mtx_unlock(&m);
--       printf("served\n");
--     }
--     free(r);
--     dsu_update();
--     r = take();
--   }
--   return x;
-- }
-- int main(void) {
--   int i;
--   mtx_init(&m, mtx_plain);
--   for (i = 1; i <= 16; i++) {
--     struct req *r = calloc(1, sizeof(struct req));
--     r->size = i;
--     r->next = head;
--     head = r;
--   }
--   for (i = 0; i < 4; i++) thrd_create(&t[i], serve, i);
--   for (i = 0; i < 4; i++) thrd_join(t[i], NULL);
--   printf("total %d\n", total);
--   return 0;
-- }
abbrev server : BareExpr → List BareDef
server value =
    let r = variable (codes "r") in
    let head = variable (codes "head") in
    let i = variable (codes "i") in
    d.Struct (codes "req") (member (Integer I32) (codes "size") ∷ member request (codes "next") ∷ [])
    ∷ d.Global (record { declared = request; name = codes "head"; initial = None })
    ∷ d.Global (record { declared = Integer I32; name = codes "total"; initial = None }) ∷ d.Mutex (codes "m")
    ∷ d.Array Thread (codes "t") (number I32 (pos 4)) None ∷ of_int (codes "cost") (returned value)
    ∷ d.Function (Some request) (codes "take") []
    (in_order (declare request (codes "r") ∷ lock ∷ give r head ∷ s.If r (give head (e.Arrow r (codes "next")))
    ∷ unlock ∷ returned r))
    ∷ of_int (codes "serve")
    (declare_as request (codes "r") (e.Call (codes "take") e.NoExprs)
    ∷ s.While r
    (s.Block (in_order
    (s.Transaction (in_order
    (declare_as (Integer I32) (codes "n") (e.Call (codes "cost") (e.ExprThen (e.Arrow r (codes "size")) e.NoExprs))
    ∷ lock ∷ s.Evaluate (e.Update b.Add (variable (codes "total")) (variable (codes "n"))) ∷ unlock
    ∷ s.Evaluate (e.Print (codes "served\n") e.NoExprs) ∷ []))
    ∷ s.Evaluate (e.Free r) ∷ s.Update ∷ give r (e.Call (codes "take") e.NoExprs) ∷ [])))
    ∷ returned (variable (codes "x")))
    ∷ main
    (declare (Integer I32) (codes "i") ∷ s.Evaluate (e.InitMutex (codes "m"))
    ∷ counting_up 1 (e.Binary b.Le i (int 16))
    (s.Block (in_order
    (declare_as request (codes "r") (e.Calloc (codes "req")) ∷ give (e.Arrow r (codes "size")) i
    ∷ give (e.Arrow r (codes "next")) head ∷ give head r ∷ [])))
    ∷ counting_up 0 (e.Binary b.Lt i (int 4)) (s.Evaluate (e.Create thread_i (codes "serve") i))
    ∷ counting_up 0 (e.Binary b.Lt i (int 4)) (s.Evaluate (e.Join thread_i))
    ∷ s.Evaluate (e.Print (codes "total %d\n") (e.ExprThen (variable (codes "total")) e.NoExprs)) ∷ returned (int 0))
    ∷ []

-- with `x` for the value, and with `x + 0`
abbrev pub serving : List BareDef
serving = server (variable (codes "x"))

abbrev pub serving_2 : List BareDef
serving_2 = server (e.Binary b.Add (variable (codes "x")) (int 0))
