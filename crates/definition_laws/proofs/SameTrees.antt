-- The test of equal trees says equality.
use Rattle.std.proofs.Common.{◌≡◌, ℕ, Bool, true, List, Option, Some, None, refl, ap, sym, ◌∙◌, arith}
use Rattle.std.specs.Prelude.{◌==◌, bytes_eq}
use Rattle.std.proofs.lemmas.Bool.Decides.{Decides-int_eq, nat_tests}
use Rattle.std.proofs.lemmas.Slice.Eq.{bytes_eq-Decides}
use Rattle.c_ints.specs.declared.kind.Kind.{Kind}
use Rattle.c_ints.specs.declared.kind.Kind.TheVariants.{I8, U8, I16, U16, I32, U32, I64, U64}
use Rattle.c_ints.specs.declared.int.Int.{Int}
use Rattle.c_ints.specs.declared.int.Int.TheVariants.{I8 as int8, U8 as uint8, I16 as int16, U16 as uint16, I32 as int32, U32 as uint32, I64 as int64, U64 as uint64}
use Rattle.c_ints.specs.declared.operator.BinOp.{BinOp}
use Rattle.c_ints.specs.declared.operator.BinOp.TheVariants as b
use Rattle.c_ints.specs.declared.operator.UnOp.{UnOp}
use Rattle.c_ints.specs.declared.operator.UnOp.TheVariants as u
use Rattle.c_ints.specs.Number.{number, kind_of, value_of}
use Rattle.c_tree.specs.declared.expr.StepOp.{StepOp}
use Rattle.c_tree.specs.declared.expr.StepOp.TheVariants as st
use Rattle.c_tree.specs.BareExpr.{Bytes, BareType, Integer, Handle, Thread, BareExpr, BareExprs, NoExprs, ExprThen}
use Rattle.c_tree.specs.BareExpr as e
use Rattle.c_tree.specs.BareStmt.{BareDeclaration, BareStmt, BareStmts, NoStmts, StmtThen}
use Rattle.c_tree.specs.BareStmt as s
use Rattle.c_semantics.specs.Same.{same_kind, same_int, binary_number, unary_number, step_number, same_option, same_type, same_expr, same_exprs, same_declaration, same_stmt, same_stmts}
use Rattle.definition_laws.proofs.Tests.{no, left_of, right_of, both_hold}

kinds : (k l : Kind) → same_kind k l ≡ true → k ≡ l
kinds I8 I8 h = refl
kinds U8 U8 h = refl
kinds I16 I16 h = refl
kinds U16 U16 h = refl
kinds I32 I32 h = refl
kinds U32 U32 h = refl
kinds I64 I64 h = refl
kinds U64 U64 h = refl
kinds _ _ h = absurd (no h)

binaries : (x y : BinOp) → (binary_number x == binary_number y) ≡ true → x ≡ y
binaries b.Add b.Add h = refl
binaries b.Sub b.Sub h = refl
binaries b.Mul b.Mul h = refl
binaries b.Div b.Div h = refl
binaries b.Rem b.Rem h = refl
binaries b.And b.And h = refl
binaries b.Or b.Or h = refl
binaries b.Xor b.Xor h = refl
binaries b.Shl b.Shl h = refl
binaries b.Shr b.Shr h = refl
binaries b.Lt b.Lt h = refl
binaries b.Gt b.Gt h = refl
binaries b.Le b.Le h = refl
binaries b.Ge b.Ge h = refl
binaries b.Eq b.Eq h = refl
binaries b.Ne b.Ne h = refl
binaries _ _ h = absurd (no h)

whole : (a : Int) → number (kind_of a) (value_of a) ≡ a
whole (int8 z) = refl
whole (uint8 n) = refl
whole (int16 z) = refl
whole (uint16 n) = refl
whole (int32 z) = refl
whole (uint32 n) = refl
whole (int64 z) = refl
whole (uint64 n) = refl

ints : (x y : Int) → same_int x y ≡ true → x ≡ y
ints x y h =
    sym (whole x)
    ∙ ap (λ k. number k (value_of x)) (kinds (kind_of x) (kind_of y) (left_of _ _ h))
    ∙ ap (number (kind_of y)) ((Decides-int_eq (value_of x) (value_of y)).0 (right_of (same_kind (kind_of x) (kind_of y)) _ h))
    ∙ whole y

texts : (x y : List ℕ) → bytes_eq x y ≡ true → x ≡ y
texts x y h = (bytes_eq-Decides x y).0 h

unaries : (x y : UnOp) → (unary_number x == unary_number y) ≡ true → x ≡ y
unaries u.Plus u.Plus h = refl
unaries u.Negate u.Negate h = refl
unaries u.Complement u.Complement h = refl
unaries u.Not u.Not h = refl
unaries _ _ h = absurd (no h)

steps : (x y : StepOp) → (step_number x == step_number y) ≡ true → x ≡ y
steps st.PreIncrement st.PreIncrement h = refl
steps st.PreDecrement st.PreDecrement h = refl
steps st.PostIncrement st.PostIncrement h = refl
steps st.PostDecrement st.PostDecrement h = refl
steps _ _ h = absurd (no h)

pub types : (x y : BareType) → same_type x y ≡ true → x ≡ y
types (Integer x) (Integer y) h = ap Integer (kinds x y h)
types (Handle x) (Handle y) h = ap Handle (texts x y h)
types Thread Thread h = refl
types _ _ h = absurd (no h)

-- two parts, and three
two : {A B C : Type 0} (f : A → B → C) {a b : A} {x y : B} → a ≡ b → x ≡ y → f a x ≡ f b y
two f p q = cc

three : {A B C D : Type 0} (f : A → B → C → D) {a b : A} {x y : B} {v w : C} → a ≡ b → x ≡ y → v ≡ w → f a x v ≡ f b y w
three f p q r = cc

-- expressions and arguments
mutual
  pub exprs_same : (x y : BareExpr) → same_expr x y ≡ true → x ≡ y
  exprs_same (e.Number a) (e.Number c) h = ap e.Number (ints a c h)
  exprs_same (e.Character a) (e.Character c) h = ap e.Character (ints a c h)
  exprs_same e.Null e.Null h = refl
  exprs_same e.Success e.Success h = refl
  exprs_same e.Error e.Error h = refl
  exprs_same (e.Variable a) (e.Variable c) h = ap e.Variable (texts a c h)
  exprs_same (e.Unary o a) (e.Unary p c) h = two e.Unary (unaries o p (left_of _ _ h)) (exprs_same a c (right_of _ _ h))
  exprs_same (e.Step o a) (e.Step p c) h = two e.Step (steps o p (left_of _ _ h)) (exprs_same a c (right_of _ _ h))
  exprs_same (e.Cast t a) (e.Cast v c) h = two e.Cast (types t v (left_of _ _ h)) (exprs_same a c (right_of _ _ h))
  exprs_same (e.Binary o a x) (e.Binary p c y) h =
      three e.Binary (binaries o p (left_of _ _ (left_of _ _ h))) (exprs_same a c (right_of _ _ (left_of _ _ h)))
      (exprs_same x y (right_of _ _ h))
  exprs_same (e.And a x) (e.And c y) h = two e.And (exprs_same a c (left_of _ _ h)) (exprs_same x y (right_of _ _ h))
  exprs_same (e.Or a x) (e.Or c y) h = two e.Or (exprs_same a c (left_of _ _ h)) (exprs_same x y (right_of _ _ h))
  exprs_same (e.Choice a x v) (e.Choice c y w) h =
      three e.Choice (exprs_same a c (left_of _ _ (left_of _ _ h))) (exprs_same x y (right_of _ _ (left_of _ _ h)))
      (exprs_same v w (right_of _ _ h))
  exprs_same (e.Assign a x) (e.Assign c y) h = two e.Assign (exprs_same a c (left_of _ _ h)) (exprs_same x y (right_of _ _ h))
  exprs_same (e.Update o a x) (e.Update p c y) h =
      three e.Update (binaries o p (left_of _ _ (left_of _ _ h))) (exprs_same a c (right_of _ _ (left_of _ _ h)))
      (exprs_same x y (right_of _ _ h))
  exprs_same (e.Call f a) (e.Call g c) h = two e.Call (texts f g (left_of _ _ h)) (lists_same a c (right_of _ _ h))
  exprs_same (e.Element f a) (e.Element g c) h = two e.Element (texts f g (left_of _ _ h)) (exprs_same a c (right_of _ _ h))
  exprs_same (e.Arrow a f) (e.Arrow c g) h = two e.Arrow (exprs_same a c (right_of _ _ h)) (texts f g (left_of _ _ h))
  exprs_same (e.Dot a f) (e.Dot c g) h = two e.Dot (exprs_same a c (right_of _ _ h)) (texts f g (left_of _ _ h))
  exprs_same (e.Print f a) (e.Print g c) h = two e.Print (texts f g (left_of _ _ h)) (lists_same a c (right_of _ _ h))
  exprs_same (e.Calloc f) (e.Calloc g) h = ap e.Calloc (texts f g h)
  exprs_same (e.Free a) (e.Free c) h = ap e.Free (exprs_same a c h)
  exprs_same (e.Create a f x) (e.Create c g y) h =
      three e.Create (exprs_same a c (right_of _ _ (left_of _ _ h))) (texts f g (left_of _ _ (left_of _ _ h)))
      (exprs_same x y (right_of _ _ h))
  exprs_same (e.Join a) (e.Join c) h = ap e.Join (exprs_same a c h)
  exprs_same (e.JoinInto a x) (e.JoinInto c y) h = two e.JoinInto (exprs_same a c (left_of _ _ h)) (exprs_same x y (right_of _ _ h))
  exprs_same (e.InitMutex f) (e.InitMutex g) h = ap e.InitMutex (texts f g h)
  exprs_same (e.Lock f) (e.Lock g) h = ap e.Lock (texts f g h)
  exprs_same (e.Unlock f) (e.Unlock g) h = ap e.Unlock (texts f g h)
  exprs_same _ _ h = absurd (no h)

  pub lists_same : (x y : BareExprs) → same_exprs x y ≡ true → x ≡ y
  lists_same NoExprs NoExprs h = refl
  lists_same (ExprThen a x) (ExprThen c y) h = two ExprThen (exprs_same a c (left_of _ _ h)) (lists_same x y (right_of _ _ h))
  lists_same _ _ h = absurd (no h)

pub same_options : {A : Type 0} (same : A → A → Bool) (x y : Option A) → ((a c : A) → same a c ≡ true → a ≡ c)
    → same_option same x y ≡ true → x ≡ y
same_options same None None sound h = refl
same_options same None (Some y) sound h = absurd (no h)
same_options same (Some x) None sound h = absurd (no h)
same_options same (Some x) (Some y) sound h = ap Some (sound x y h)

four : {A B C D E : Type 0} (f : A → B → C → D → E) {a b : A} {x y : B} {v w : C} {p q : D}
    → a ≡ b → x ≡ y → v ≡ w → p ≡ q → f a x v p ≡ f b y w q
four f p q r t = cc

-- a declaration of its parts
declaration_of : BareType → Bytes → Option BareExpr → BareDeclaration
declaration_of declared name initial = record { declared = declared; name = name; initial = initial }

declarations_same : (x y : BareDeclaration) → same_declaration x y ≡ true → x ≡ y
unfolding declaration_of
declarations_same x y h =
    three declaration_of (types x.declared y.declared (left_of _ _ (left_of _ _ h)))
    (texts x.name y.name (right_of _ _ (left_of _ _ h))) (same_options same_expr x.initial y.initial exprs_same (right_of _ _ h))

-- statements
mutual
  pub stmts_same : (x y : BareStmt) → same_stmt x y ≡ true → x ≡ y
  stmts_same (s.Block a) (s.Block c) h = ap s.Block (blocks_same a c h)
  stmts_same s.Empty s.Empty h = refl
  stmts_same (s.Evaluate a) (s.Evaluate c) h = ap s.Evaluate (exprs_same a c h)
  stmts_same (s.Declare a) (s.Declare c) h = ap s.Declare (declarations_same a c h)
  stmts_same (s.If a x) (s.If c y) h = two s.If (exprs_same a c (left_of _ _ h)) (stmts_same x y (right_of _ _ h))
  stmts_same (s.IfElse a x v) (s.IfElse c y w) h =
      three s.IfElse (exprs_same a c (left_of _ _ (left_of _ _ h))) (stmts_same x y (right_of _ _ (left_of _ _ h)))
      (stmts_same v w (right_of _ _ h))
  stmts_same (s.While a x) (s.While c y) h = two s.While (exprs_same a c (left_of _ _ h)) (stmts_same x y (right_of _ _ h))
  stmts_same (s.DoWhile x a) (s.DoWhile y c) h = two s.DoWhile (stmts_same x y (right_of _ _ h)) (exprs_same a c (left_of _ _ h))
  stmts_same (s.For f a x v) (s.For g c y w) h =
      four s.For (blocks_same f g (left_of _ _ (left_of _ _ (left_of _ _ h))))
      (same_options same_expr a c exprs_same (right_of _ _ (left_of _ _ (left_of _ _ h))))
      (same_options same_expr x y exprs_same (right_of _ _ (left_of _ _ h))) (stmts_same v w (right_of _ _ h))
  stmts_same s.Break s.Break h = refl
  stmts_same s.Continue s.Continue h = refl
  stmts_same s.Return s.Return h = refl
  stmts_same (s.ReturnValue a) (s.ReturnValue c) h = ap s.ReturnValue (exprs_same a c h)
  stmts_same s.Update s.Update h = refl
  stmts_same (s.Transaction a) (s.Transaction c) h = ap s.Transaction (blocks_same a c h)
  stmts_same _ _ h = absurd (no h)

  pub blocks_same : (x y : BareStmts) → same_stmts x y ≡ true → x ≡ y
  blocks_same NoStmts NoStmts h = refl
  blocks_same (StmtThen a x) (StmtThen c y) h = two StmtThen (stmts_same a c (left_of _ _ h)) (blocks_same x y (right_of _ _ h))
  blocks_same _ _ h = absurd (no h)

-- and each tree is the same as itself
kind_alike : (k : Kind) → same_kind k k ≡ true
kind_alike I8 = refl
kind_alike U8 = refl
kind_alike I16 = refl
kind_alike U16 = refl
kind_alike I32 = refl
kind_alike U32 = refl
kind_alike I64 = refl
kind_alike U64 = refl

text_alike : (x : List ℕ) → bytes_eq x x ≡ true
text_alike x = (bytes_eq-Decides x x).1 refl

int_alike : (x : Int) → same_int x x ≡ true
int_alike x = both_hold _ _ (kind_alike (kind_of x)) ((Decides-int_eq (value_of x) (value_of x)).1 refl)

number_alike : (n : ℕ) → (n == n) ≡ true
number_alike n = grind (arith, nat_tests)

pub type_alike : (x : BareType) → same_type x x ≡ true
type_alike (Integer k) = kind_alike k
type_alike (Handle tag) = text_alike tag
type_alike Thread = refl

mutual
  expr_alike : (x : BareExpr) → same_expr x x ≡ true
  expr_alike (e.Number a) = int_alike a
  expr_alike (e.Character a) = int_alike a
  expr_alike e.Null = refl
  expr_alike e.Success = refl
  expr_alike e.Error = refl
  expr_alike (e.Variable a) = text_alike a
  expr_alike (e.Unary o a) = both_hold _ _ (number_alike (unary_number o)) (expr_alike a)
  expr_alike (e.Step o a) = both_hold _ _ (number_alike (step_number o)) (expr_alike a)
  expr_alike (e.Cast t a) = both_hold _ _ (type_alike t) (expr_alike a)
  expr_alike (e.Binary o a x) = both_hold _ _ (both_hold _ _ (number_alike (binary_number o)) (expr_alike a)) (expr_alike x)
  expr_alike (e.And a x) = both_hold _ _ (expr_alike a) (expr_alike x)
  expr_alike (e.Or a x) = both_hold _ _ (expr_alike a) (expr_alike x)
  expr_alike (e.Choice a x v) = both_hold _ _ (both_hold _ _ (expr_alike a) (expr_alike x)) (expr_alike v)
  expr_alike (e.Assign a x) = both_hold _ _ (expr_alike a) (expr_alike x)
  expr_alike (e.Update o a x) = both_hold _ _ (both_hold _ _ (number_alike (binary_number o)) (expr_alike a)) (expr_alike x)
  expr_alike (e.Call f a) = both_hold _ _ (text_alike f) (list_alike a)
  expr_alike (e.Element f a) = both_hold _ _ (text_alike f) (expr_alike a)
  expr_alike (e.Arrow a f) = both_hold _ _ (text_alike f) (expr_alike a)
  expr_alike (e.Dot a f) = both_hold _ _ (text_alike f) (expr_alike a)
  expr_alike (e.Print f a) = both_hold _ _ (text_alike f) (list_alike a)
  expr_alike (e.Calloc f) = text_alike f
  expr_alike (e.Free a) = expr_alike a
  expr_alike (e.Create a f x) = both_hold _ _ (both_hold _ _ (text_alike f) (expr_alike a)) (expr_alike x)
  expr_alike (e.Join a) = expr_alike a
  expr_alike (e.JoinInto a x) = both_hold _ _ (expr_alike a) (expr_alike x)
  expr_alike (e.InitMutex f) = text_alike f
  expr_alike (e.Lock f) = text_alike f
  expr_alike (e.Unlock f) = text_alike f

  list_alike : (x : BareExprs) → same_exprs x x ≡ true
  list_alike NoExprs = refl
  list_alike (ExprThen a x) = both_hold _ _ (expr_alike a) (list_alike x)

option_alike : (x : Option BareExpr) → same_option same_expr x x ≡ true
option_alike None = refl
option_alike (Some x) = expr_alike x

declaration_alike : (x : BareDeclaration) → same_declaration x x ≡ true
declaration_alike x = both_hold _ _ (both_hold _ _ (type_alike x.declared) (text_alike x.name)) (option_alike x.initial)

mutual
  stmt_alike : (x : BareStmt) → same_stmt x x ≡ true
  stmt_alike (s.Block a) = block_alike a
  stmt_alike s.Empty = refl
  stmt_alike (s.Evaluate a) = expr_alike a
  stmt_alike (s.Declare a) = declaration_alike a
  stmt_alike (s.If a x) = both_hold _ _ (expr_alike a) (stmt_alike x)
  stmt_alike (s.IfElse a x v) = both_hold _ _ (both_hold _ _ (expr_alike a) (stmt_alike x)) (stmt_alike v)
  stmt_alike (s.While a x) = both_hold _ _ (expr_alike a) (stmt_alike x)
  stmt_alike (s.DoWhile x a) = both_hold _ _ (expr_alike a) (stmt_alike x)
  stmt_alike (s.For f a x v) =
      both_hold _ _ (both_hold _ _ (both_hold _ _ (block_alike f) (option_alike a)) (option_alike x)) (stmt_alike v)
  stmt_alike s.Break = refl
  stmt_alike s.Continue = refl
  stmt_alike s.Return = refl
  stmt_alike (s.ReturnValue a) = expr_alike a
  stmt_alike s.Update = refl
  stmt_alike (s.Transaction a) = block_alike a

  pub block_alike : (x : BareStmts) → same_stmts x x ≡ true
  block_alike NoStmts = refl
  block_alike (StmtThen a x) = both_hold _ _ (stmt_alike a) (block_alike x)
