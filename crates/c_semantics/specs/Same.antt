-- Equality of definitions without places, as a test.
use Rattle.std.specs.Prelude.{ℕ, ◌==◌, Bool, true, false, not, ◌&&◌, List, [], ◌∷◌, Option, Some, None, bytes_eq}
use Rattle.std.specs.Ordering.{int_eq}
use Rattle.c_ints.specs.declared.kind.Kind.{Kind}
use Rattle.c_ints.specs.declared.int.Int.{Int}
use Rattle.c_ints.specs.declared.operator.BinOp.{BinOp}
use Rattle.c_ints.specs.declared.operator.BinOp.TheVariants.{Add, Sub, Mul, Div, Rem, And, Or, Xor, Shl, Shr, Lt, Gt, Le, Ge, Eq, Ne}
use Rattle.c_ints.specs.declared.operator.UnOp.{UnOp}
use Rattle.c_ints.specs.declared.operator.UnOp.TheVariants.{Plus, Negate, Complement, Not}
use Rattle.c_ints.specs.Kind.{width, is_signed}
use Rattle.c_ints.specs.Number.{kind_of, value_of}
use Rattle.c_tree.specs.declared.expr.StepOp.{StepOp}
use Rattle.c_tree.specs.declared.expr.StepOp.TheVariants.{PreIncrement, PreDecrement, PostIncrement, PostDecrement}
use Rattle.c_tree.specs.BareExpr.{BareType, Integer, Handle, Thread, BareExpr, BareExprs, NoExprs, ExprThen}
use Rattle.c_tree.specs.BareExpr as e
use Rattle.c_tree.specs.BareStmt.{BareDeclaration, BareStmt, BareStmts, NoStmts, StmtThen}
use Rattle.c_tree.specs.BareStmt as s
use Rattle.c_tree.specs.BareDef.{BareBinding}

-- both true or both false
abbrev pub same_bool : Bool → Bool → Bool
same_bool true b = b
same_bool false b = not b

-- two kinds of integers: their widths and their signedness
abbrev pub same_kind : Kind → Kind → Bool
same_kind a b = width a == width b && same_bool (is_signed a) (is_signed b)

-- two integers: their kinds and their values
abbrev pub same_int : Int → Int → Bool
same_int a b = same_kind (kind_of a) (kind_of b) && int_eq (value_of a) (value_of b)

-- the operators in order
abbrev pub binary_number : BinOp → ℕ
binary_number Add = 0
binary_number Sub = 1
binary_number Mul = 2
binary_number Div = 3
binary_number Rem = 4
binary_number And = 5
binary_number Or = 6
binary_number Xor = 7
binary_number Shl = 8
binary_number Shr = 9
binary_number Lt = 10
binary_number Gt = 11
binary_number Le = 12
binary_number Ge = 13
binary_number Eq = 14
binary_number Ne = 15

abbrev pub unary_number : UnOp → ℕ
unary_number Plus = 0
unary_number Negate = 1
unary_number Complement = 2
unary_number Not = 3

abbrev pub step_number : StepOp → ℕ
step_number PreIncrement = 0
step_number PreDecrement = 1
step_number PostIncrement = 2
step_number PostDecrement = 3

-- two lists, item by item
abbrev pub same_list : {A : Type 0} → (A → A → Bool) → List A → List A → Bool
same_list same [] [] = true
same_list same (a ∷ rest_a) (b ∷ rest_b) = same a b && same_list same rest_a rest_b
same_list same _ _ = false

-- two parts that may be absent
abbrev pub same_option : {A : Type 0} → (A → A → Bool) → Option A → Option A → Bool
same_option same None None = true
same_option same (Some a) (Some b) = same a b
same_option same _ _ = false

-- two types
abbrev pub same_type : BareType → BareType → Bool
same_type (Integer a) (Integer b) = same_kind a b
same_type (Handle a) (Handle b) = bytes_eq a b
same_type Thread Thread = true
same_type _ _ = false

-- two expressions
abbrev mutual
  pub same_expr : BareExpr → BareExpr → Bool
  same_expr (e.Number a) (e.Number b) = same_int a b
  same_expr (e.Character a) (e.Character b) = same_int a b
  same_expr e.Null e.Null = true
  same_expr e.Success e.Success = true
  same_expr e.Error e.Error = true
  same_expr (e.Variable a) (e.Variable b) = bytes_eq a b
  same_expr (e.Unary op a) (e.Unary pp b) = unary_number op == unary_number pp && same_expr a b
  same_expr (e.Step op a) (e.Step pp b) = step_number op == step_number pp && same_expr a b
  same_expr (e.Cast t a) (e.Cast u b) = same_type t u && same_expr a b
  same_expr (e.Binary op a c) (e.Binary pp b d) = binary_number op == binary_number pp && same_expr a b && same_expr c d
  same_expr (e.And a c) (e.And b d) = same_expr a b && same_expr c d
  same_expr (e.Or a c) (e.Or b d) = same_expr a b && same_expr c d
  same_expr (e.Choice a c g) (e.Choice b d h) = same_expr a b && same_expr c d && same_expr g h
  same_expr (e.Assign a c) (e.Assign b d) = same_expr a b && same_expr c d
  same_expr (e.Update op a c) (e.Update pp b d) = binary_number op == binary_number pp && same_expr a b && same_expr c d
  same_expr (e.Call f a) (e.Call g b) = bytes_eq f g && same_exprs a b
  same_expr (e.Element f a) (e.Element g b) = bytes_eq f g && same_expr a b
  same_expr (e.Arrow a f) (e.Arrow b g) = bytes_eq f g && same_expr a b
  same_expr (e.Dot a f) (e.Dot b g) = bytes_eq f g && same_expr a b
  same_expr (e.Print f a) (e.Print g b) = bytes_eq f g && same_exprs a b
  same_expr (e.Calloc f) (e.Calloc g) = bytes_eq f g
  same_expr (e.Free a) (e.Free b) = same_expr a b
  same_expr (e.Create a f c) (e.Create b g d) = bytes_eq f g && same_expr a b && same_expr c d
  same_expr (e.Join a) (e.Join b) = same_expr a b
  same_expr (e.JoinInto a c) (e.JoinInto b d) = same_expr a b && same_expr c d
  same_expr (e.InitMutex f) (e.InitMutex g) = bytes_eq f g
  same_expr (e.Lock f) (e.Lock g) = bytes_eq f g
  same_expr (e.Unlock f) (e.Unlock g) = bytes_eq f g
  same_expr _ _ = false

  pub same_exprs : BareExprs → BareExprs → Bool
  same_exprs NoExprs NoExprs = true
  same_exprs (ExprThen a rest_a) (ExprThen b rest_b) = same_expr a b && same_exprs rest_a rest_b
  same_exprs _ _ = false

-- two declarations
abbrev pub same_declaration : BareDeclaration → BareDeclaration → Bool
same_declaration a b =
    same_type a.declared b.declared && bytes_eq a.name b.name && same_option same_expr a.initial b.initial

-- two statements
abbrev mutual
  pub same_stmt : BareStmt → BareStmt → Bool
  same_stmt (s.Block a) (s.Block b) = same_stmts a b
  same_stmt s.Empty s.Empty = true
  same_stmt (s.Evaluate a) (s.Evaluate b) = same_expr a b
  same_stmt (s.Declare a) (s.Declare b) = same_declaration a b
  same_stmt (s.If c a) (s.If d b) = same_expr c d && same_stmt a b
  same_stmt (s.IfElse c a x) (s.IfElse d b y) = same_expr c d && same_stmt a b && same_stmt x y
  same_stmt (s.While c a) (s.While d b) = same_expr c d && same_stmt a b
  same_stmt (s.DoWhile a c) (s.DoWhile b d) = same_expr c d && same_stmt a b
  same_stmt (s.For f c g a) (s.For h d i b) =
      same_stmts f h && same_option same_expr c d && same_option same_expr g i && same_stmt a b
  same_stmt s.Break s.Break = true
  same_stmt s.Continue s.Continue = true
  same_stmt s.Return s.Return = true
  same_stmt (s.ReturnValue a) (s.ReturnValue b) = same_expr a b
  same_stmt s.Update s.Update = true
  same_stmt (s.Transaction a) (s.Transaction b) = same_stmts a b
  same_stmt _ _ = false

  pub same_stmts : BareStmts → BareStmts → Bool
  same_stmts NoStmts NoStmts = true
  same_stmts (StmtThen a rest_a) (StmtThen b rest_b) = same_stmt a b && same_stmts rest_a rest_b
  same_stmts _ _ = false

-- two members or parameters: their names and types
abbrev pub same_binding : BareBinding → BareBinding → Bool
same_binding a b = same_type a.declared b.declared && bytes_eq a.name b.name
