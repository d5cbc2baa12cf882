-- How the names of a function are resolved: innermost declarations first (6.2.1), fields by the type of their handle
-- (6.5.2.3), conversions as by assignment (6.5.16.1) and of the two sides of `?:` (6.5.15).
use Rattle.std.specs.Prelude.{pos, List, [], ◌∷◌, reverse, Option, Some, None, option_map, unwrap_or}
use Rattle.c_ints.specs.declared.kind.Kind.{Kind}
use Rattle.c_ints.specs.declared.kind.Kind.TheVariants.{I32}
use Rattle.c_ints.specs.declared.int.Int.{Int}
use Rattle.c_ints.specs.declared.operator.BinOp.{BinOp}
use Rattle.c_ints.specs.declared.operator.BinOp.TheVariants.{Add, Sub}
use Rattle.c_ints.specs.Number.{number, kind_of}
use Rattle.c_ints.specs.Arithmetic.{binary_kind, unary_kind}
use Rattle.c_ints.specs.Kind.{common_kind}
use Rattle.c_tree.specs.declared.expr.StepOp.{StepOp}
use Rattle.c_tree.specs.declared.expr.StepOp.TheVariants.{PreIncrement, PreDecrement, PostIncrement, PostDecrement}
use Rattle.c_tree.specs.BareExpr.{Bytes, BareType, Integer, Handle, Thread, BareExpr, BareExprs}
use Rattle.c_tree.specs.BareExpr as bare
use Rattle.c_tree.specs.BareStmt.{BareDeclaration, BareStmt, BareStmts}
use Rattle.c_tree.specs.BareStmt as bare_s
use Rattle.c_tree.specs.BareDef.{BareBinding, BareDef, Function}
use Rattle.c_semantics.specs.Names.{struct_name}
use Rattle.c_semantics.specs.Texts.{Definitions, int, global_type, result_type, parameters_of, members_of, bound, bound_type}
use Rattle.c_semantics.specs.Resolved.{Expression, Expressions, Place, Statement, Statements, NoExpressions, ExpressionThen, NoStatements, StatementThen}
use Rattle.c_semantics.specs.Resolved as made

-- an expression with its type, and the place that it is where it is one
pub record Resolved : Type 0 where
  pub tree : Expression
  pub place : Place
  pub type : BareType

-- the int of a value
abbrev pub int_value : Int
int_value = number I32 (pos 0)

-- what is no place
abbrev pub nowhere : Place
nowhere = made.Local []

-- an expression that is a value and no place
abbrev pub value : Expression → BareType → Resolved
value tree type = record { tree = tree; place = nowhere; type = type }

-- a place, which is read where its value is asked
abbrev pub located : Place → BareType → Resolved
located place type = record { tree = made.Read place; place = place; type = type }

-- the kind of an integer's type
abbrev pub kind : BareType → Kind
kind (Integer k) = k
kind _ = I32

-- the tag of a handle's struct
abbrev pub tag_of : BareType → Bytes
tag_of (Handle tag) = tag
tag_of _ = []

-- the type of two values of which one is taken, or that are compared: that of a handle where one of them is one,
-- else the common type (6.5.15 paragraphs 5 and 6)
abbrev pub common_type : BareType → BareType → BareType
common_type (Handle tag) b = Handle tag
common_type a (Handle tag) = Handle tag
common_type a b = Integer (common_kind (kind a) (kind b))

-- a side of `==` or `!=`: converted where a handle is compared; integers are left to the operator
abbrev pub side : BareType → Expression → Expression
side (Handle tag) e = made.Convert (Handle tag) e
side _ e = e

-- a binary operator on two values
abbrev pub binary : BinOp → Resolved → Resolved → Resolved
binary op a b =
    let type = common_type a.type b.type in
    value (made.Binary op (side type a.tree) (side type b.tree)) (Integer (binary_kind op (kind a.type) (kind b.type)))

-- `a = b` (6.5.16.1)
abbrev pub assignment : Resolved → Resolved → Resolved
assignment a b = value (made.Assign a.place (made.Convert a.type b.tree)) a.type

-- `a op= b` (6.5.16.2)
abbrev pub update : BinOp → Resolved → Resolved → Resolved
update op a b = value (made.Update a.type op a.place b.tree) a.type

-- one of two values
abbrev pub choice : Resolved → Resolved → Resolved → Resolved
choice c a b =
    let type = common_type a.type b.type in
    value (made.Choice c.tree (made.Convert type a.tree) (made.Convert type b.tree)) type

-- `++x` and `--x` are `x += 1` and `x -= 1` (6.5.3.1 paragraph 2); `x++` and `x--` give the old value (6.5.2.4)
abbrev pub step : StepOp → Resolved → Resolved
step PreIncrement a = value (made.Update a.type Add a.place (made.Constant (number I32 (pos 1)))) a.type
step PreDecrement a = value (made.Update a.type Sub a.place (made.Constant (number I32 (pos 1)))) a.type
step PostIncrement a = value (made.Postfix a.type Add a.place) a.type
step PostDecrement a = value (made.Postfix a.type Sub a.place) a.type

-- a variable: of the locals in scope, the innermost first, else the global one
abbrev pub variable : Definitions → Bytes → Option BareBinding → Resolved
variable look name (Some b) = located (made.Local name) b.declared
variable look name None = located (made.Global name) (global_type (look name))

-- a field of what a handle means
abbrev pub field : Definitions → Resolved → Bytes → Resolved
field look a name =
    let tag = tag_of a.type in
    located (made.Field tag a.tree name) (bound_type (members_of (look (struct_name tag))) name)

-- arguments converted to the types of their parameters (6.5.2.2 paragraph 7)
abbrev pub passed : Expressions → List BareBinding → Expressions
passed NoExpressions parameters = NoExpressions
passed (ExpressionThen e es) [] = ExpressionThen e (passed es [])
passed (ExpressionThen e es) (p ∷ ps) = ExpressionThen (made.Convert p.declared e) (passed es ps)

-- the argument of a spawned function
abbrev pub handed : List BareBinding → Expression → Expression
handed [] e = e
handed (p ∷ ps) e = made.Convert p.declared e

-- an expression under definitions and locals; NULL is the int 0 until it is converted (6.3.2.3 paragraph 3)
abbrev mutual
  pub resolved : Definitions → List BareBinding → BareExpr → Resolved
  resolved look locals (bare.Number n) = value (made.Constant n) (Integer (kind_of n))
  resolved look locals (bare.Character n) = value (made.Constant n) (Integer (kind_of n))
  resolved look locals bare.Null = value (made.Constant int_value) int
  resolved look locals bare.Success = value (made.Constant int_value) int
  resolved look locals bare.Error = value (made.Constant (number I32 (pos 1))) int
  resolved look locals (bare.Variable name) = variable look name (bound locals name)
  resolved look locals (bare.Unary op a) =
      let x = resolved look locals a in value (made.Unary op x.tree) (Integer (unary_kind op (kind x.type)))
  resolved look locals (bare.Step op a) = step op (resolved look locals a)
  resolved look locals (bare.Cast to a) = value (made.Convert to (resolved look locals a).tree) to
  resolved look locals (bare.Binary op a b) = binary op (resolved look locals a) (resolved look locals b)
  resolved look locals (bare.And a b) =
      value (made.And (resolved look locals a).tree (resolved look locals b).tree) int
  resolved look locals (bare.Or a b) = value (made.Or (resolved look locals a).tree (resolved look locals b).tree) int
  resolved look locals (bare.Choice c a b) =
      choice (resolved look locals c) (resolved look locals a) (resolved look locals b)
  resolved look locals (bare.Assign a b) = assignment (resolved look locals a) (resolved look locals b)
  resolved look locals (bare.Update op a b) = update op (resolved look locals a) (resolved look locals b)
  resolved look locals (bare.Call name arguments) =
      let f = look name in
      value (made.Call name (passed (resolved_all look locals arguments) (parameters_of f))) (result_type f)
  resolved look locals (bare.Element name a) =
      located (made.Element name (resolved look locals a).tree) (global_type (look name))
  resolved look locals (bare.Arrow a name) = field look (resolved look locals a) name
  resolved look locals (bare.Dot a name) = value (made.Constant int_value) int
  resolved look locals (bare.Print format arguments) =
      value (made.Print format (resolved_all look locals arguments)) int
  resolved look locals (bare.Calloc tag) = value (made.New tag) (Handle tag)
  resolved look locals (bare.Free a) =
      let x = resolved look locals a in value (made.Free (tag_of x.type) x.tree) int
  resolved look locals (bare.Create a name b) =
      value (made.Create (resolved look locals a).place name (handed (parameters_of (look name)) (resolved look locals b).tree)) int
  resolved look locals (bare.Join a) = value (made.Join (resolved look locals a).tree) int
  resolved look locals (bare.JoinInto a b) =
      value (made.JoinInto (resolved look locals a).tree (resolved look locals b).place) int
  resolved look locals (bare.InitMutex name) = value (made.InitMutex name) int
  resolved look locals (bare.Lock name) = value (made.Lock name) int
  resolved look locals (bare.Unlock name) = value (made.Unlock name) int

  pub resolved_all : Definitions → List BareBinding → BareExprs → Expressions
  resolved_all look locals bare.NoExprs = NoExpressions
  resolved_all look locals (bare.ExprThen e es) =
      ExpressionThen (resolved look locals e).tree (resolved_all look locals es)

-- the tree of an expression
abbrev pub tree_of : Definitions → List BareBinding → BareExpr → Expression
tree_of look locals e = (resolved look locals e).tree

-- what is declared after a statement of a block, the last first
abbrev pub declared_by : BareStmt → List BareBinding → List BareBinding
declared_by (bare_s.Declare d) locals = record { declared = d.declared; name = d.name } ∷ locals
declared_by _ locals = locals

-- and after several
abbrev pub declared_by_all : BareStmts → List BareBinding → List BareBinding
declared_by_all bare_s.NoStmts locals = locals
declared_by_all (bare_s.StmtThen s ss) locals = declared_by_all ss (declared_by s locals)

-- a declaration; its name is known in its own initialiser (6.2.1 paragraph 7)
abbrev pub declaration : Definitions → List BareBinding → BareDeclaration → Statement
declaration look locals d =
    made.Declare d.declared d.name
    (option_map (λ e. made.Convert d.declared (tree_of look (record { declared = d.declared; name = d.name } ∷ locals) e)) d.initial)

-- statements of a function with that result type; a return without a value gives the int 0
abbrev mutual
  pub statement : Definitions → BareType → List BareBinding → BareStmt → Statement
  statement look result locals (bare_s.Block ss) = made.Block (statements look result locals ss)
  statement look result locals bare_s.Empty = made.Empty
  statement look result locals (bare_s.Evaluate e) = made.Evaluate (tree_of look locals e)
  statement look result locals (bare_s.Declare d) = declaration look locals d
  statement look result locals (bare_s.If c s) = made.If (tree_of look locals c) (statement look result locals s)
  statement look result locals (bare_s.IfElse c s t) =
      made.IfElse (tree_of look locals c) (statement look result locals s) (statement look result locals t)
  statement look result locals (bare_s.While c s) = made.While (tree_of look locals c) (statement look result locals s)
  statement look result locals (bare_s.DoWhile s c) = made.DoWhile (statement look result locals s) (tree_of look locals c)
  statement look result locals (bare_s.For first test step s) =
      let inner = declared_by_all first locals in
      made.For (statements look result locals first) (option_map (tree_of look inner) test)
      (option_map (tree_of look inner) step) (statement look result inner s)
  statement look result locals bare_s.Break = made.Break
  statement look result locals bare_s.Continue = made.Continue
  statement look result locals bare_s.Return = made.Return (made.Constant int_value)
  statement look result locals (bare_s.ReturnValue e) = made.Return (made.Convert result (tree_of look locals e))
  statement look result locals bare_s.Update = made.UpdatePoint
  statement look result locals (bare_s.Transaction ss) = made.Transaction (statements look result locals ss)

  pub statements : Definitions → BareType → List BareBinding → BareStmts → Statements
  statements look result locals bare_s.NoStmts = NoStatements
  statements look result locals (bare_s.StmtThen s ss) =
      StatementThen (statement look result locals s) (statements look result (declared_by s locals) ss)

-- a function's parameters as locals, the last first
abbrev pub as_locals : List BareBinding → List BareBinding
as_locals = reverse

-- the body of a function
abbrev pub resolved_body : Definitions → Option BareDef → Statements
resolved_body look (Some (Function result name parameters body)) =
    statements look (unwrap_or result int) (as_locals parameters) body
resolved_body look _ = NoStatements
