-- The points of a function's tree in order of evaluation: its stops, and the check-ins after calls, after the
-- begin and the end of a transaction and after update points.
use Rattle.std.specs.Prelude.{ℕ, suc, List, [], ◌∷◌, ◌++◌, map, length, Option}
use Rattle.std.specs.Option.{option_map_or}
use Rattle.run_types.specs.Skeleton.{PointKind, Point}
use Rattle.run_types.specs.Skeleton as kind
use Rattle.run_types.specs.CheckIns as check_in
use Rattle.c_semantics.specs.Names.{struct_name}
use Rattle.c_semantics.specs.Resolved.{Expression, Expressions, Place, Statement, Statements, Constant, Read, Unary, Binary, Convert, And, Or, Choice, Assign, Update, Postfix, Call, Print, New, Free, Create, Join, JoinInto, InitMutex, Lock, Unlock, NoExpressions, ExpressionThen, Local, Global, Element, Field, Block, Empty, Evaluate, Declare, If, IfElse, While, DoWhile, For, Break, Continue, Return, UpdatePoint, Transaction, NoStatements, StatementThen}

-- the read of a place
abbrev pub reads : Place → List PointKind
reads (Local name) = []
reads (Global name) = kind.ReadGlobal name ∷ []
reads (Element name index) = kind.ReadElement name ∷ []
reads (Field tag handle name) = kind.ReadField (struct_name tag) ∷ []

-- the write of a place
abbrev pub writes : Place → List PointKind
writes (Local name) = []
writes (Global name) = kind.WriteGlobal name ∷ []
writes (Element name index) = kind.WriteElement name ∷ []
writes (Field tag handle name) = kind.WriteField (struct_name tag) ∷ []

-- the points of an expression, of arguments, and of the parts of a place: its index or its handle
abbrev mutual
  pub of_expression : Expression → List PointKind
  of_expression (Constant n) = []
  of_expression (Read p) = of_parts p ++ reads p
  of_expression (Unary op a) = of_expression a
  of_expression (Binary op a b) = of_expression a ++ of_expression b
  of_expression (Convert type a) = of_expression a
  of_expression (And a b) = of_expression a ++ of_expression b
  of_expression (Or a b) = of_expression a ++ of_expression b
  of_expression (Choice c a b) = of_expression c ++ of_expression a ++ of_expression b
  of_expression (Assign p e) = of_parts p ++ of_expression e ++ writes p
  of_expression (Update type op p e) = of_parts p ++ reads p ++ of_expression e ++ writes p
  of_expression (Postfix type op p) = of_parts p ++ reads p ++ writes p
  of_expression (Call name arguments) = of_expressions arguments ++ kind.Call name ∷ kind.CheckIn check_in.Call ∷ []
  of_expression (Print format arguments) = of_expressions arguments ++ kind.Print ∷ []
  of_expression (New tag) = kind.New (struct_name tag) ∷ []
  of_expression (Free tag e) = of_expression e ++ kind.Free (struct_name tag) ∷ []
  of_expression (Create p name e) = of_parts p ++ of_expression e ++ kind.Spawn name ∷ writes p
  of_expression (Join e) = of_expression e ++ kind.Join ∷ []
  of_expression (JoinInto e p) = of_expression e ++ of_parts p ++ kind.Join ∷ writes p
  of_expression (InitMutex name) = kind.InitMutex name ∷ []
  of_expression (Lock name) = kind.Lock name ∷ []
  of_expression (Unlock name) = kind.Unlock name ∷ []

  pub of_expressions : Expressions → List PointKind
  of_expressions NoExpressions = []
  of_expressions (ExpressionThen e es) = of_expression e ++ of_expressions es

  pub of_parts : Place → List PointKind
  of_parts (Local name) = []
  of_parts (Global name) = []
  of_parts (Element name index) = of_expression index
  of_parts (Field tag handle name) = of_expression handle

-- a point at a depth
abbrev pub at_depth : ℕ → PointKind → Point
at_depth depth k = record { kind = k; depth = depth }

-- the points of an expression at a depth
abbrev pub evaluated : ℕ → Expression → List Point
evaluated depth e = map (at_depth depth) (of_expression e)

-- and of one that may be absent
abbrev pub evaluated_if : ℕ → Option Expression → List Point
evaluated_if depth e = option_map_or (evaluated depth) e []

-- the points of a statement at a depth; a transaction's begin has the depth outside, its end the depth inside
abbrev mutual
  pub of_statement : ℕ → Statement → List Point
  of_statement d (Block ss) = of_statements d ss
  of_statement d Empty = []
  of_statement d (Evaluate e) = evaluated d e
  of_statement d (Declare type name e) = evaluated_if d e
  of_statement d (If c s) = evaluated d c ++ of_statement d s
  of_statement d (IfElse c s t) = evaluated d c ++ of_statement d s ++ of_statement d t
  of_statement d (While c s) = evaluated d c ++ of_statement d s ++ at_depth d kind.Back ∷ []
  of_statement d (DoWhile s c) = of_statement d s ++ evaluated d c ++ at_depth d kind.Back ∷ []
  of_statement d (For first test step s) =
      of_statements d first ++ evaluated_if d test ++ of_statement d s ++ evaluated_if d step ++ at_depth d kind.Back ∷ []
  of_statement d Break = []
  of_statement d Continue = []
  of_statement d (Return e) = evaluated d e ++ at_depth d kind.Return ∷ []
  of_statement d UpdatePoint = at_depth d kind.Update ∷ at_depth d (kind.CheckIn check_in.Update) ∷ []
  of_statement d (Transaction ss) =
      at_depth d kind.Begin ∷ at_depth (suc d) (kind.CheckIn check_in.Begin) ∷ of_statements (suc d) ss
      ++ at_depth (suc d) kind.End ∷ at_depth d (kind.CheckIn check_in.End) ∷ []

  pub of_statements : ℕ → Statements → List Point
  of_statements d NoStatements = []
  of_statements d (StatementThen s ss) = of_statement d s ++ of_statements d ss

-- the points of a function: its entry check-in, those of its body and the closing return
abbrev pub of_body : Statements → List Point
of_body body = at_depth 0 (kind.CheckIn check_in.Entry) ∷ of_statements 0 body ++ at_depth 0 kind.Return ∷ []

-- how many points a part of a tree has
abbrev pub size : Expression → ℕ
size e = length (of_expression e)

abbrev pub size_if : Option Expression → ℕ
size_if e = option_map_or size e 0

abbrev pub size_all : Expressions → ℕ
size_all es = length (of_expressions es)

abbrev pub size_parts : Place → ℕ
size_parts p = length (of_parts p)

abbrev pub size_read : Place → ℕ
size_read p = length (reads p)

abbrev pub size_stmt : Statement → ℕ
size_stmt s = length (of_statement 0 s)

abbrev pub size_stmts : Statements → ℕ
size_stmts ss = length (of_statements 0 ss)
