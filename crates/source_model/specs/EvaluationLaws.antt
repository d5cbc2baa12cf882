-- Laws of local evaluation: the first pending piece is replaced by the pieces of which it is made, until it is a stop.
use Rattle.std.specs.Prelude.{◌≡◌, ℕ, ◌+◌, List, [], ◌∷◌, ◌++◌, Option, Some, None, if◌then◌else◌}
use Rattle.c_ints.specs.declared.int.Int.{Int}
use Rattle.c_ints.specs.declared.operator.BinOp.{BinOp}
use Rattle.c_ints.specs.declared.operator.UnOp.{UnOp}
use Rattle.run_types.specs.declared.trap.TrapKind.{TrapKind}
use Rattle.c_tree.specs.BareExpr.{Bytes, BareType}
use Rattle.c_semantics.specs.Values.{Value, Number, int_of, is_true}
use Rattle.c_semantics.specs.Resolved.{Expression, Expressions, Place, Statement, Statements, NoExpressions, ExpressionThen, NoStatements, StatementThen}
use Rattle.c_semantics.specs.Resolved as made
use Rattle.c_semantics.specs.Points.{size, size_all, size_parts, size_read, size_stmt, size_stmts}
use Rattle.c_semantics.specs.Stops.{Stop}
use Rattle.c_semantics.specs.Stops as stop
use Rattle.c_semantics.specs.Pieces.{Loop, Piece, Scopes, Halt, Stopped, Trapped, Nothing, Compute, Arguments, Parts, Get, Set, Dup, Tuck, Swap, Apply, Combine, ConvertTo, Drop, Push, Truth, Created, AndThen, OrElse, Choose, Then, ThenElse, Turn, Repeat, Do, Sequence, Close, LoopTest, AfterBody, BackEdge, Until, At, body_at, step_at, back_at}
use Rattle.c_semantics.specs.Evaluation.{local, count, declare, loop_of, one, open_scope}
use Rattle.c_semantics.specs.Evaluation.{as_truth, creation, load, settle, store}
use Rattle.c_semantics.specs.Values.{binary_result, converted_to, unary_result}
use Rattle.c_semantics.specs.Pieces.{Variable}

-- how local evaluation ends
pub data Ends : Halt → Type 0 where
  at_a_stop : (s : Stop) (n : ℕ) (rest : List Piece) (values : List Value) (scopes : Scopes) → Ends (Stopped s n rest values scopes)
  with_a_trap : (kind : TrapKind) → Ends (Trapped kind)
  with_nothing : Ends Nothing

-- it ends at a stop, with a trap, or with nothing left, and never between
abbrev pub AlwaysEnds : Type 0
AlwaysEnds = (ps : List Piece) (values : List Value) (scopes : Scopes) → Ends (local ps values scopes)

-- before a stop it does nothing
abbrev pub StopsAtAStop : Type 0
StopsAtAStop =
    (s : Stop) (n : ℕ) (ps : List Piece) (values : List Value) (scopes : Scopes)
    → local (At s n ∷ ps) values scopes ≡ Stopped s n ps values scopes

-- of which pieces an expression is made whose first point is n
pub data Makes (n : ℕ) : Expression → List Piece → Type 0 where
  constant : (v : Int) → Makes n (made.Constant v) (Push (Number v) ∷ [])
  read : (p : Place) → Makes n (made.Read p) (Parts p n ∷ Get p (n + size_parts p) ∷ [])
  unary : (op : UnOp) (a : Expression) → Makes n (made.Unary op a) (Compute a n ∷ Apply op ∷ [])
  binary : (op : BinOp) (a b : Expression)
      → Makes n (made.Binary op a b) (Compute a n ∷ Compute b (n + size a) ∷ Combine op ∷ [])
  convert : (type : BareType) (a : Expression) → Makes n (made.Convert type a) (Compute a n ∷ ConvertTo type ∷ [])
  both : (a b : Expression) → Makes n (made.And a b) (Compute a n ∷ AndThen b (n + size a) ∷ [])
  either : (a b : Expression) → Makes n (made.Or a b) (Compute a n ∷ OrElse b (n + size a) ∷ [])
  choice : (c a b : Expression) → Makes n (made.Choice c a b) (Compute c n ∷ Choose a b (n + size c) ∷ [])
  assign : (p : Place) (e : Expression)
      → Makes n (made.Assign p e) (Parts p n ∷ Compute e (n + size_parts p) ∷ Set p (n + size_parts p + size e) ∷ [])
  update : (type : BareType) (op : BinOp) (p : Place) (e : Expression)
      → Makes n (made.Update type op p e)
      (Parts p n ∷ Dup p ∷ Get p (n + size_parts p) ∷ Compute e (n + size_parts p + size_read p) ∷ Combine op
      ∷ ConvertTo type ∷ Set p (n + size_parts p + size_read p + size e) ∷ [])
  postfix : (type : BareType) (op : BinOp) (p : Place)
      → Makes n (made.Postfix type op p)
      (Parts p n ∷ Dup p ∷ Get p (n + size_parts p) ∷ Tuck p ∷ Push one ∷ Combine op ∷ ConvertTo type
      ∷ Set p (n + size_parts p + size_read p) ∷ Drop ∷ [])
  call : (name : Bytes) (es : Expressions)
      → Makes n (made.Call name es) (Arguments es n ∷ At (stop.Call name (count es)) (n + size_all es) ∷ [])
  print : (format : Bytes) (es : Expressions)
      → Makes n (made.Print format es) (Arguments es n ∷ At (stop.Print format (count es)) (n + size_all es) ∷ [])
  new : (tag : Bytes) → Makes n (made.New tag) (At (stop.New tag) n ∷ [])
  free : (tag : Bytes) (e : Expression) → Makes n (made.Free tag e) (Compute e n ∷ At (stop.Free tag) (n + size e) ∷ [])
  create : (p : Place) (name : Bytes) (e : Expression)
      → Makes n (made.Create p name e)
      (Parts p n ∷ Compute e (n + size_parts p) ∷ At (stop.Spawn name) (n + size_parts p + size e)
      ∷ Set p (n + size_parts p + size e + 1) ∷ Created ∷ [])
  join : (e : Expression) → Makes n (made.Join e) (Compute e n ∷ At stop.Join (n + size e) ∷ Drop ∷ Push (int_of 0) ∷ [])
  join_into : (e : Expression) (p : Place)
      → Makes n (made.JoinInto e p)
      (Compute e n ∷ Parts p (n + size e) ∷ Swap p ∷ At stop.Join (n + size e + size_parts p)
      ∷ Set p (n + size e + size_parts p + 1) ∷ Drop ∷ Push (int_of 0) ∷ [])
  init_mutex : (name : Bytes) → Makes n (made.InitMutex name) (At (stop.InitMutex name) n ∷ [])
  lock : (name : Bytes) → Makes n (made.Lock name) (At (stop.Lock name) n ∷ [])
  unlock : (name : Bytes) → Makes n (made.Unlock name) (At (stop.Unlock name) n ∷ [])

-- an expression is evaluated as the pieces of which it is made
abbrev pub ExpressionsInOrder : Type 0
ExpressionsInOrder =
    (n : ℕ) (e : Expression) (made_of ps : List Piece) → Makes n e made_of → local (Compute e n ∷ ps) ≡ local (made_of ++ ps)

-- the read and the write of a place that isn't local are stops
pub data Accesses (n : ℕ) : Place → Stop → Stop → Type 0 where
  global : (name : Bytes) → Accesses n (made.Global name) (stop.ReadGlobal name) (stop.WriteGlobal name)
  element : (name : Bytes) (i : Expression) → Accesses n (made.Element name i) (stop.ReadElement name) (stop.WriteElement name)
  field : (tag : Bytes) (e : Expression) (name : Bytes)
      → Accesses n (made.Field tag e name) (stop.ReadField tag name) (stop.WriteField tag name)

abbrev pub PlacesStop : Type 0
PlacesStop =
    (n : ℕ) (p : Place) (reads writes : Stop) (ps : List Piece) → Accesses n p reads writes
    → (local (Get p n ∷ ps) ≡ local (At reads n ∷ ps)) × (local (Set p n ∷ ps) ≡ local (At writes n ∷ ps))

-- arguments are evaluated in order
abbrev pub ArgumentsInOrder : Type 0
ArgumentsInOrder =
    (e : Expression) (es : Expressions) (n : ℕ) (ps : List Piece)
    → local (Arguments (ExpressionThen e es) n ∷ ps) ≡ local (Compute e n ∷ Arguments es (n + size e) ∷ ps)

-- of which pieces a statement is made whose first point is n
pub data Does (n : ℕ) : Statement → List Piece → Type 0 where
  empty : Does n made.Empty []
  evaluate : (e : Expression) → Does n (made.Evaluate e) (Compute e n ∷ Drop ∷ [])
  if_only : (c : Expression) (s : Statement) → Does n (made.If c s) (Compute c n ∷ Then s (n + size c) ∷ [])
  if_else : (c : Expression) (s t : Statement) → Does n (made.IfElse c s t) (Compute c n ∷ ThenElse s t (n + size c) ∷ [])
  while : (c : Expression) (s : Statement) → Does n (made.While c s) (LoopTest (loop_of (Some c) None s n) ∷ [])
  do_while : (s : Statement) (c : Expression) → Does n (made.DoWhile s c) (Do s n ∷ Until s c n ∷ [])
  return : (e : Expression) → Does n (made.Return e) (Compute e n ∷ At stop.Return (n + size e) ∷ [])
  update : Does n made.UpdatePoint (At stop.Update n ∷ [])
  transaction : (ss : Statements)
      → Does n (made.Transaction ss)
      (At stop.Begin n ∷ Do (made.Block ss) (n + 2) ∷ At stop.End (n + 2 + size_stmts ss) ∷ [])

-- a statement is done as the pieces of which it is made
abbrev pub StatementsAsPieces : Type 0
StatementsAsPieces =
    (n : ℕ) (s : Statement) (made_of ps : List Piece) → Does n s made_of → local (Do s n ∷ ps) ≡ local (made_of ++ ps)

-- a declaration makes its variable, with zero each time that it is run, and then evaluates its initialiser
abbrev pub DeclarationsBegin : Type 0
DeclarationsBegin =
    (type : BareType) (name : Bytes) (e : Expression) (n : ℕ) (ps : List Piece)
    → (local (Do (made.Declare type name None) n ∷ ps) ≡ declare type name (local ps))
    × (local (Do (made.Declare type name (Some e)) n ∷ ps)
    ≡ declare type name (local (Compute e n ∷ Set (made.Local name) (n + size e) ∷ Drop ∷ ps)))

-- a test takes one of two ways by the newest value
abbrev pub TestsChoose : Type 0
TestsChoose =
    (a b : Expression) (s t : Statement) (n : ℕ) (v : Value) (values : List Value) (scopes : Scopes) (ps : List Piece)
    → (local (AndThen b n ∷ ps) (v ∷ values) scopes
    ≡ (if is_true v then local (Compute b n ∷ Truth ∷ ps) else local (Push (int_of 0) ∷ ps)) values scopes)
    × (local (OrElse b n ∷ ps) (v ∷ values) scopes
    ≡ (if is_true v then local (Push (int_of 1) ∷ ps) else local (Compute b n ∷ Truth ∷ ps)) values scopes)
    × (local (Choose a b n ∷ ps) (v ∷ values) scopes
    ≡ (if is_true v then local (Compute a n ∷ ps) else local (Compute b (n + size a) ∷ ps)) values scopes)
    × (local (Then s n ∷ ps) (v ∷ values) scopes ≡ (if is_true v then local (Do s n ∷ ps) else local ps) values scopes)
    × (local (ThenElse s t n ∷ ps) (v ∷ values) scopes
    ≡ (if is_true v then local (Do s n ∷ ps) else local (Do t (n + size_stmt s) ∷ ps)) values scopes)
    × (local (Until s a n ∷ ps) ≡ local (Compute a (n + size_stmt s) ∷ Repeat s a n ∷ ps))
    × (local (Repeat s a n ∷ ps) (v ∷ values) scopes
    ≡ (if is_true v then local (At stop.Back (n + size_stmt s + size a) ∷ Do (made.DoWhile s a) n ∷ ps) else local ps) values scopes)

-- statements are done in order
abbrev pub StatementsInOrder : Type 0
StatementsInOrder =
    (s : Statement) (ss : Statements) (n : ℕ) (ps : List Piece)
    → local (Sequence (StatementThen s ss) n ∷ ps) ≡ local (Do s n ∷ Sequence ss (n + size_stmt s) ∷ ps)

-- a block and a `for` loop open a scope, which is closed after them
abbrev pub BlocksHaveScopes : Type 0
BlocksHaveScopes =
    (ss : Statements) (n : ℕ) (ps : List Piece)
    → local (Do (made.Block ss) n ∷ ps) ≡ open_scope (local (Sequence ss n ∷ Close ∷ ps))

abbrev pub ForHasAScope : Type 0
ForHasAScope =
    (ss : Statements) (test step : Option Expression) (s : Statement) (n : ℕ) (ps : List Piece)
    → local (Do (made.For ss test step s) n ∷ ps)
    ≡ open_scope (local (Sequence ss n ∷ LoopTest (loop_of test step s (n + size_stmts ss)) ∷ Close ∷ ps))

-- a loop turns where its test holds: its body, its step, and a stop at its back edge, after which it goes on
abbrev pub LoopsTurn : Type 0
LoopsTurn =
    (l : Loop) (c e : Expression) (v : Value) (values : List Value) (scopes : Scopes) (ps : List Piece)
    → (local (LoopTest (record l { test = Some c }) ∷ ps)
    ≡ local (Compute c l.first ∷ Turn (record l { test = Some c }) ∷ ps))
    × (local (LoopTest (record l { test = None }) ∷ ps)
    ≡ local (Do l.body (body_at (record l { test = None })) ∷ AfterBody (record l { test = None }) ∷ ps))
    × (local (Turn l ∷ ps) (v ∷ values) scopes
    ≡ (if is_true v then local (Do l.body (body_at l) ∷ AfterBody l ∷ ps) else local ps) values scopes)
    × (local (AfterBody (record l { step = Some e }) ∷ ps)
    ≡ local (Compute e (step_at l) ∷ Drop ∷ BackEdge (record l { step = Some e }) ∷ ps))
    × (local (AfterBody (record l { step = None }) ∷ ps) ≡ local (BackEdge (record l { step = None }) ∷ ps))
    × (local (BackEdge l ∷ ps) ≡ local (At stop.Back (back_at l) ∷ LoopTest l ∷ ps))

-- in a loop's body a `break` goes after the loop and a `continue` to its step; the scopes between are closed
abbrev pub JumpsLeave : Type 0
JumpsLeave =
    (l : Loop) (s : Statements) (m n : ℕ) (ps : List Piece)
    → (local (Do made.Break n ∷ AfterBody l ∷ ps) ≡ local ps)
    × (local (Do made.Continue n ∷ AfterBody l ∷ ps) ≡ local (AfterBody l ∷ ps))
    × (local (Do made.Break n ∷ Sequence s m ∷ Close ∷ AfterBody l ∷ ps) ≡ local (Close ∷ ps))
    × (local (Do made.Continue n ∷ Sequence s m ∷ Close ∷ AfterBody l ∷ ps) ≡ local (Close ∷ AfterBody l ∷ ps))

-- an empty list of arguments or of statements is nothing, and the end of a scope drops its variables
abbrev pub EndsOfLists : Type 0
EndsOfLists =
    (n : ℕ) (values : List Value) (variables : List Variable) (scopes : Scopes) (ps : List Piece)
    → (local (Arguments NoExpressions n ∷ ps) ≡ local ps)
    × (local (Sequence NoStatements n ∷ ps) ≡ local ps)
    × (local (Close ∷ ps) values (variables ∷ scopes) ≡ local ps values scopes)

-- operators, conversions and the other pieces that take the newest values give what they are for; an operator may trap
abbrev pub ValuesChange : Type 0
ValuesChange =
    (un : UnOp) (op : BinOp) (type : BareType) (a b : Value) (values : List Value) (scopes : Scopes) (ps : List Piece)
    → (local (Apply un ∷ ps) (a ∷ values) scopes ≡ settle (unary_result un a) values scopes (local ps))
    × (local (Combine op ∷ ps) (b ∷ a ∷ values) scopes ≡ settle (binary_result op a b) values scopes (local ps))
    × (local (ConvertTo type ∷ ps) (a ∷ values) scopes ≡ local ps (converted_to type a ∷ values) scopes)
    × (local (Truth ∷ ps) (a ∷ values) scopes ≡ local ps (as_truth a ∷ values) scopes)
    × (local (Created ∷ ps) (a ∷ values) scopes ≡ local ps (creation a ∷ values) scopes)
    × (local (Push a ∷ ps) values scopes ≡ local ps (a ∷ values) scopes)
    × (local (Drop ∷ ps) (a ∷ values) scopes ≡ local ps values scopes)

-- the part of an element is its index, that of a field its handle, and the other places have none; it is copied, gets a
-- value under it and comes back under one
abbrev pub PartsOfPlaces : Type 0
PartsOfPlaces =
    (name tag : Bytes) (e : Expression) (n : ℕ) (a b : Value) (values : List Value) (scopes : Scopes) (ps : List Piece)
    → (local (Parts (made.Local name) n ∷ ps) ≡ local ps)
    × (local (Parts (made.Global name) n ∷ ps) ≡ local ps)
    × (local (Parts (made.Element name e) n ∷ ps) ≡ local (Compute e n ∷ ps))
    × (local (Parts (made.Field tag e name) n ∷ ps) ≡ local (Compute e n ∷ ps))
    × (local (Get (made.Local name) n ∷ ps) ≡ load name (local ps))
    × (local (Set (made.Local name) n ∷ ps) ≡ store name (local ps))
    × (local (Dup (made.Element name e) ∷ ps) (a ∷ values) scopes ≡ local ps (a ∷ a ∷ values) scopes)
    × (local (Tuck (made.Element name e) ∷ ps) (a ∷ b ∷ values) scopes ≡ local ps (a ∷ b ∷ a ∷ values) scopes)
    × (local (Swap (made.Element name e) ∷ ps) (a ∷ b ∷ values) scopes ≡ local ps (b ∷ a ∷ values) scopes)
    × (local (Tuck (made.Local name) ∷ ps) (a ∷ values) scopes ≡ local ps (a ∷ a ∷ values) scopes)

-- in the body of `do` a `break` goes after the loop and a `continue` to its condition
abbrev pub JumpsLeaveDo : Type 0
JumpsLeaveDo =
    (s : Statement) (c : Expression) (ss : Statements) (k m n : ℕ) (ps : List Piece)
    → (local (Do made.Break k ∷ Until s c n ∷ ps) ≡ local ps)
    × (local (Do made.Continue k ∷ Until s c n ∷ ps) ≡ local (Until s c n ∷ ps))
    × (local (Do made.Break k ∷ Sequence ss m ∷ Close ∷ Until s c n ∷ ps) ≡ local (Close ∷ ps))
    × (local (Do made.Continue k ∷ Sequence ss m ∷ Close ∷ Until s c n ∷ ps) ≡ local (Close ∷ Until s c n ∷ ps))
