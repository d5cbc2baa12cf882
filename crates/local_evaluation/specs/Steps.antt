-- The pieces of which a piece is made, before those after it.
use Rattle.std.specs.Prelude.{ℕ, ◌+◌, List, [], ◌∷◌, Option, Some, None}
use Rattle.c_semantics.specs.Values.{Number, int_of, zero_of}
use Rattle.c_semantics.specs.Resolved.{Expression, Expressions, Place, Statement, Statements, Constant, Read, Unary, Binary, Convert, And, Or, Choice, Assign, Update, Postfix, Call, Print, New, Free, Create, Join, JoinInto, InitMutex, Lock, Unlock, NoExpressions, ExpressionThen, Local, Global, Element, Field, Block, Empty, Evaluate, Declare, If, IfElse, While, DoWhile, For, Break, Continue, Return, UpdatePoint, Transaction, NoStatements, StatementThen}
use Rattle.c_semantics.specs.Points.{size, size_all, size_parts, size_read, size_stmt, size_stmts}
use Rattle.c_semantics.specs.Stops as stop
use Rattle.c_semantics.specs.Pieces.{Loop, Piece, Scopes, body_at, step_at, Compute, Arguments, Parts, Get, Set, Dup, Tuck, Swap, Apply, Combine, ConvertTo, Drop, Push, Created, AndThen, OrElse, Choose, Then, ThenElse, Turn, Do, Sequence, Close, LoopTest, AfterBody, BackEdge, Until, At}
use Rattle.c_semantics.specs.Evaluation.{count, loop_of, one, declared}

-- an expression whose first point is n
abbrev pub expression_pieces : Expression → ℕ → List Piece → List Piece
expression_pieces (Constant v) n rest = Push (Number v) ∷ rest
expression_pieces (Read p) n rest = Parts p n ∷ Get p (n + size_parts p) ∷ rest
expression_pieces (Unary op a) n rest = Compute a n ∷ Apply op ∷ rest
expression_pieces (Binary op a b) n rest = Compute a n ∷ Compute b (n + size a) ∷ Combine op ∷ rest
expression_pieces (Convert type a) n rest = Compute a n ∷ ConvertTo type ∷ rest
expression_pieces (And a b) n rest = Compute a n ∷ AndThen b (n + size a) ∷ rest
expression_pieces (Or a b) n rest = Compute a n ∷ OrElse b (n + size a) ∷ rest
expression_pieces (Choice c a b) n rest = Compute c n ∷ Choose a b (n + size c) ∷ rest
expression_pieces (Assign p e) n rest =
    let m = n + size_parts p in Parts p n ∷ Compute e m ∷ Set p (m + size e) ∷ rest
expression_pieces (Update type op p e) n rest =
    let r = n + size_parts p in
    let m = r + size_read p in
    Parts p n ∷ Dup p ∷ Get p r ∷ Compute e m ∷ Combine op ∷ ConvertTo type ∷ Set p (m + size e) ∷ rest
expression_pieces (Postfix type op p) n rest =
    let r = n + size_parts p in
    Parts p n ∷ Dup p ∷ Get p r ∷ Tuck p ∷ Push one ∷ Combine op ∷ ConvertTo type ∷ Set p (r + size_read p) ∷ Drop ∷ rest
expression_pieces (Call name es) n rest = Arguments es n ∷ At (stop.Call name (count es)) (n + size_all es) ∷ rest
expression_pieces (Print format es) n rest = Arguments es n ∷ At (stop.Print format (count es)) (n + size_all es) ∷ rest
expression_pieces (New tag) n rest = At (stop.New tag) n ∷ rest
expression_pieces (Free tag e) n rest = Compute e n ∷ At (stop.Free tag) (n + size e) ∷ rest
expression_pieces (Create p name e) n rest =
    let m = n + size_parts p in
    let s = m + size e in
    Parts p n ∷ Compute e m ∷ At (stop.Spawn name) s ∷ Set p (s + 1) ∷ Created ∷ rest
expression_pieces (Join e) n rest = Compute e n ∷ At stop.Join (n + size e) ∷ Drop ∷ Push (int_of 0) ∷ rest
expression_pieces (JoinInto e p) n rest =
    let m = n + size e in
    let j = m + size_parts p in
    Compute e n ∷ Parts p m ∷ Swap p ∷ At stop.Join j ∷ Set p (j + 1) ∷ Drop ∷ Push (int_of 0) ∷ rest
expression_pieces (InitMutex name) n rest = At (stop.InitMutex name) n ∷ rest
expression_pieces (Lock name) n rest = At (stop.Lock name) n ∷ rest
expression_pieces (Unlock name) n rest = At (stop.Unlock name) n ∷ rest

-- arguments
abbrev pub arguments_pieces : Expressions → ℕ → List Piece → List Piece
arguments_pieces NoExpressions n rest = rest
arguments_pieces (ExpressionThen e es) n rest = Compute e n ∷ Arguments es (n + size e) ∷ rest

-- the parts of a place
abbrev pub place_pieces : Place → ℕ → List Piece → List Piece
place_pieces (Local name) n rest = rest
place_pieces (Global name) n rest = rest
place_pieces (Element name index) n rest = Compute index n ∷ rest
place_pieces (Field tag handle name) n rest = Compute handle n ∷ rest

-- a statement that doesn't jump
abbrev pub statement_pieces : Statement → ℕ → List Piece → List Piece
statement_pieces (Block ss) n rest = Sequence ss n ∷ Close ∷ rest
statement_pieces Empty n rest = rest
statement_pieces (Evaluate e) n rest = Compute e n ∷ Drop ∷ rest
statement_pieces (Declare type name None) n rest = rest
statement_pieces (Declare type name (Some e)) n rest = Compute e n ∷ Set (Local name) (n + size e) ∷ Drop ∷ rest
statement_pieces (If c s) n rest = Compute c n ∷ Then s (n + size c) ∷ rest
statement_pieces (IfElse c a b) n rest = Compute c n ∷ ThenElse a b (n + size c) ∷ rest
statement_pieces (While c s) n rest = LoopTest (loop_of (Some c) None s n) ∷ rest
statement_pieces (DoWhile s c) n rest = Do s n ∷ Until s c n ∷ rest
statement_pieces (For first test step s) n rest =
    Sequence first n ∷ LoopTest (loop_of test step s (n + size_stmts first)) ∷ Close ∷ rest
statement_pieces Break n rest = rest
statement_pieces Continue n rest = rest
statement_pieces (Return e) n rest = Compute e n ∷ At stop.Return (n + size e) ∷ rest
statement_pieces UpdatePoint n rest = At stop.Update n ∷ rest
statement_pieces (Transaction ss) n rest =
    At stop.Begin n ∷ Do (Block ss) (n + 2) ∷ At stop.End (n + 2 + size_stmts ss) ∷ rest

-- its scopes: a block and a `for` loop open one, and a declaration begins with zero each time it is run
abbrev pub statement_scopes : Statement → Scopes → Scopes
statement_scopes (Block ss) scopes = [] ∷ scopes
statement_scopes (For first test step s) scopes = [] ∷ scopes
statement_scopes (Declare type name e) scopes = declared name (zero_of type) scopes
statement_scopes _ scopes = scopes

-- statements
abbrev pub statements_pieces : Statements → ℕ → List Piece → List Piece
statements_pieces NoStatements n rest = rest
statements_pieces (StatementThen s ss) n rest = Do s n ∷ Sequence ss (n + size_stmt s) ∷ rest

-- a loop from its test on, and what comes after its body
abbrev pub loop_test_pieces : Loop → Option Expression → List Piece → List Piece
loop_test_pieces l None rest = Do l.body (body_at l) ∷ AfterBody l ∷ rest
loop_test_pieces l (Some c) rest = Compute c l.first ∷ Turn l ∷ rest

abbrev pub after_body_pieces : Loop → Option Expression → List Piece → List Piece
after_body_pieces l None rest = BackEdge l ∷ rest
after_body_pieces l (Some e) rest = Compute e (step_at l) ∷ Drop ∷ BackEdge l ∷ rest
