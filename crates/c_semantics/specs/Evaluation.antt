-- Local evaluation: a thread's private work up to its next stop. Operands and arguments are evaluated from left to
-- right, an assignment evaluates its place, then its value, and stores.
--
-- It is a recursion on the trees with a continuation. `rest` is what a stop leaves pending, and `k` is what `rest`
-- means. It ends, since a loop's back edge is a stop.
use Rattle.std.specs.Prelude.{ℕ, suc, ◌+◌, Bool, true, false, List, [], ◌∷◌, Option, Some, None, option_map, Result, Ok, Err, find, bytes_eq, if◌then◌else◌}
use Rattle.std.specs.Option.{is_some, option_or}
use Rattle.c_ints.specs.declared.operator.ArithTrap.{ArithTrap}
use Rattle.c_ints.specs.declared.operator.BinOp.{BinOp}
use Rattle.c_ints.specs.declared.operator.UnOp.{UnOp}
use Rattle.c_ints.specs.Arithmetic.{truth}
use Rattle.run_types.specs.Trap.{trap_of}
use Rattle.c_tree.specs.BareExpr.{Bytes, BareType}
use Rattle.c_semantics.specs.Values.{Value, Number, Started, int_of, zero_of, converted_to, is_true, binary_result, unary_result}
use Rattle.c_semantics.specs.Resolved.{Expression, Expressions, Place, Statement, Statements, Constant, Read, Unary, Binary, Convert, And, Or, Choice, Assign, Update, Postfix, Call, Print, New, Free, Create, Join, JoinInto, InitMutex, Lock, Unlock, NoExpressions, ExpressionThen, Local, Global, Element, Field, Block, Empty, Evaluate, Declare, If, IfElse, While, DoWhile, For, Break, Continue, Return, UpdatePoint, Transaction, NoStatements, StatementThen}
use Rattle.c_semantics.specs.Points.{size, size_if, size_all, size_parts, size_read, size_stmt, size_stmts}
use Rattle.c_semantics.specs.Pieces.{Loop, Piece, Variable, Scopes, Halt, body_at, step_at, back_at, Compute, Arguments, Parts, Get, Set, Dup, Tuck, Swap, Apply, Combine, ConvertTo, Drop, Push, Truth, Created, AndThen, OrElse, Choose, Then, ThenElse, Turn, Repeat, Do, Sequence, Close, LoopTest, AfterBody, BackEdge, Until, At, Stopped, Trapped, Nothing}
use Rattle.c_semantics.specs.Stops.{Stop}
use Rattle.c_semantics.specs.Stops as stop

-- what goes on from the values, the newest first, and the scopes
abbrev pub Next : Type 0
Next = List Value → Scopes → Halt

-- where control goes: on, at a `break`, at a `continue`
pub record Ways : Type 0 where
  pub on : Next
  pub broken : Next
  pub continued : Next

-- a stop
abbrev pub stop_at : Stop → ℕ → List Piece → Next
stop_at s n rest values scopes = Stopped s n rest values scopes

-- nothing goes on
abbrev pub nothing : Next
nothing values scopes = Nothing

-- a new value
abbrev pub give : Value → Next → Next
give v k values scopes = k (v ∷ values) scopes

-- the newest value replaced
abbrev pub change : (Value → Value) → Next → Next
change f k [] scopes = Nothing
change f k (v ∷ values) scopes = k (f v ∷ values) scopes

-- the newest value dropped
abbrev pub drop : Next → Next
drop k [] scopes = Nothing
drop k (v ∷ values) scopes = k values scopes

-- an operator's value, or its trap
abbrev pub settle : Result Value ArithTrap → List Value → Scopes → Next → Halt
settle (Ok v) values scopes k = k (v ∷ values) scopes
settle (Err trap) values scopes k = Trapped (trap_of trap)

abbrev pub apply : UnOp → Next → Next
apply op k [] scopes = Nothing
apply op k (v ∷ values) scopes = settle (unary_result op v) values scopes k

abbrev pub combine : BinOp → Next → Next
combine op k [] scopes = Nothing
combine op k (b ∷ []) scopes = Nothing
combine op k (b ∷ a ∷ values) scopes = settle (binary_result op a b) values scopes k

-- the first of two ways where the newest value is true, else the second
abbrev pub choose : Next → Next → Next
choose a b [] scopes = Nothing
choose a b (v ∷ values) scopes = (if is_true v then a else b) values scopes

-- the newest value as an int that is 0 or 1
abbrev pub as_truth : Value → Value
as_truth v = Number (truth (is_true v))

-- what thrd_create gives for the handle that it stored: thrd_error (1) where it names no thread, else thrd_success (0)
abbrev pub creation : Value → Value
creation (Started (Some thread)) = int_of 0
creation _ = int_of 1

-- the variable of a name in one scope
abbrev pub in_scope : List Variable → Bytes → Option Value
in_scope variables name = option_map (λ v. v.value) (find (λ v. bytes_eq name v.name) variables)

-- the value of the innermost variable of a name
abbrev pub look_up : Scopes → Bytes → Option Value
look_up [] name = None
look_up (variables ∷ scopes) name = option_or (in_scope variables name) (look_up scopes name)

-- a variable's value in one scope changed, where the name is in it
abbrev pub with_value : Bytes → Value → List Variable → List Variable
with_value name value [] = []
with_value name value (v ∷ vs) =
    if bytes_eq name v.name then record v { value = value } ∷ vs else v ∷ with_value name value vs

-- the value of the innermost variable of a name changed
abbrev pub stored : Bytes → Value → Scopes → Scopes
stored name value [] = []
stored name value (variables ∷ scopes) =
    if is_some (in_scope variables name)
    then with_value name value variables ∷ scopes
    else variables ∷ stored name value scopes

-- a new variable in the innermost scope
abbrev pub declared : Bytes → Value → Scopes → Scopes
declared name value [] = (record { name = name; value = value } ∷ []) ∷ []
declared name value (variables ∷ scopes) = (record { name = name; value = value } ∷ variables) ∷ scopes

-- a declaration, which begins with zero each time it is run
abbrev pub declare : BareType → Bytes → Next → Next
declare type name k values scopes = k values (declared name (zero_of type) scopes)

-- a scope entered and left
abbrev pub open_scope : Next → Next
open_scope k values scopes = k values ([] ∷ scopes)

abbrev pub close_scope : Next → Next
close_scope k values [] = Nothing
close_scope k values (variables ∷ scopes) = k values scopes

-- a local variable read and written; a written value stays
abbrev pub load_value : Option Value → List Value → Scopes → Next → Halt
load_value (Some v) values scopes k = k (v ∷ values) scopes
load_value None values scopes k = Nothing

abbrev pub load : Bytes → Next → Next
load name k values scopes = load_value (look_up scopes name) values scopes k

abbrev pub store : Bytes → Next → Next
store name k [] scopes = Nothing
store name k (v ∷ values) scopes = k (v ∷ values) (stored name v scopes)

-- the read and the write of a place whose parts are the newest values
abbrev pub get : Place → ℕ → List Piece → Next → Next
get (Local name) n rest k = load name k
get (Global name) n rest k = stop_at (stop.ReadGlobal name) n rest
get (Element name index) n rest k = stop_at (stop.ReadElement name) n rest
get (Field tag handle name) n rest k = stop_at (stop.ReadField tag name) n rest

abbrev pub set : Place → ℕ → List Piece → Next → Next
set (Local name) n rest k = store name k
set (Global name) n rest k = stop_at (stop.WriteGlobal name) n rest
set (Element name index) n rest k = stop_at (stop.WriteElement name) n rest
set (Field tag handle name) n rest k = stop_at (stop.WriteField tag name) n rest

-- whether a place has a part, an index or a handle
abbrev pub has_part : Place → Bool
has_part (Local name) = false
has_part (Global name) = false
has_part (Element name index) = true
has_part (Field tag handle name) = true

-- a copy of the newest value
abbrev pub copy : Next → Next
copy k [] scopes = Nothing
copy k (v ∷ values) scopes = k (v ∷ v ∷ values) scopes

-- the two newest values exchanged
abbrev pub swap : Next → Next
swap k [] scopes = Nothing
swap k (a ∷ []) scopes = Nothing
swap k (a ∷ b ∷ values) scopes = k (b ∷ a ∷ values) scopes

-- a copy of the newest value under the one after it
abbrev pub tuck_under : Next → Next
tuck_under k [] scopes = Nothing
tuck_under k (a ∷ []) scopes = Nothing
tuck_under k (a ∷ b ∷ values) scopes = k (a ∷ b ∷ a ∷ values) scopes

-- a copy of a place's part, where it has one
abbrev pub dup : Place → Next → Next
dup p k = if has_part p then copy k else k

-- a copy of the newest value under the place's part
abbrev pub tuck : Place → Next → Next
tuck p k = if has_part p then tuck_under k else copy k

-- the value under the place's part comes up
abbrev pub swap_part : Place → Next → Next
swap_part p k = if has_part p then swap k else k

-- the int 1, by which `x++` and `x--` step
abbrev pub one : Value
one = int_of 1

-- how many arguments there are
abbrev pub count : Expressions → ℕ
count NoExpressions = 0
count (ExpressionThen e es) = suc (count es)

-- an expression whose first point is n, arguments, the parts of a place
abbrev mutual
  pub expression : Expression → ℕ → List Piece → Next → Next
  expression (Constant v) n rest k = give (Number v) k
  expression (Read p) n rest k =
      let m = n + size_parts p in parts p n (Get p m ∷ rest) (get p m rest k)
  expression (Unary op a) n rest k = expression a n (Apply op ∷ rest) (apply op k)
  expression (Binary op a b) n rest k =
      let m = n + size a in
      expression a n (Compute b m ∷ Combine op ∷ rest) (expression b m (Combine op ∷ rest) (combine op k))
  expression (Convert type a) n rest k = expression a n (ConvertTo type ∷ rest) (change (converted_to type) k)
  expression (And a b) n rest k =
      let m = n + size a in
      expression a n (AndThen b m ∷ rest)
      (choose (expression b m (Truth ∷ rest) (change as_truth k)) (give (int_of 0) k))
  expression (Or a b) n rest k =
      let m = n + size a in
      expression a n (OrElse b m ∷ rest)
      (choose (give (int_of 1) k) (expression b m (Truth ∷ rest) (change as_truth k)))
  expression (Choice c a b) n rest k =
      let m = n + size c in
      expression c n (Choose a b m ∷ rest) (choose (expression a m rest k) (expression b (m + size a) rest k))
  expression (Assign p e) n rest k =
      let m = n + size_parts p in
      let w = m + size e in
      parts p n (Compute e m ∷ Set p w ∷ rest) (expression e m (Set p w ∷ rest) (set p w rest k))
  expression (Update type op p e) n rest k =
      let r = n + size_parts p in
      let m = r + size_read p in
      let w = m + size e in
      let kept = ConvertTo type ∷ Set p w ∷ rest in
      parts p n (Dup p ∷ Get p r ∷ Compute e m ∷ Combine op ∷ kept)
      (dup p (get p r (Compute e m ∷ Combine op ∷ kept)
      (expression e m (Combine op ∷ kept) (combine op (change (converted_to type) (set p w rest k))))))
  expression (Postfix type op p) n rest k =
      let r = n + size_parts p in
      let w = r + size_read p in
      let kept = Tuck p ∷ Push one ∷ Combine op ∷ ConvertTo type ∷ Set p w ∷ Drop ∷ rest in
      parts p n (Dup p ∷ Get p r ∷ kept)
      (dup p (get p r kept
      (tuck p (give one (combine op (change (converted_to type) (set p w (Drop ∷ rest) (drop k))))))))
  expression (Call name arguments) n rest k =
      let m = n + size_all arguments in
      let s = stop.Call name (count arguments) in
      expressions arguments n (At s m ∷ rest) (stop_at s m rest)
  expression (Print format arguments) n rest k =
      let m = n + size_all arguments in
      let s = stop.Print format (count arguments) in
      expressions arguments n (At s m ∷ rest) (stop_at s m rest)
  expression (New tag) n rest k = stop_at (stop.New tag) n rest
  expression (Free tag e) n rest k =
      let m = n + size e in expression e n (At (stop.Free tag) m ∷ rest) (stop_at (stop.Free tag) m rest)
  expression (Create p name e) n rest k =
      let m = n + size_parts p in
      let s = m + size e in
      let kept = Set p (s + 1) ∷ Created ∷ rest in
      parts p n (Compute e m ∷ At (stop.Spawn name) s ∷ kept)
      (expression e m (At (stop.Spawn name) s ∷ kept) (stop_at (stop.Spawn name) s kept))
  expression (Join e) n rest k =
      let m = n + size e in
      let kept = Drop ∷ Push (int_of 0) ∷ rest in
      expression e n (At stop.Join m ∷ kept) (stop_at stop.Join m kept)
  expression (JoinInto e p) n rest k =
      let m = n + size e in
      let j = m + size_parts p in
      let kept = Set p (j + 1) ∷ Drop ∷ Push (int_of 0) ∷ rest in
      expression e n (Parts p m ∷ Swap p ∷ At stop.Join j ∷ kept)
      (parts p m (Swap p ∷ At stop.Join j ∷ kept) (swap_part p (stop_at stop.Join j kept)))
  expression (InitMutex name) n rest k = stop_at (stop.InitMutex name) n rest
  expression (Lock name) n rest k = stop_at (stop.Lock name) n rest
  expression (Unlock name) n rest k = stop_at (stop.Unlock name) n rest

  pub expressions : Expressions → ℕ → List Piece → Next → Next
  expressions NoExpressions n rest k = k
  expressions (ExpressionThen e es) n rest k =
      let m = n + size e in expression e n (Arguments es m ∷ rest) (expressions es m rest k)

  pub parts : Place → ℕ → List Piece → Next → Next
  parts (Local name) n rest k = k
  parts (Global name) n rest k = k
  parts (Element name index) n rest k = expression index n rest k
  parts (Field tag handle name) n rest k = expression handle n rest k

-- only the way on changed
abbrev pub only : Next → Ways → Ways
only next k = record k { on = next }

-- the end of a scope, on each way
abbrev pub closing : Ways → Ways
closing k = record { on = close_scope k.on; broken = close_scope k.broken; continued = close_scope k.continued }

-- the back edge of a loop: after it the loop goes on from its test
abbrev pub back_edge : Loop → List Piece → Next
back_edge l rest = stop_at stop.Back (back_at l) (LoopTest l ∷ rest)

-- what comes after a loop's body: its step, then the back edge
abbrev pub stepped : Loop → Option Expression → List Piece → Next
stepped l None rest = back_edge l rest
stepped l (Some e) rest = expression e (step_at l) (Drop ∷ BackEdge l ∷ rest) (drop (back_edge l rest))

-- the ways of a loop's body: a `continue` goes to the step, a `break` after the loop
abbrev pub looped : Loop → List Piece → Ways → Ways
looped l rest k = record { on = stepped l l.step rest; broken = k.on; continued = stepped l l.step rest }

-- a loop from its test on; `body` is what its body means
abbrev pub tested : Loop → Option Expression → (List Piece → Ways → Next) → List Piece → Ways → Next
tested l None body rest k = body (AfterBody l ∷ rest) (looped l rest k)
tested l (Some c) body rest k =
    expression c l.first (Turn l ∷ rest) (choose (body (AfterBody l ∷ rest) (looped l rest k)) k.on)

abbrev pub loop_test : Loop → (List Piece → Ways → Next) → List Piece → Ways → Next
loop_test l body rest k = tested l l.test body rest k

-- after the body of `do`: its condition, and the back edge where it holds
abbrev pub repeated : Statement → Expression → ℕ → List Piece → Next
repeated s c n rest = stop_at stop.Back (n + size_stmt s + size c) (Do (DoWhile s c) n ∷ rest)

abbrev pub until : Statement → Expression → ℕ → List Piece → Ways → Next
until s c n rest k =
    expression c (n + size_stmt s) (Repeat s c n ∷ rest) (choose (repeated s c n rest) k.on)

-- a `while` or `for` loop after its first part
abbrev pub loop_of : Option Expression → Option Expression → Statement → ℕ → Loop
loop_of test step body n = record { test = test; step = step; body = body; first = n }

-- a statement whose first point is n, and statements in order
abbrev mutual
  pub statement : Statement → ℕ → List Piece → Ways → Next
  statement (Block ss) n rest k = open_scope (sequence ss n (Close ∷ rest) (closing k))
  statement Empty n rest k = k.on
  statement (Evaluate e) n rest k = expression e n (Drop ∷ rest) (drop k.on)
  statement (Declare type name None) n rest k = declare type name k.on
  statement (Declare type name (Some e)) n rest k =
      let w = n + size e in
      declare type name
      (expression e n (Set (Local name) w ∷ Drop ∷ rest) (set (Local name) w (Drop ∷ rest) (drop k.on)))
  statement (If c s) n rest k =
      let m = n + size c in expression c n (Then s m ∷ rest) (choose (statement s m rest k) k.on)
  statement (IfElse c s t) n rest k =
      let m = n + size c in
      expression c n (ThenElse s t m ∷ rest)
      (choose (statement s m rest k) (statement t (m + size_stmt s) rest k))
  statement (While c s) n rest k = loop_test (loop_of (Some c) None s n) (statement s (n + size c)) rest k
  statement (DoWhile s c) n rest k =
      statement s n (Until s c n ∷ rest)
      (record { on = until s c n rest k; broken = k.on; continued = until s c n rest k })
  statement (For first test step s) n rest k =
      let m = n + size_stmts first in
      let l = loop_of test step s m in
      open_scope (sequence first n (LoopTest l ∷ Close ∷ rest)
      (only (loop_test l (statement s (m + size_if test)) (Close ∷ rest) (closing k)) (closing k)))
  statement Break n rest k = k.broken
  statement Continue n rest k = k.continued
  statement (Return e) n rest k =
      let m = n + size e in expression e n (At stop.Return m ∷ rest) (stop_at stop.Return m rest)
  statement UpdatePoint n rest k = stop_at stop.Update n rest
  statement (Transaction ss) n rest k =
      stop_at stop.Begin n (Do (Block ss) (n + 2) ∷ At stop.End (n + 2 + size_stmts ss) ∷ rest)

  pub sequence : Statements → ℕ → List Piece → Ways → Next
  sequence NoStatements n rest k = k.on
  sequence (StatementThen s ss) n rest k =
      let m = n + size_stmt s in statement s n (Sequence ss m ∷ rest) (only (sequence ss m rest k) k)

-- what a pending piece means before the others
abbrev pub piece : Piece → List Piece → Ways → Ways
piece (Compute e n) rest k = only (expression e n rest k.on) k
piece (Arguments es n) rest k = only (expressions es n rest k.on) k
piece (Parts p n) rest k = only (parts p n rest k.on) k
piece (Get p n) rest k = only (get p n rest k.on) k
piece (Set p n) rest k = only (set p n rest k.on) k
piece (Dup p) rest k = only (dup p k.on) k
piece (Tuck p) rest k = only (tuck p k.on) k
piece (Swap p) rest k = only (swap_part p k.on) k
piece (Apply op) rest k = only (apply op k.on) k
piece (Combine op) rest k = only (combine op k.on) k
piece (ConvertTo type) rest k = only (change (converted_to type) k.on) k
piece Drop rest k = only (drop k.on) k
piece (Push v) rest k = only (give v k.on) k
piece Truth rest k = only (change as_truth k.on) k
piece Created rest k = only (change creation k.on) k
piece (AndThen b m) rest k = only (choose (expression b m (Truth ∷ rest) (change as_truth k.on)) (give (int_of 0) k.on)) k
piece (OrElse b m) rest k = only (choose (give (int_of 1) k.on) (expression b m (Truth ∷ rest) (change as_truth k.on))) k
piece (Choose a b m) rest k = only (choose (expression a m rest k.on) (expression b (m + size a) rest k.on)) k
piece (Then s m) rest k = only (choose (statement s m rest k) k.on) k
piece (ThenElse s t m) rest k = only (choose (statement s m rest k) (statement t (m + size_stmt s) rest k)) k
piece (Turn l) rest k = only (choose (statement l.body (body_at l) (AfterBody l ∷ rest) (looped l rest k)) k.on) k
piece (Repeat s c n) rest k = only (choose (repeated s c n rest) k.on) k
piece (Do s n) rest k = only (statement s n rest k) k
piece (Sequence ss n) rest k = only (sequence ss n rest k) k
piece Close rest k = closing k
piece (LoopTest l) rest k = only (loop_test l (statement l.body (body_at l)) rest k) k
piece (AfterBody l) rest k = looped l rest k
piece (BackEdge l) rest k = only (back_edge l rest) k
piece (Until s c n) rest k = record { on = until s c n rest k; broken = k.on; continued = until s c n rest k }
piece (At s n) rest k = only (stop_at s n rest) k

-- what pending pieces mean
abbrev pub ways : List Piece → Ways
ways [] = record { on = nothing; broken = nothing; continued = nothing }
ways (p ∷ ps) = piece p ps (ways ps)

-- local evaluation of pending pieces
abbrev pub local : List Piece → Next
local ps = (ways ps).on
