-- What a thread has still to evaluate, as a list of pieces of its function's tree.
use Rattle.std.specs.Prelude.{ℕ, ◌+◌, List, Option}
use Rattle.run_types.specs.declared.trap.TrapKind.{TrapKind}
use Rattle.c_ints.specs.declared.operator.BinOp.{BinOp}
use Rattle.c_ints.specs.declared.operator.UnOp.{UnOp}
use Rattle.c_tree.specs.BareExpr.{Bytes, BareType}
use Rattle.c_semantics.specs.Values.{Value}
use Rattle.c_semantics.specs.Resolved.{Expression, Expressions, Place, Statement, Statements}
use Rattle.c_semantics.specs.Stops.{Stop}
use Rattle.c_semantics.specs.Points.{size_if, size_stmt}

-- a `while` or `for` loop after its first part, with the number of its first point
pub record Loop : Type 0 where
  pub test : Option Expression
  pub step : Option Expression
  pub body : Statement
  pub first : ℕ

-- the number of the body's first point, of the step's, and of the back edge
abbrev pub body_at : Loop → ℕ
body_at l = l.first + size_if l.test

abbrev pub step_at : Loop → ℕ
step_at l = body_at l + size_stmt l.body

abbrev pub back_at : Loop → ℕ
back_at l = step_at l + size_if l.step

-- a piece; a number is that of the first point of what it is about
pub data Piece : Type 0 where
  -- a tree that leaves its value, arguments that leave theirs, the parts of a place
  Compute : Expression → ℕ → Piece
  Arguments : Expressions → ℕ → Piece
  Parts : Place → ℕ → Piece
  -- the read and the write of a place whose parts are the newest values; a written value stays
  Get : Place → ℕ → Piece
  Set : Place → ℕ → Piece
  -- a copy of the place's parts; a copy of the newest value under them; the newest value under its parts comes up
  Dup : Place → Piece
  Tuck : Place → Piece
  Swap : Place → Piece
  -- operators and conversions of the newest values, a value that is dropped, a value that is put there
  Apply : UnOp → Piece
  Combine : BinOp → Piece
  ConvertTo : BareType → Piece
  Drop : Piece
  Push : Value → Piece
  -- whether the newest value is true, as an int; what thrd_create gives for the handle that it stored
  Truth : Piece
  Created : Piece
  -- tests of the newest value: after the left side of `&&` and `||`, of `?:`, of `if`, of a loop, of `do`
  AndThen : Expression → ℕ → Piece
  OrElse : Expression → ℕ → Piece
  Choose : Expression → Expression → ℕ → Piece
  Then : Statement → ℕ → Piece
  ThenElse : Statement → Statement → ℕ → Piece
  Turn : Loop → Piece
  Repeat : Statement → Expression → ℕ → Piece
  -- a statement, the rest of a block, and the end of a scope
  Do : Statement → ℕ → Piece
  Sequence : Statements → ℕ → Piece
  Close : Piece
  -- a loop from its test on, what comes after its body, and its back edge; what comes after the body of `do`
  LoopTest : Loop → Piece
  AfterBody : Loop → Piece
  BackEdge : Loop → Piece
  Until : Statement → Expression → ℕ → Piece
  -- a stop at the point of that number
  At : Stop → ℕ → Piece

-- a local variable
pub record Variable : Type 0 where
  pub name : Bytes
  pub value : Value

-- the variables of a frame by scope, the innermost scope first
abbrev pub Scopes : Type 0
Scopes = List (List Variable)

-- how local evaluation ends: before a stop at the point of that number, with the pieces after it, the values and
-- the scopes; with a trap; or with nothing left to do
pub data Halt : Type 0 where
  Stopped : Stop → ℕ → List Piece → List Value → Scopes → Halt
  Trapped : TrapKind → Halt
  Nothing : Halt
