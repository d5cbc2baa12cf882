-- Pending pieces as the definitions have them, with trees in place of numbers.
use Rattle.std.specs.Prelude.{List, map, reverse}
use Rattle.c_semantics.specs.Stops.{Stop}
use Rattle.c_semantics.specs.Stops as stop
use Rattle.c_semantics.specs.Pieces.{Loop, Piece}
use Rattle.c_semantics.specs.Pieces as piece
use Rattle.c_semantics.specs.Resolved as tree
use Rattle.local_evaluation.specs.declared.piece.Stop.{Stop as StopNode}
use Rattle.local_evaluation.specs.declared.piece.Stop.TheVariants.{ReadGlobal, WriteGlobal, ReadElement, WriteElement, ReadField, WriteField, New, Free, Print, InitMutex, Lock, Unlock, Spawn, Join, Call, Return, Back, Begin, End, Update}
use Rattle.local_evaluation.specs.declared.piece.Loop.{Loop as LoopNode}
use Rattle.local_evaluation.specs.declared.piece.Piece.{Piece as PieceNode}
use Rattle.local_evaluation.specs.declared.piece.Piece.TheVariants.{Compute, Arguments, Parts, Get, Set, Dup, Tuck, Swap, Apply, Combine, ConvertTo, Drop, Push, Truth, Created, AndThen, OrElse, Choose, Then, ThenElse, Turn, Repeat, Do, DoBlock, DoWhile, Sequence, Close, LoopTest, AfterBody, BackEdge, Until, At}
use Rattle.resolved_tree.specs.Nodes.{Table, word, expression_at, expression_if, arguments_at, statement_at, statements_at, type_of, place_of}
use Rattle.local_evaluation.specs.Values.{seen}

-- a stop
abbrev pub stop_of : Table → StopNode → Stop
stop_of t (ReadGlobal name) = stop.ReadGlobal (word t name)
stop_of t (WriteGlobal name) = stop.WriteGlobal (word t name)
stop_of t (ReadElement name) = stop.ReadElement (word t name)
stop_of t (WriteElement name) = stop.WriteElement (word t name)
stop_of t (ReadField tag name) = stop.ReadField (word t tag) (word t name)
stop_of t (WriteField tag name) = stop.WriteField (word t tag) (word t name)
stop_of t (New tag) = stop.New (word t tag)
stop_of t (Free tag) = stop.Free (word t tag)
stop_of t (Print format count) = stop.Print (word t format) count
stop_of t (InitMutex name) = stop.InitMutex (word t name)
stop_of t (Lock name) = stop.Lock (word t name)
stop_of t (Unlock name) = stop.Unlock (word t name)
stop_of t (Spawn name) = stop.Spawn (word t name)
stop_of t Join = stop.Join
stop_of t (Call name count) = stop.Call (word t name) count
stop_of t Return = stop.Return
stop_of t Back = stop.Back
stop_of t Begin = stop.Begin
stop_of t End = stop.End
stop_of t Update = stop.Update

-- a loop
abbrev pub loop_of : Table → LoopNode → Loop
loop_of t l = record {
  test = expression_if t l.test;
  step = expression_if t l.step;
  body = statement_at t l.body;
  first = l.first;
}

-- a piece
abbrev pub piece_of : Table → PieceNode → Piece
piece_of t (Compute e n) = piece.Compute (expression_at t e) n
piece_of t (Arguments es n) = piece.Arguments (arguments_at t es) n
piece_of t (Parts p n) = piece.Parts (place_of t p) n
piece_of t (Get p n) = piece.Get (place_of t p) n
piece_of t (Set p n) = piece.Set (place_of t p) n
piece_of t (Dup p) = piece.Dup (place_of t p)
piece_of t (Tuck p) = piece.Tuck (place_of t p)
piece_of t (Swap p) = piece.Swap (place_of t p)
piece_of t (Apply op) = piece.Apply op
piece_of t (Combine op) = piece.Combine op
piece_of t (ConvertTo type) = piece.ConvertTo (type_of t type)
piece_of t Drop = piece.Drop
piece_of t (Push v) = piece.Push (seen v)
piece_of t Truth = piece.Truth
piece_of t Created = piece.Created
piece_of t (AndThen b m) = piece.AndThen (expression_at t b) m
piece_of t (OrElse b m) = piece.OrElse (expression_at t b) m
piece_of t (Choose a b m) = piece.Choose (expression_at t a) (expression_at t b) m
piece_of t (Then s m) = piece.Then (statement_at t s) m
piece_of t (ThenElse a b m) = piece.ThenElse (statement_at t a) (statement_at t b) m
piece_of t (Turn l) = piece.Turn (loop_of t l)
piece_of t (Repeat s c n) = piece.Repeat (statement_at t s) (expression_at t c) n
piece_of t (Do s n) = piece.Do (statement_at t s) n
piece_of t (DoBlock ss n) = piece.Do (tree.Block (statements_at t ss)) n
piece_of t (DoWhile s c n) = piece.Do (tree.DoWhile (statement_at t s) (expression_at t c)) n
piece_of t (Sequence ss n) = piece.Sequence (statements_at t ss) n
piece_of t Close = piece.Close
piece_of t (LoopTest l) = piece.LoopTest (loop_of t l)
piece_of t (AfterBody l) = piece.AfterBody (loop_of t l)
piece_of t (BackEdge l) = piece.BackEdge (loop_of t l)
piece_of t (Until s c n) = piece.Until (statement_at t s) (expression_at t c) n
piece_of t (At s n) = piece.At (stop_of t s) n

-- pending pieces; the newest, which is the first to be done, is the last that is kept
abbrev pub pending : Table → List PieceNode → List Piece
pending t pieces = map (piece_of t) (reverse pieces)
