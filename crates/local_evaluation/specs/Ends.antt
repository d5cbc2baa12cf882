-- The ends of local evaluation that a step of a piece answers in short.
use Rattle.std.specs.Prelude.{ℕ, Option, Some, None}
use Rattle.resolved_tree.specs.declared.node.Place.{Place}
use Rattle.resolved_tree.specs.declared.node.Place.TheVariants.{Local, Global, Element, Field}
use Rattle.local_evaluation.specs.declared.piece.Piece.{Piece}
use Rattle.local_evaluation.specs.declared.piece.Piece.TheVariants as piece
use Rattle.local_evaluation.specs.declared.piece.Stop.TheVariants.{ReadGlobal, WriteGlobal, ReadElement, WriteElement, ReadField, WriteField, Back as BackEdge}
use Rattle.local_evaluation.specs.declared.work.End.{End}
use Rattle.local_evaluation.specs.declared.work.End.TheVariants as ending
use Rattle.local_evaluation.specs.declared.work.Halt.{Halt}
use Rattle.local_evaluation.specs.declared.work.Halt.TheVariants.{At, Trap, Nothing}

-- the stop that the read of a place is; a local variable is read with no stop
abbrev pub shared_read : Place → ℕ → Halt
shared_read (Local name) n = Nothing
shared_read (Global name) n = At (ReadGlobal name) n
shared_read (Element name index) n = At (ReadElement name) n
shared_read (Field tag handle name) n = At (ReadField tag name) n

-- the stop that the write of a place is
abbrev pub shared_write : Place → ℕ → Halt
shared_write (Local name) n = Nothing
shared_write (Global name) n = At (WriteGlobal name) n
shared_write (Element name index) n = At (WriteElement name) n
shared_write (Field tag handle name) n = At (WriteField tag name) n

-- the stop that a piece is: its own, or the access of a place
abbrev pub own_stop : Piece → Halt
own_stop (piece.At s n) = At s n
own_stop (piece.Get p n) = shared_read p n
own_stop (piece.Set p n) = shared_write p n
own_stop _ = Nothing

-- how local evaluation ends where the step of a piece ends it
abbrev pub halt_of : Piece → End → Halt
halt_of p ending.Here = own_stop p
halt_of p (ending.Back n) = At BackEdge n
halt_of p (ending.Trap kind) = Trap kind
halt_of p ending.Nothing = Nothing

-- the same where the step may also let it go on
abbrev pub ended : Piece → Option End → Option Halt
ended p None = None
ended p (Some end) = Some (halt_of p end)
