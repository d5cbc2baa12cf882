-- Texts that were read.
use Rattle.c_tree.specs.BareExpr.{Bytes}
use Rattle.c_tree.specs.declared.def.Program.{Program}
use Rattle.c_front.specs.Accepted.{Accepted}

-- a program is what some bytes are accepted as
abbrev pub IsRead : Program → Type 0
IsRead program = (text : Bytes) × Accepted text program
