use Rattle.std.proofs.Common.{◌≡◌, take, true}
use Rattle.std.specs.List.{list_all}
use Rattle.c_lexer.specs.Bytes.{stays_in_line}
use Rattle.c_lexer.proofs.comments.line_len.Given as goal

abbrev pub invariant-loop-len : goal.invariant-loop-len
invariant-loop-len l = list_all stays_in_line (take l.len l.bytes) ≡ true
