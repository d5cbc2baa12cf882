use Rattle.std.proofs.Common.{length, ◌-◌}
use Rattle.c_lexer.specs.Bytes.{continues_word}
use Rattle.c_lexer.specs.Prefixes.{Passes}
use Rattle.c_lexer.specs.Units.{consists_of}
use Rattle.c_lexer.proofs.characters.continue_len.Given as goal

abbrev pub invariant-loop-at : goal.invariant-loop-at
invariant-loop-at l = Passes (consists_of continues_word) l.bytes l.at

abbrev pub decreases-loop-at : goal.decreases-loop-at
decreases-loop-at l = length l.bytes - l.at
