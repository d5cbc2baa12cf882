use Rattle.std.proofs.Common.{length, ◌-◌}
use Rattle.c_lexer.specs.Prefixes.{Skips}
use Rattle.c_lexer.specs.Units.{closes_string}
use Rattle.c_lexer.proofs.quotes.closing_len.Given as goal

abbrev pub invariant-loop-at : goal.invariant-loop-at
invariant-loop-at l = Skips closes_string l.tail l.at

abbrev pub decreases-loop-at : goal.decreases-loop-at
decreases-loop-at l = length l.tail - l.at
