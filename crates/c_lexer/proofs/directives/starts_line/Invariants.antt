use Rattle.std.proofs.Common.{◌≡◌, ◌≤◌}
use Rattle.c_lexer.specs.Bytes.{starts_line}
use Rattle.c_lexer.proofs.directives.starts_line.Given as goal

abbrev pub invariant-loop-before : goal.invariant-loop-before
invariant-loop-before l = record { within : l.before ≤ l.at; same : starts_line l.text l.at ≡ starts_line l.text l.before }

abbrev pub decreases-loop-before : goal.decreases-loop-before
decreases-loop-before l = l.before
