use Rattle.std.proofs.Common.{◌≡◌}
use Rattle.check_in_places.specs.LineStarts.{starts_to}
use Rattle.check_in_places.proofs.lines.Lines.of.Given as goal

-- where the lines so far begin
abbrev pub invariant-loop-at : goal.invariant-loop-at
invariant-loop-at l = l.starts.items ≡ starts_to l.text l.at
