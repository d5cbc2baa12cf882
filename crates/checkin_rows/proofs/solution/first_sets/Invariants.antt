use Rattle.checkin_rows.specs.Steps.{AreFirst}
use Rattle.checkin_rows.proofs.solution.first_sets.Given as goal

abbrev pub invariant-loop-place : goal.invariant-loop-place
invariant-loop-place l = AreFirst l.place l.sets l.first.items
