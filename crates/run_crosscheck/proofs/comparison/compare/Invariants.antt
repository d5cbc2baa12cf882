use Rattle.run_crosscheck.proofs.FirstDifferences.{SameBefore}
use Rattle.run_crosscheck.proofs.comparison.compare.Given as goal

abbrev pub invariant-loop-place : goal.invariant-loop-place
invariant-loop-place l = SameBefore l.output l.bytes l.place
