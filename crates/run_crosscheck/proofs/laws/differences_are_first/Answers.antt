use Rattle.run_crosscheck.proofs.FirstDifferences.{differences_are_first}
use Rattle.run_crosscheck.proofs.laws.differences_are_first.Goals as goal

pub returns : goal.returns
returns c = differences_are_first
