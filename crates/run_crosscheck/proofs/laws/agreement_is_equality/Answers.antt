use Rattle.run_crosscheck.proofs.FirstDifferences.{agreement_is_equality}
use Rattle.run_crosscheck.proofs.laws.agreement_is_equality.Goals as goal

pub returns : goal.returns
returns c = agreement_is_equality
