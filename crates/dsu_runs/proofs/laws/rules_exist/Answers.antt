use Rattle.dsu_runs.proofs.Happening.{any_are_rows, any_rules}
use Rattle.dsu_runs.proofs.laws.rules_exist.Goals as goal

pub returns : goal.returns
returns c = (any_rules, any_are_rows)
