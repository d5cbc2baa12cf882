use Rattle.version_spans.proofs.Tables.{tables_of_runs as law}
use Rattle.version_spans.proofs.laws.tables_of_runs.Goals as goal

pub returns : goal.returns
returns c = law
