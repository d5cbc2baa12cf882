use Rattle.version_spans.proofs.Tables.{tables_follow as law}
use Rattle.version_spans.proofs.laws.tables_follow.Goals as goal

pub returns : goal.returns
returns c = law
