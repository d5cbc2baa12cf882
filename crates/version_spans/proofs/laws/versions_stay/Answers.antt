use Rattle.version_spans.proofs.NextEntries.{versions_stay as law}
use Rattle.version_spans.proofs.laws.versions_stay.Goals as goal

pub returns : goal.returns
returns c = law
