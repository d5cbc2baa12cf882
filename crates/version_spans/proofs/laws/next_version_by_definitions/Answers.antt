use Rattle.version_spans.proofs.NextEntries.{next_version}
use Rattle.version_spans.proofs.laws.next_version_by_definitions.Goals as goal

pub returns : goal.returns
returns c = next_version
