use Rattle.journal_versions.proofs.Reading.{printed_is_read}
use Rattle.journal_versions.proofs.laws.printed_is_read.Goals as goal

pub returns : goal.returns
returns c = printed_is_read
