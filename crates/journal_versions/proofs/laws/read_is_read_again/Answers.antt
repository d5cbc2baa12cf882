use Rattle.journal_versions.proofs.Reading.{read_is_read_again}
use Rattle.journal_versions.proofs.laws.read_is_read_again.Goals as goal

pub returns : goal.returns
returns c = read_is_read_again
