use Rattle.dsu_journal.proofs.Reading.{printed_is_read}
use Rattle.dsu_journal.proofs.laws.printed_is_read.Goals as goal

pub returns : goal.returns
returns c = printed_is_read
