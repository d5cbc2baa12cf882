use Rattle.version_laws.proofs.TableHistories.{next_history}
use Rattle.version_laws.proofs.laws.next_table_is_a_history.Goals as goal

pub returns : goal.returns
returns c = next_history
