use Rattle.version_laws.proofs.TableHistories.{first_history}
use Rattle.version_laws.proofs.laws.first_table_is_a_history.Goals as goal

pub returns : goal.returns
returns c = first_history
