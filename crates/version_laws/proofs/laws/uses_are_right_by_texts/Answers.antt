use Rattle.version_laws.proofs.TableHistories.{right_by_texts}
use Rattle.version_laws.proofs.laws.uses_are_right_by_texts.Goals as goal

pub returns : goal.returns
returns c = right_by_texts
