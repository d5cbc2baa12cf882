use Rattle.version_laws.proofs.RunHistories.{text_is_last}
use Rattle.version_laws.proofs.laws.text_is_the_last.Goals as goal

pub returns : goal.returns
returns c = text_is_last
