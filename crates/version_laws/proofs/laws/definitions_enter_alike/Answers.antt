use Rattle.version_laws.proofs.EntersAlike.{enters_alike}
use Rattle.version_laws.proofs.laws.definitions_enter_alike.Goals as goal

pub returns : goal.returns
returns c = enters_alike
