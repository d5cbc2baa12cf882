use Rattle.settled_code.proofs.Settling.{sound_settles}
use Rattle.settled_code.proofs.laws.sound_code_settles.Goals as goal

pub returns : goal.returns
returns c = sound_settles
