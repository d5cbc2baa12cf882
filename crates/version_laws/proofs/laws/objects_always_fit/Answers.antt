use Rattle.version_laws.proofs.ObjectsOfRuns.{objects_always_fit as law}
use Rattle.version_laws.proofs.laws.objects_always_fit.Goals as goal

pub returns : goal.returns
returns c = law
