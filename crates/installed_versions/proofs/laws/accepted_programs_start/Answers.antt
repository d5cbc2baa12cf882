use Rattle.installed_versions.proofs.Firsts.{accepted_programs_start}
use Rattle.installed_versions.proofs.laws.accepted_programs_start.Goals as goal

pub returns : goal.returns
returns c = accepted_programs_start
