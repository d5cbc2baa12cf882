use Rattle.accepted_runs.proofs.SoundRuns.{accepted_runs_are_sound}
use Rattle.accepted_runs.proofs.laws.accepted_runs_are_sound.Goals as goal

pub returns : goal.returns
returns c = accepted_runs_are_sound
