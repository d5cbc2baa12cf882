use Rattle.accepted_runs.proofs.SoundRuns.{accepted_runs_are_sound}
use Rattle.accepted_runs.proofs.laws.accepted_runs_misuse_nothing.Goals as goal

pub returns : goal.returns
returns c = λ rules setup events g rows accepted legal.
    c.nothing_is_misused.ensures rules setup events g rows (accepted_runs_are_sound setup accepted) legal
