use Rattle.accepted_runs.proofs.SoundRuns.{accepted_runs_are_sound}
use Rattle.accepted_runs.proofs.laws.accepted_runs_are_version_consistent.Goals as goal

pub returns : goal.returns
returns c = λ rules setup events g rows accepted legal.
    c.transactions_share_a_version.ensures rules setup events g rows (accepted_runs_are_sound setup accepted) legal
