use Rattle.run_jobs.proofs.replay.replay_events.Goals as goal

pub engine_for-requires : goal.engine_for-requires
engine_for-requires g c = record { accepted = c.requires.accepted.first }

pub replay_compiled-requires-clause-named : goal.replay_compiled-requires-clause-named
replay_compiled-requires-clause-named g c = c.in-Ok-Compiled.ensures.named c.in-Ok-Compiled.field-0-is
