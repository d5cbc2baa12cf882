use Rattle.std.proofs.Common.{inr, refl}
use Rattle.reported_runs.proofs.Planned.{no_print_fails, ran_by_schedule, stops_at_no_event}
use Rattle.gen_job.proofs.Summing.{summarized}
use Rattle.gen_job.proofs.job.run_engine.Goals as goal

pub returns-in-Ended : goal.returns-in-Ended
returns-in-Ended g c = λ asks setup accepted at one.
    summarized setup _ _ _ c.args.engine c.solo-ran.result c.rules_exist.ensures c.journal_is_a_run.ensures
    c.accepted_runs_are_version_consistent.ensures c.mains_result_is_an_int.ensures c.deadlocked_threads_wait.ensures accepted
    (ran_by_schedule setup _ _ _ c.args.engine c.solo_schedule_is_prompt.ensures.prompt 1000000 c.solo-ran.result (c.solo-ran.ensures.ran asks setup at))
    c.args.seed c.args.size c.args.texts.now one c.in-Ended.ending c.in-Ended.is c.seats_fit_their_slots.ensures _ (c.summarize.ensures (c.solo-ran.ensures.asked asks) setup)

pub returns-in-Memory : goal.returns-in-Memory
returns-in-Memory g c = λ asks setup accepted at one. inr (inr c.stop.ensures)

pub returns-in-SinkFailed : goal.returns-in-SinkFailed
returns-in-SinkFailed g c = λ asks setup accepted at one.
    absurd (no_print_fails setup _ _ _ c.args.engine 1000000 c.solo-ran.result (λ e. refl) (c.solo-ran.ensures.ran asks setup at) c.in-SinkFailed.is)

pub returns-in-CannotHappen : goal.returns-in-CannotHappen
returns-in-CannotHappen g c = λ asks setup accepted at one.
    absurd (stops_at_no_event setup _ _ _ c.args.engine 1000000 c.solo-ran.result c.in-CannotHappen.line (c.solo-ran.ensures.ran asks setup at) c.in-CannotHappen.is)
