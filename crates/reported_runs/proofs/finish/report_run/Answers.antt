use Rattle.job_answers.specs.Calls.{output_of}
use Rattle.reported_runs.proofs.Reporting.{cannot_happen, ended, never_misused, never_undefined, out_of_memory, sink_failed}
use Rattle.reported_runs.proofs.finish.report_run.Goals as goal

pub returns-in-Ended : goal.returns-in-Ended
returns-in-Ended g c = λ asks plan setup engine accepted by given installed hands.
    let e = g.T.Engine in
    ended plan setup (e.is_at setup) e.told e.faults engine c.args.ran.now c.rules_exist.ensures c.journal_is_a_run.ensures
    c.accepted_runs_are_version_consistent.ensures c.mains_result_is_an_int.ensures c.deadlocked_threads_wait.ensures accepted by
    c.args.texts.now c.args.journal c.args.file.now c.report_end.result (output_of g.E.Sink.told g.E.Sink.faults c.args.err.now c.report_end.new.err)
    given installed hands c.seats_fit_their_slots.ensures
    c.in-Ended.ending c.in-Ended.is (c.report_end.ensures asks setup)

pub returns-in-SinkFailed : goal.returns-in-SinkFailed
returns-in-SinkFailed g c = λ asks plan setup engine accepted by given installed hands.
    let e = g.T.Engine in
    sink_failed plan setup (e.is_at setup) e.told e.faults engine c.args.ran.now c.rules_exist.ensures c.journal_is_a_run.ensures
    c.accepted_runs_are_version_consistent.ensures c.mains_result_is_an_int.ensures c.deadlocked_threads_wait.ensures accepted by
    c.args.texts.now c.args.journal c.args.file.now c.fail.result (output_of g.E.Sink.told g.E.Sink.faults c.args.err.now c.fail.new.err)
    given installed hands c.in-SinkFailed.is
    (record { status_is = c.fail.ensures.status; ending = c.fail.ensures.ending; shown = c.fail.ensures.err })

pub returns-in-CannotHappen : goal.returns-in-CannotHappen
returns-in-CannotHappen g c = λ asks plan setup engine accepted by given installed hands.
    let e = g.T.Engine in
    let f = c.fail-in-CannotHappen in
    cannot_happen plan setup (e.is_at setup) e.told e.faults engine c.args.ran.now c.rules_exist.ensures c.journal_is_a_run.ensures
    c.accepted_runs_are_version_consistent.ensures c.mains_result_is_an_int.ensures c.deadlocked_threads_wait.ensures accepted by
    c.args.texts.now c.args.journal c.args.file.now f.result (output_of g.E.Sink.told g.E.Sink.faults c.args.err.now f.new.err)
    given installed hands c.in-CannotHappen.line c.in-CannotHappen.is
    (record { status_is = f.ensures.status; ending = f.ensures.ending; shown = f.ensures.err })

pub returns-in-Memory : goal.returns-in-Memory
returns-in-Memory g c = λ asks plan setup engine accepted by given installed hands.
    let e = g.T.Engine in
    let f = c.fail-in-Memory in
    out_of_memory plan setup (e.is_at setup) e.told e.faults engine c.args.ran.now c.rules_exist.ensures c.journal_is_a_run.ensures
    c.accepted_runs_are_version_consistent.ensures c.mains_result_is_an_int.ensures c.deadlocked_threads_wait.ensures accepted by
    c.args.texts.now c.args.journal c.args.file.now f.result (output_of g.E.Sink.told g.E.Sink.faults c.args.err.now f.new.err)
    given installed hands c.in-Memory.is
    (record { status_is = f.ensures.status; ending = f.ensures.ending; shown = f.ensures.err })

pub returns-in-Misused : goal.returns-in-Misused
returns-in-Misused g c = λ asks plan setup engine accepted by given installed hands.
    let e = g.T.Engine in
    absurd (never_misused plan setup (e.is_at setup) e.told e.faults engine c.args.ran.now c.rules_exist.ensures c.journal_is_a_run.ensures
    c.accepted_runs_are_version_consistent.ensures c.mains_result_is_an_int.ensures c.deadlocked_threads_wait.ensures accepted by
    c.in-Misused.line c.in-Misused.is)

pub returns-in-UndefinedName : goal.returns-in-UndefinedName
returns-in-UndefinedName g c = λ asks plan setup engine accepted by given installed hands.
    let e = g.T.Engine in
    absurd (never_undefined plan setup (e.is_at setup) e.told e.faults engine c.args.ran.now c.rules_exist.ensures c.journal_is_a_run.ensures
    c.accepted_runs_are_version_consistent.ensures c.mains_result_is_an_int.ensures c.deadlocked_threads_wait.ensures accepted by
    c.in-UndefinedName.line c.in-UndefinedName.is)
