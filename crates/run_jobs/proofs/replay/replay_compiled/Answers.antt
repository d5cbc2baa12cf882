use Rattle.std.proofs.Common.{false, inl}
use Rattle.dsu_runs.specs.Setups.{setup_of}
use Rattle.job_answers.specs.Calls.{output_of}
use Rattle.job_answers.specs.Plans.{ByJournal}
use Rattle.run_jobs.proofs.Outcomes.{handed_in}
use Rattle.run_jobs.proofs.replay.replay_compiled.Goals as goal

pub returns-in-Ok : goal.returns-in-Ok
returns-in-Ok g c =
    let job = c.args.job.now in
    let offers = c.args.offers in
    let setup = setup_of c.args.program offers.programs.items offers.lines.items job.objects in
    inl (handed_in (ByJournal c.args.lines.now) setup false g.O.Sink.told g.O.Sink.faults c.replay_over.result
    (output_of g.E.Sink.told g.E.Sink.faults c.args.err.now c.replay_over.new.err) c.in-Ok.engine.sink c.args.out c.deref.result.now
    offers.texts.items c.as_str.result.now job.journal c.in-Ok.ensures.told c.deref.ensures.value c.as_str.ensures
    (c.replay_over.ensures c.in-Ok.ensures.asked setup c.requires.accepted c.in-Ok.ensures.start))

pub stop_before-requires : goal.stop_before-requires
stop_before-requires g c = c.in-Err.ensures.fault
