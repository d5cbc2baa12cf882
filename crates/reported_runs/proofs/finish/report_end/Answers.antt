use Rattle.std.proofs.Common.{List, inl, refl, subst}
use Rattle.run_types.specs.declared.run.Event.{Event}
use Rattle.source_model.specs.Journals.{answers}
use Rattle.job_answers.specs.Calls.{Shows, output_of}
use Rattle.job_answers.specs.Reports.{run_text}
use Rattle.reported_runs.proofs.finish.report_end.Goals as goal

pub returns-in-Ok : goal.returns-in-Ok
returns-in-Ok g c = λ asks setup x at same.
    inl (record {
      status = c.ending_status.ensures;
      ending = refl;
      shown =
          subst {A = List Event}
          (λ events. Shows (output_of g.E.Sink.told g.E.Sink.faults c.args.err.now c.write_run.new.sink)
          (run_text c.args.journal events (answers setup x) c.args.texts.now c.args.ending x.world))
          c.deref.ensures.value (c.in-Ok.ensures.bytes asks setup x at same);
    })
