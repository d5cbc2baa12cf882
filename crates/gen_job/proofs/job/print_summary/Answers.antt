use Rattle.std.proofs.Common.{◌∙◌, ap, inl, refl, subst, sym, Some}
use Rattle.std.specs.Io.KnownBytes.{Appends}
use Rattle.reported_runs.proofs.HandedBack.{hands_back}
use Rattle.gen_job.proofs.job.print_summary.Goals as goal

pub returns-in-Ok : goal.returns-in-Ok
returns-in-Ok g c = λ setup.
    let done = c.outcome_of in
    let parts = c.into_parts-answers in
    inl (record {
      status = done.ensures.status ∙ c.ending_status.ensures;
      ending = done.ensures.ending;
      history_is = ap (λ h. h.items) done.ensures.history;
      versions =
          hands_back setup _ (Some c.args.ending) parts.result.1.items done.result.answers.items _ done.result.installed done.ensures.versions
          (c.version-version.ensures setup) (parts.ensures.named setup) (parts.ensures.answered setup);
      out = subst (λ o. Appends (g.O.Sink.told c.args.out) (g.O.Sink.told o) c.args.summary.now) (sym done.ensures.out) c.in-Ok.ensures.bytes;
      err = record { same = refl; quiet = refl };
    })
