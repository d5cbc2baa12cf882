use Rattle.std.proofs.Common.{sym, subst, ◌∙◌}
use Rattle.source_model.specs.JournalLaws.{texts_of}
use Rattle.plain_engine.specs.Seen.{AreSeen}
use Rattle.plain_engine.specs.Plain.{state_shown}
use Rattle.plain_engine.proofs.state.State.decision.Goals as goal

pub returns : goal.returns
returns g c = λ k p.
    let s = state_shown g.M.Machine.shown c.args.self.now in
    let seen = c.seats_seen-seats in
    record {
      versions = p.versions;
      next = p.next;
      seats = seen.result;
      at = p.at;
      seen =
          subst (λ ns. AreSeen s.run.words ns s.installed.count s.seats seen.result) c.names-names.ensures
          (subst (λ n. AreSeen s.run.words c.names-names.result.now n s.seats seen.result) c.count.ensures seen.ensures.kept);
      within = λ setup x at. seen.ensures.within (texts_of setup) setup.limits at.moves x.world at.run at.world;
      says =
          c.decide_prepared.ensures p.versions p.next (p.at.same.names_are ∙ sym c.names-names.ensures)
          (p.at.same.bodies_are ∙ sym c.store.ensures) p.is;
    }
