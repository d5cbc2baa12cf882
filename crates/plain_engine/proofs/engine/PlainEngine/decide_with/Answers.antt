use Rattle.std.proofs.Common.{◌≡◌, ◌≤◌, Err, ap, refl, sym, subst}
use Rattle.run_types.specs.declared.run.Event.TheVariants.{Decide}
use Rattle.dsu_runs.specs.declared.engine.Undecided.TheVariants.{Misused, UndefinedName}
use Rattle.dsu_runs.specs.Engines.{MakesAt}
use Rattle.plain_engine.specs.Plain.{IsEngineAt, state_shown}
use Rattle.plain_engine.proofs.Engines.{comes, is_written_ok}
use Rattle.plain_engine.proofs.engine.PlainEngine.decide_with.Goals as goal

pub returns-in-Ok-clause-made : goal.returns-in-Ok-clause-made
returns-in-Ok-clause-made g c = λ setup x of at.
    let e = c.args.self.now in
    let told = g.S.Sink.told e.sink in
    let new = state_shown g.M.Machine.shown c.decide_with.new.self in
    subst (MakesAt (λ y. IsEngineAt setup y new e.printed e.written) setup (Decide c.args.k) x told told) (sym c.made.ensures)
    (comes setup (Decide c.args.k) x (state_shown g.M.Machine.shown e.state) new e.printed e.written told _ at
    (c.in-Ok.ensures.made setup x of at.state) c.decide_with.ensures.kept)

pub returns-in-Ok-clause-written : goal.returns-in-Ok-clause-written
returns-in-Ok-clause-written g c = is_written_ok _ c.made.result _ c.made.ensures refl

pub returns-in-Err-clause-stays : goal.returns-in-Err-clause-stays
returns-in-Err-clause-stays g c = λ setup x of at.
    record {
      state = c.in-Err.ensures.stays setup x of at.state;
      kept = subst (λ n. n ≤ c.args.self.now.printed) (sym c.decide_with.ensures.kept) at.kept;
      printed = at.printed;
      written = at.written;
    }

pub returns-in-Err-clause-misused : goal.returns-in-Err-clause-misused
returns-in-Err-clause-misused g c = λ e setup x at.
    let same : c.in-Err.why ≡ Misused = cc in
    c.in-Err.ensures.misused (ap Err same) setup x at.state

pub returns-in-Err-clause-undefined : goal.returns-in-Err-clause-undefined
returns-in-Err-clause-undefined g c = λ e setup x at.
    let same : c.in-Err.why ≡ UndefinedName = cc in
    c.in-Err.ensures.undefined (ap Err same) setup x at.state
