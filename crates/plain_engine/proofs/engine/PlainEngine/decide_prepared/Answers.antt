use Rattle.std.proofs.Common.{◌≡◌, ◌≤◌, Err, ap, sym, subst}
use Rattle.run_types.specs.declared.run.Event.TheVariants.{Decide}
use Rattle.dsu_runs.specs.declared.engine.Undecided.TheVariants.{Misused}
use Rattle.dsu_runs.specs.Engines.{MakesAt}
use Rattle.plain_engine.specs.Plain.{IsEngineAt, state_shown}
use Rattle.plain_engine.proofs.Deciding.{some_there}
use Rattle.plain_engine.proofs.Engines.{comes, is_written}
use Rattle.plain_engine.proofs.engine.PlainEngine.decide_prepared.Goals as goal

pub returns-in-Ok-Some-clause-made : goal.returns-in-Ok-Some-clause-made
returns-in-Ok-Some-clause-made g c = λ setup x at fits.
    let e = c.args.self.now in
    let told = g.S.Sink.told e.sink in
    let new = state_shown g.M.Machine.shown c.decide_prepared.new.self in
    subst (MakesAt (λ y. IsEngineAt setup y new e.printed e.written) setup (Decide c.args.k) x told told) (sym c.made.ensures)
    (comes setup (Decide c.args.k) x (state_shown g.M.Machine.shown e.state) new e.printed e.written told _ at
    (some_there _ c.in-Ok-Some.field-0 c.in-Ok-Some.done c.in-Ok-Some.field-0-is (c.in-Ok-Some.ensures.made setup x at.state fits))
    c.decide_prepared.ensures.kept)

pub returns-in-Ok-Some-clause-written : goal.returns-in-Ok-Some-clause-written
returns-in-Ok-Some-clause-written g c = is_written _ c.made.result c.made.ensures

pub returns-in-Err-clause-stays : goal.returns-in-Err-clause-stays
returns-in-Err-clause-stays g c = λ setup x at fits.
    record {
      state = c.in-Err.ensures.stays setup x at.state fits;
      kept = subst (λ n. n ≤ c.args.self.now.printed) (sym c.decide_prepared.ensures.kept) at.kept;
      printed = at.printed;
      written = at.written;
    }

pub returns-in-Err-clause-misused : goal.returns-in-Err-clause-misused
returns-in-Err-clause-misused g c = λ e setup x at.
    let same : c.in-Err.why ≡ Misused = cc in
    c.in-Err.ensures.misused (ap Err same) setup x at.state
