use Rattle.std.proofs.Common.{sym, subst}
use Rattle.run_types.specs.declared.run.Event.TheVariants.{Withdraw}
use Rattle.dsu_runs.specs.Engines.{MakesAt}
use Rattle.plain_engine.specs.Plain.{IsEngineAt, state_shown}
use Rattle.plain_engine.proofs.Engines.{comes, is_written}
use Rattle.plain_engine.proofs.engine.PlainEngine.withdraw.Goals as goal

pub returns-clause-made : goal.returns-clause-made
returns-clause-made g c = λ setup x at.
    let e = c.args.self.now in
    let told = g.S.Sink.told e.sink in
    let new = state_shown g.M.Machine.shown c.withdraw.new.self in
    subst (MakesAt (λ y. IsEngineAt setup y new e.printed e.written) setup (Withdraw c.args.k) x told told) (sym c.made.ensures)
    (comes setup (Withdraw c.args.k) x (state_shown g.M.Machine.shown e.state) new e.printed e.written told c.withdraw.result at
    (c.withdraw.ensures.made setup x at.state) c.withdraw.ensures.kept)

pub returns-clause-written : goal.returns-clause-written
returns-clause-written g c = is_written c.withdraw.result c.made.result c.made.ensures
