use Rattle.plain_engine.specs.Plain.{state_shown}
use Rattle.plain_engine.proofs.Engines.{same_engine}
use Rattle.plain_engine.proofs.ahead.PlainEngineAhead.try_settle.Goals as goal

pub returns-clause-stays : goal.returns-clause-stays
returns-clause-stays g c = λ setup x at.
    let e = c.args.self.now in
    same_engine setup x (state_shown g.M.Machine.shown e.state) e.printed e.written (g.M.Machine.shown c.try_settle.new.self) c.try_settle.ensures.same
    at
