use Rattle.plain_engine.specs.Plain.{state_shown}
use Rattle.plain_engine.proofs.Engines.{works_of}
use Rattle.plain_engine.proofs.ahead.PlainEngineAhead.work.Goals as goal

pub returns : goal.returns
returns g c =
    let e = c.args.self.now in
    record {
      works = works_of (state_shown g.M.Machine.shown e.state) e.printed e.written g.M.LeavesWork.works_for c.work.result c.work.ensures.works;
    }
