use Rattle.plain_engine.specs.Plain.{state_shown}
use Rattle.plain_engine.proofs.Querying.{in_force}
use Rattle.plain_engine.proofs.engine.PlainEngine.in_force.Goals as goal

pub returns : goal.returns
returns g c = λ setup x at.
    let s = state_shown g.M.Machine.shown c.args.self.now.state in in_force setup x s.run s.installed s.last at.state.run at.state.versions
