use Rattle.plain_engine.proofs.events.PlainEngineEngine.due.Goals as goal

pub returns : goal.returns
returns g c = λ setup x at. c.due.ensures setup x c.args.self.now.state.installed.names at.state.book at.written
