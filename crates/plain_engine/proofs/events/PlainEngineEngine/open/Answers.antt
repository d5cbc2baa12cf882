use Rattle.plain_engine.proofs.events.PlainEngineEngine.open.Goals as goal

pub returns : goal.returns
returns g c = λ setup x at. c.open.ensures setup x c.args.self.now.state.installed.names at.state.book
