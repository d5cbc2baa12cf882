use Rattle.plain_engine.proofs.events.PlainEngineEngine.offers.Goals as goal

pub returns : goal.returns
returns g c = λ setup x at. c.len.ensures setup x c.args.self.now.state.installed.names at.state.book
