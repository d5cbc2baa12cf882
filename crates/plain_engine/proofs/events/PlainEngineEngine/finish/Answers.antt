use Rattle.source_model.specs.JournalLaws.{texts_of}
use Rattle.plain_engine.proofs.Standing.{ended_so}
use Rattle.plain_engine.proofs.events.PlainEngineEngine.finish.Goals as goal

pub returns : goal.returns
returns g c = λ setup x at.
    ended_so setup x (g.M.Machine.shown c.args.self.now.state.run) c.ending.result at.state.run
    (c.ending.ensures (texts_of setup) setup.limits at.state.run.moves at.state.run.run)
