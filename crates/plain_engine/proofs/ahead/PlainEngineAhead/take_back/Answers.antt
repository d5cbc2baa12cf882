use Rattle.source_model.specs.JournalLaws.{texts_of}
use Rattle.plain_engine.specs.Plain.{state_shown}
use Rattle.plain_engine.proofs.Engines.{same_engine}
use Rattle.plain_engine.proofs.ahead.PlainEngineAhead.take_back.Goals as goal

pub take_back-requires : goal.take_back-requires
take_back-requires g c =
    let (setup, x, at, works) = c.requires in
    (texts_of setup, setup.limits, at.state.run.moves, at.state.run.run, works)

pub returns-clause-stays : goal.returns-clause-stays
returns-clause-stays g c = λ setup x works at.
    let e = c.args.self.now in
    same_engine setup x (state_shown g.M.Machine.shown e.state) e.printed e.written (g.M.Machine.shown c.take_back.new.self) c.take_back.ensures.same
    at
