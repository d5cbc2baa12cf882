use Rattle.plain_engine.proofs.Preparing.{preparation_done}
use Rattle.plain_engine.proofs.ahead.PlainEngineAhead.prepare.Goals as goal

pub returns : goal.returns
returns g c = record {
  prepares = λ setup of.
      preparation_done setup c.args.preparation.now c.prepare.new.self c.prepare.ensures.texts c.prepare.ensures.is of;
}
