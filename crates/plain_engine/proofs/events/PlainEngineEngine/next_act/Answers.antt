use Rattle.plain_engine.proofs.events.PlainEngineEngine.next_act.Goals as goal

pub returns : goal.returns
returns g c = λ asks setup x at going same. c.next_act.ensures asks setup x at.state going same
