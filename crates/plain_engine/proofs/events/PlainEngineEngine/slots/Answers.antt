use Rattle.std.proofs.Common.{sym}
use Rattle.plain_engine.proofs.events.PlainEngineEngine.slots.Goals as goal

pub returns : goal.returns
returns g c = λ setup x at. sym at.state.seats.many
