use Rattle.plain_engine.proofs.engine.PlainEngine.is_pinned.Goals as goal

pub returns : goal.returns
returns g c = λ setup x at going. (c.seat.ensures x at.state.seats going).pinned
