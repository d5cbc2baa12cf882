use Rattle.plain_engine.proofs.engine.PlainEngine.is_at_check_in.Goals as goal

pub returns : goal.returns
returns g c = λ setup x at going. c.is_at_check_in.ensures.value x at.state.seats going
