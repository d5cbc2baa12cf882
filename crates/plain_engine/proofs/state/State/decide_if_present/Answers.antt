use Rattle.plain_engine.proofs.state.State.decide_if_present.Goals as goal

pub returns-in-Ok-clause-made : goal.returns-in-Ok-clause-made
returns-in-Ok-clause-made g c = λ setup x at going right offered some fits. c.in-Ok.ensures.made setup x at going right offered some (fits.is cc)

pub returns-in-Err-clause-stays : goal.returns-in-Err-clause-stays
returns-in-Err-clause-stays g c = λ setup x at fits. c.in-Err.ensures.stays setup x at (fits.is cc)
