use Rattle.plain_engine.proofs.ahead.PlainEngineAhead.decide_prepared.Goals as goal

pub returns-clause-misused : goal.returns-clause-misused
returns-clause-misused g c = λ e setup x of at. c.decide_with.ensures.misused e setup x at

pub returns-clause-undefined : goal.returns-clause-undefined
returns-clause-undefined g c = λ e setup x of at. c.decide_with.ensures.undefined e setup x at
