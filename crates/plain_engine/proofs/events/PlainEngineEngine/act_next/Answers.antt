use Rattle.plain_engine.proofs.events.PlainEngineEngine.act_next.Goals as goal

pub returns-clause-turned : goal.returns-clause-turned
returns-clause-turned g c = λ asks setup x at.
    c.act_next.ensures.turned asks setup x at.there at.going at.none_open at.fits
