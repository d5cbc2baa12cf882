use Rattle.plain_engine.proofs.ahead.PlainEngineAhead.preparation.Goals as goal

pub returns-in-Some : goal.returns-in-Some
returns-in-Some g c = record { prepares = c.preparation_over.ensures c.in-Some.ensures }
