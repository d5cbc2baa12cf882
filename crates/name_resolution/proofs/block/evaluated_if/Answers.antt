use Rattle.name_resolution.proofs.block.evaluated_if.Goals as goal

pub returns-in_err-id-in-Some-clause-grows : goal.returns-in_err-id-in-Some-clause-grows
returns-in_err-id-in-Some-clause-grows c = c.in_err-id-in-Some.ensures.grows

pub returns-in_ok-id-in-Some-clause-grows : goal.returns-in_ok-id-in-Some-clause-grows
returns-in_ok-id-in-Some-clause-grows c = c.in_ok-id-in-Some.ensures.grows
