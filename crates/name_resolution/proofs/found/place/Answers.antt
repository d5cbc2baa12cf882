use Rattle.name_resolution.proofs.found.place.Goals as goal

pub returns-in_err-nowhere-in-Value-clause-grows : goal.returns-in_err-nowhere-in-Value-clause-grows
returns-in_err-nowhere-in-Value-clause-grows c = c.in_err-nowhere-in-Value.ensures.grows

pub returns-in_ok-nowhere-in-Value-clause-grows : goal.returns-in_ok-nowhere-in-Value-clause-grows
returns-in_ok-nowhere-in-Value-clause-grows c = c.in_ok-nowhere-in-Value.ensures.grows
