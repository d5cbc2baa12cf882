use Rattle.top_call.proofs.top.respond.Goals as goal

pub returns-in-Plain-clause-answers : goal.returns-in-Plain-clause-answers
returns-in-Plain-clause-answers g c = rw c.in-Plain.is c.done.ensures.answers
