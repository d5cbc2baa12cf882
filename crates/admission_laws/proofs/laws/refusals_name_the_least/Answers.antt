use Rattle.admission_laws.proofs.NamedRefusals.{refusals_name_the_least}
use Rattle.admission_laws.proofs.AnsweredRefusals.{answered_refusals_name_the_least}
use Rattle.admission_laws.proofs.laws.refusals_name_the_least.Goals as goal

pub returns-clause-verdicts : goal.returns-clause-verdicts
returns-clause-verdicts c = refusals_name_the_least c.rows_admit_without_obstacle.ensures c.least_slot_refuses.ensures

pub returns-clause-answers : goal.returns-clause-answers
returns-clause-answers c =
    answered_refusals_name_the_least (refusals_name_the_least c.rows_admit_without_obstacle.ensures c.least_slot_refuses.ensures)
