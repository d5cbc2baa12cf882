use Rattle.c_parser.proofs.ParseAnswers.{complete, stuck, deep}
use Rattle.c_parser.proofs.parser.parse.Goals as goal

pub returns-clause-complete : goal.returns-clause-complete
returns-clause-complete c p r =
    complete _ _ _ c.program.ensures p r

pub returns-clause-stuck : goal.returns-clause-stuck
returns-clause-stuck c k fault least =
    stuck _ _ _ c.program.ensures k fault least

pub returns-clause-deep : goal.returns-clause-deep
returns-clause-deep c k low =
    deep _ _ _ c.program.ensures k low
