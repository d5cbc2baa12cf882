-- Why an offer isn't decided, where nothing is decided on it.
use Rattle.dsu_runs.specs.declared.engine.Undecided.{Undecided}
use Rattle.dsu_runs.specs.declared.engine.Undecided.TheVariants as why
use Rattle.offer_decision.specs.declared.answer.DecisionFault.{DecisionFault}
use Rattle.offer_decision.specs.declared.answer.DecisionFault.TheVariants.{UndefinedName, Memory}

abbrev pub undecided_by : DecisionFault → Undecided
undecided_by UndefinedName = why.UndefinedName
undecided_by Memory = why.Memory
