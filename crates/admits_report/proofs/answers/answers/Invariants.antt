use Rattle.std.proofs.Common.{take}
use Rattle.std.specs.List.{AllZip}
use Rattle.admits_report.specs.Answered.{AreAnswersOf}
use Rattle.admits_report.proofs.answers.answers.Given as goal

-- the answers so far are those of the functions so far
abbrev pub invariant-loop-section : goal.invariant-loop-section
invariant-loop-section l = AllZip (AreAnswersOf l.admission) (take l.section-index l.sections) l.answers.items
