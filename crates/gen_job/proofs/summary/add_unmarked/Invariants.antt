use Rattle.std.proofs.Common.{◌≡◌, ◌≤◌, ◌++◌, drop}
use Rattle.job_answers.specs.Generated.{unmarked, unmarked_from}
use Rattle.gen_job.proofs.summary.add_unmarked.Given as goal

-- what is added of the bytes so far, with what the others add, is what all add
abbrev pub invariant-loop-byte : goal.invariant-loop-byte
invariant-loop-byte l =
    (l.summary.items ++ unmarked_from l.column (drop l.byte-index l.report) ≡ l.initial.summary.items ++ unmarked l.report)
    × (l.column ≤ l.byte-index)
