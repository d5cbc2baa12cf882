use Rattle.std.proofs.Common.{◌≡◌, ◌+◌, ◌++◌, ◌≤◌, drop, length, vec_capacity}
use Rattle.code_runs.specs.SharedStops.{printed_from, printed_words}
use Rattle.word_data.specs.Lengths.{longest_from, longest_print}
use Rattle.word_data.proofs.print.print.Given as goal

abbrev pub invariant-loop-byte : goal.invariant-loop-byte
invariant-loop-byte l =
    (l.output.items ++ printed_from l.reading (drop l.byte-index l.byte-items) (drop l.used l.arguments)
    ≡ l.initial.output.items ++ printed_words l.byte-items l.arguments)
    × (length l.output.items + longest_from l.reading (drop l.byte-index l.byte-items)
    ≤ length l.initial.output.items + longest_print l.byte-items)
    × (vec_capacity l.initial.output ≤ vec_capacity l.output)
