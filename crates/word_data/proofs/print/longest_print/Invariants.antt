use Rattle.std.proofs.Common.{◌≡◌, ◌+◌, ◌≤◌, drop}
use Rattle.word_data.specs.Lengths.{longest_from, longest_print, most_printed}
use Rattle.word_data.proofs.print.longest_print.Given as goal

abbrev pub invariant-loop-byte : goal.invariant-loop-byte
invariant-loop-byte l =
    (l.longest + longest_from l.reading (drop l.byte-index l.byte-items) ≡ longest_print l.byte-items) × (l.longest ≤ most_printed)
