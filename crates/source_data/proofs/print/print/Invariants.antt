use Rattle.std.proofs.Common.{◌≡◌, ◌++◌, map, drop}
use Rattle.source_model.specs.Printing.{printed, printed_from}
use Rattle.local_evaluation.specs.Values.{seen}
use Rattle.source_data.proofs.print.print.Given as goal

abbrev pub invariant-loop-byte : goal.invariant-loop-byte
invariant-loop-byte l =
    l.output.items ++ printed_from l.reading (drop l.byte-index l.byte-items) (drop l.used (map seen l.arguments))
    ≡ l.initial.output.items ++ printed l.byte-items (map seen l.arguments)
