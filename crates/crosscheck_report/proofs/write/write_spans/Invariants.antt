use Rattle.std.proofs.Common.{◌≤◌, map, take}
use Rattle.std.specs.List.{flat_map}
use Rattle.std.specs.Io.KnownBytes.{Appends}
use Rattle.version_spans.specs.Kept.{span_of}
use Rattle.crosscheck_report.specs.CrosscheckLines.{span_line}
use Rattle.crosscheck_report.proofs.write.write_spans.Given as goal

-- the faults haven't fallen, and the lines so far were appended
abbrev pub invariant-loop-span : goal.invariant-loop-span
invariant-loop-span g l =
    (g.S.Sink.faults l.initial.sink ≤ g.S.Sink.faults l.sink)
    × Appends (g.S.Sink.told l.initial.sink) (g.S.Sink.told l.sink) (flat_map span_line (take l.span-index (map span_of l.spans)))
