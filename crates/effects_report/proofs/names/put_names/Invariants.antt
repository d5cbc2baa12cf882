use Rattle.std.proofs.Common.{◌≤◌}
use Rattle.std.specs.Io.KnownBytes.{Appends}
use Rattle.effects_report.specs.EffectsText.{names_text}
use Rattle.effects_report.specs.Shown.{names_below}
use Rattle.effects_report.proofs.names.put_names.Given as goal

-- the faults haven't fallen, and the names so far were appended
abbrev pub invariant-loop-index : goal.invariant-loop-index
invariant-loop-index g l =
    (g.S.Sink.faults l.initial.sink ≤ g.S.Sink.faults l.sink)
    × Appends (g.S.Sink.told l.initial.sink) (g.S.Sink.told l.sink) (names_text (names_below l.names l.set l.index))
