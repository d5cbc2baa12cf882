use Rattle.std.proofs.Common.{◌≤◌, map, take}
use Rattle.std.specs.List.{flat_map}
use Rattle.std.specs.Io.KnownBytes.{Appends}
use Rattle.effects_report.specs.EffectsText.{line_text}
use Rattle.effects_report.specs.Shown.{line_of}
use Rattle.effects_report.proofs.write.put_lines.Given as goal

-- the faults haven't fallen, and the lines so far were appended
abbrev pub invariant-loop-spot : goal.invariant-loop-spot
invariant-loop-spot g l =
    (g.S.Sink.faults l.initial.sink ≤ g.S.Sink.faults l.sink)
    × Appends (g.S.Sink.told l.initial.sink) (g.S.Sink.told l.sink)
    (flat_map (line_text l.lines.text.now) (take l.spot-index (map (line_of l.names l.effects) l.spots)))
