use Rattle.std.proofs.Common.{◌≤◌, map, take}
use Rattle.std.specs.List.{flat_map}
use Rattle.std.specs.Io.KnownBytes.{Appends}
use Rattle.effects_report.specs.EffectsText.{block_text}
use Rattle.effects_report.specs.Shown.{block_of}
use Rattle.effects_report.proofs.write.put_sections.Given as goal

-- the faults haven't fallen, and the lines so far were appended
abbrev pub invariant-loop-section : goal.invariant-loop-section
invariant-loop-section g l =
    (g.S.Sink.faults l.initial.sink ≤ g.S.Sink.faults l.sink)
    × Appends (g.S.Sink.told l.initial.sink) (g.S.Sink.told l.sink)
    (flat_map (block_text l.lines.text.now) (take l.section-index (map (block_of l.names l.effects) l.sections)))
