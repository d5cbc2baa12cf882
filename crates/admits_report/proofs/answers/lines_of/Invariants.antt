use Rattle.std.proofs.Common.{◌≡◌, map, take}
use Rattle.admits_report.specs.Answered.{AreLinesFor, spot_of}
use Rattle.admits_report.proofs.answers.lines_of.Given as goal

-- the lines so far have the check-ins so far, and their answers
abbrev pub invariant-loop-spot : goal.invariant-loop-spot
invariant-loop-spot l =
    (map spot_of l.lines.items ≡ take l.spot-index l.spots)
    × AreLinesFor l.admission l.function l.lines.items
