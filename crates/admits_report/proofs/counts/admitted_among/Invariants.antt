use Rattle.std.proofs.Common.{◌≡◌, ◌≤◌, map, take}
use Rattle.std.specs.Prelude.{count_by}
use Rattle.std.specs.Option.{is_none}
use Rattle.admits_report.specs.Shown.{ids_of_line}
use Rattle.admits_report.proofs.counts.admitted_among.Given as goal

-- those so far
abbrev pub invariant-loop-line : goal.invariant-loop-line
invariant-loop-line l =
    (l.admitted ≡ count_by is_none (map ids_of_line (take l.line-index l.lines))) × (l.admitted ≤ l.line-index)
