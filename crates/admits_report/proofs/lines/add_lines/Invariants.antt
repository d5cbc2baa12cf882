use Rattle.std.proofs.Common.{◌≡◌, ◌++◌, map, take}
use Rattle.std.specs.List.{flat_map}
use Rattle.admits_report.specs.AdmitsText.{line_text}
use Rattle.admits_report.specs.Shown.{line_of}
use Rattle.admits_report.proofs.lines.add_lines.Given as goal

-- the lines so far were added
abbrev pub invariant-loop-line : goal.invariant-loop-line
invariant-loop-line l =
    l.text.items ≡ l.initial.text.items ++ flat_map (line_text l.lines.text.now) (take l.line-index (map (line_of l.names) l.check_ins))
