use Rattle.std.proofs.Common.{◌≡◌, ◌++◌, take}
use Rattle.std.specs.List.{flat_map}
use Rattle.changes_report.specs.ChangesText.{name_line}
use Rattle.changes_report.proofs.lines.add_names.Given as goal

-- the lines of the names so far were added
abbrev pub invariant-loop-name : goal.invariant-loop-name
invariant-loop-name l = l.text.items ≡ l.initial.text.items ++ flat_map (name_line l.word) (take l.name-index l.names)
