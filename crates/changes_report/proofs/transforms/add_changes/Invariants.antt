use Rattle.std.proofs.Common.{◌≡◌, ◌++◌, take, map}
use Rattle.std.specs.List.{flat_map}
use Rattle.c_tree.specs.Bare.{bare_def}
use Rattle.changes_report.specs.Shown.{change_text}
use Rattle.changes_report.proofs.transforms.add_changes.Given as goal

-- the lines of the changes so far were added
abbrev pub invariant-loop-change : goal.invariant-loop-change
invariant-loop-change l = l.text.items ≡ l.initial.text.items ++ flat_map (change_text (map bare_def l.known)) (take l.change-index l.changes)
