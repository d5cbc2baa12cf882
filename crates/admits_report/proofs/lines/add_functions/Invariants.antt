use Rattle.std.proofs.Common.{◌≡◌, ◌++◌, map, take}
use Rattle.std.specs.List.{flat_map}
use Rattle.admits_report.specs.AdmitsText.{block_text}
use Rattle.admits_report.specs.Shown.{block_of}
use Rattle.admits_report.proofs.lines.add_functions.Given as goal

-- the lines so far were added
abbrev pub invariant-loop-function : goal.invariant-loop-function
invariant-loop-function l =
    l.text.items ≡ l.initial.text.items ++ flat_map (block_text l.lines.text.now) (take l.function-index (map (block_of l.names) l.functions))
