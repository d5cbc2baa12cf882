use Rattle.std.proofs.Common.{◌≡◌, ◌++◌, drop, map}
use Rattle.c_tree.specs.Bare.{bare_binding}
use Rattle.type_transformers.specs.Hows.{how_of}
use Rattle.changes_report.specs.Shown.{fields_text}
use Rattle.changes_report.proofs.lines.add_fields.Given as goal

-- with the lines that are still to come it is the whole
abbrev pub invariant-loop-index : goal.invariant-loop-index
invariant-loop-index l =
    l.text.items ++ fields_text l.name (drop l.index (map bare_binding l.fields)) (drop l.index (map how_of l.changes))
    ≡ l.initial.text.items ++ fields_text l.name (map bare_binding l.fields) (map how_of l.changes)
