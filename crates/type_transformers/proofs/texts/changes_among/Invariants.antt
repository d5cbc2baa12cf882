use Rattle.std.proofs.Common.{map, take, string_bytes}
use Rattle.c_tree.specs.Bare.{bare_def}
use Rattle.type_transformers.specs.Made.{AreChanges}
use Rattle.type_transformers.proofs.texts.changes_among.Given as goal

-- the changes so far are those of the names so far
abbrev pub invariant-loop-name : goal.invariant-loop-name
invariant-loop-name l =
    AreChanges (map bare_def l.fn.old) (map bare_def l.fn.new) (map string_bytes (take l.name-index l.names)) l.changes.items
