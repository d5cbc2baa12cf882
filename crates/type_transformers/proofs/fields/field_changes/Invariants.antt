use Rattle.std.proofs.Common.{map, take}
use Rattle.c_tree.specs.Bare.{bare_binding, bare_field_value}
use Rattle.type_transformers.specs.Fields.{AreFieldChanges}
use Rattle.type_transformers.proofs.fields.field_changes.Given as goal

-- the changes so far are those of the fields so far
abbrev pub invariant-loop-field : goal.invariant-loop-field
invariant-loop-field l =
    AreFieldChanges (map bare_binding l.fn.old) (map bare_field_value l.fn.given) (map bare_binding (take l.field-index l.new)) l.changes.items
