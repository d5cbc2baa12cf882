use Rattle.std.proofs.Common.{◌≡◌, drop, find, bytes_eq}
use Rattle.resolved_tree.specs.Nodes.{word}
use Rattle.source_data.specs.Stores.{fields_of}
use Rattle.resolved_tree.specs.Trees.{table}
use Rattle.source_data.proofs.objects.field.Given as goal

abbrev pub invariant-loop-field : goal.invariant-loop-field
invariant-loop-field l =
    find (λ f. bytes_eq (word (table l.trees) l.name) f.name) (fields_of (table l.trees) l.fields)
    ≡ find (λ f. bytes_eq (word (table l.trees) l.name) f.name) (fields_of (table l.trees) (drop l.field-index l.fields))
