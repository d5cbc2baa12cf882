use Rattle.std.proofs.Common.{◌≡◌, take}
use Rattle.c_semantics.specs.Transformers.{zero_fields}
use Rattle.resolved_tree.specs.Nodes.{Table}
use Rattle.source_programs.specs.Definitions.{bindings_of}
use Rattle.source_data.specs.Stores.{fields_of}
use Rattle.source_data.proofs.objects.fresh.Given as goal

abbrev pub invariant-loop-member : goal.invariant-loop-member
invariant-loop-member l =
    (t : Table) → fields_of t l.fields.items ≡ zero_fields (bindings_of t (take l.member-index l.members))
