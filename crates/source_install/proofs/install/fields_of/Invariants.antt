use Rattle.std.proofs.Common.{◌≡◌, map, take}
use Rattle.versioned_structs.specs.Transforms.{variables}
use Rattle.resolved_tree.specs.Nodes.{Table}
use Rattle.local_evaluation.specs.Values.{seen}
use Rattle.source_programs.specs.Definitions.{bindings_of}
use Rattle.source_data.specs.Stores.{fields_of}
use Rattle.source_install.proofs.install.fields_of.Given as goal

abbrev pub invariant-loop-place : goal.invariant-loop-place
invariant-loop-place l =
    (t : Table) → fields_of t l.fields.items ≡ take l.place (variables (bindings_of t l.members) (map seen l.values))
