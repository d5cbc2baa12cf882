use Rattle.std.proofs.Common.{◌≡◌, ◌≤◌, List, length, drop, Some, [], ◌∷◌}
use Rattle.c_tree.specs.declared.def.Binding.{Binding}
use Rattle.c_definitions.specs.Lookup.{members_of}
use Rattle.c_types.specs.TransformSyntax.{transforms_fields}
use Rattle.c_types.proofs.TransformedFields.{later_of}
use Rattle.c_types.proofs.struct_transformer.transforms_struct.Given as goal

abbrev pub invariant-loop-i : goal.invariant-loop-i
invariant-loop-i l = record {
  within : l.i ≤ length l.values;
  later : l.later ≡ later_of (drop l.i l.values) ∷ [];
  given : (members : List Binding) → members_of l.known l.tag ≡ Some members → l.transforms_fields ≡ transforms_fields l.known members (drop l.i l.values);
}

abbrev pub decreases-loop-i : goal.decreases-loop-i
decreases-loop-i l = l.i
