use Rattle.std.proofs.Common.{◌≡◌, drop}
use Rattle.std.specs.Prelude.{flat_map}
use Rattle.patch_faults.specs.TransformFaults.{first}
use Rattle.transformer_types.specs.Alone.{field_faults_alone, sooner}
use Rattle.transformer_types.proofs.transformer.values_fault.Given as goal

abbrev pub invariant-loop-given : goal.invariant-loop-given
invariant-loop-given l =
    sooner l.fault (first (flat_map (field_faults_alone l.old l.new) (drop l.given-index l.values)))
    ≡ first (flat_map (field_faults_alone l.old l.new) l.values)
