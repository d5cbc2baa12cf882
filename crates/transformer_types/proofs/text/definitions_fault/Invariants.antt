use Rattle.std.proofs.Common.{◌≡◌, drop}
use Rattle.std.specs.Prelude.{flat_map}
use Rattle.patch_faults.specs.TransformFaults.{first}
use Rattle.transformer_types.specs.Alone.{faults_at_alone, sooner}
use Rattle.transformer_types.proofs.text.definitions_fault.Given as goal

abbrev pub invariant-loop-definition : goal.invariant-loop-definition
invariant-loop-definition l =
    sooner l.fault (first (flat_map (λ d. faults_at_alone l.old l.new d.place d.kind) (drop l.definition-index l.definitions)))
    ≡ first (flat_map (λ d. faults_at_alone l.old l.new d.place d.kind) l.definitions)
