use Rattle.std.proofs.Common.{◌≡◌, drop, [], ◌∷◌}
use Rattle.c_expr_types.specs.Faults.{first, sooner}
use Rattle.c_types.specs.Definitions.{bindings, with_parameters}
use Rattle.c_types.proofs.Bindings.{bound_by}
use Rattle.c_types.proofs.parameter.bind.Given as goal

abbrev pub invariant-loop-binding : goal.invariant-loop-binding
invariant-loop-binding l = record {
  faults : sooner l.fault (first (bound_by l.known l.scopes (drop l.binding-index l.list))) ≡ first (bindings l.known [] l.list);
  scopes : with_parameters (drop l.binding-index l.list) l.scopes ≡ with_parameters l.list ([] ∷ []);
}
