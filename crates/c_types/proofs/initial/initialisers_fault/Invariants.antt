use Rattle.std.proofs.Common.{◌≡◌, drop}
use Rattle.std.specs.List.{flat_map}
use Rattle.c_expr_types.specs.Faults.{first, sooner}
use Rattle.c_types.specs.Definitions.{initialiser_faults}
use Rattle.c_types.proofs.initial.initialisers_fault.Given as goal

abbrev pub invariant-loop-expr : goal.invariant-loop-expr
invariant-loop-expr l =
    sooner l.fault (first (flat_map (initialiser_faults l.known l.to) (drop l.expr-index l.exprs))) ≡ first (flat_map (initialiser_faults l.known l.to) l.exprs)
