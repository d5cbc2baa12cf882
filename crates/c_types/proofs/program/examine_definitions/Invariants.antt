use Rattle.std.proofs.Common.{◌≡◌, ◌≤◌, take, drop, min, []}
use Rattle.c_expr_types.specs.Faults.{first, sooner}
use Rattle.c_types.specs.Definitions.{all_faults, names_of, cells_of}
use Rattle.c_types.proofs.program.examine_definitions.Given as goal

abbrev pub invariant-loop-index : goal.invariant-loop-index
invariant-loop-index l = record {
  few : l.names ≤ l.index;
  names : l.names ≡ names_of (take l.index l.definitions);
  cells : l.cells ≡ min (cells_of (take l.index l.definitions)) 65537;
  same : l.definitions ≡ l.known;
  faults : sooner l.fault (first (all_faults l.known (take l.index l.known) (drop l.index l.known))) ≡ first (all_faults l.known [] l.known);
}
