use Rattle.std.proofs.Common.{◌≤◌, length, bytes_eq}
use Rattle.source_programs.specs.Globals.{globals_of}
use Rattle.source_programs.proofs.Placed.{ArePlaced}
use Rattle.source_programs.proofs.globals.found_by_name.Given as goal

abbrev pub invariant-loop-left : goal.invariant-loop-left
invariant-loop-left l = record {
  within : l.left ≤ length l.list.items;
  placed : ArePlaced (λ name g. bytes_eq name g.name) l.places l.left (globals_of l.list.items);
}

abbrev pub decreases-loop-left : goal.decreases-loop-left
decreases-loop-left l = l.left
