use Rattle.std.proofs.Common.{◌≤◌, length}
use Rattle.verified_code.proofs.Placed.{ArePlaced}
use Rattle.verified_code.proofs.bodies.Bodies.new.Given as goal

abbrev pub invariant-loop-left : goal.invariant-loop-left
invariant-loop-left l = record {
  within : l.left ≤ length l.units.items;
  placed : ArePlaced l.places l.left l.units.items;
}

abbrev pub decreases-loop-left : goal.decreases-loop-left
decreases-loop-left l = l.left
