use Rattle.std.proofs.Common.{arith}
use Rattle.verified_code.proofs.Placed.{placed_all}
use Rattle.verified_code.proofs.bodies.Bodies.new.Goals as goal

pub invariant_of-result : goal.invariant_of-result
invariant_of-result c = record {
  placed = placed_all c.loop-left.places c.loop-left.left c.args.units.items (omega (arith, c.loop-left-test.false)) c.loop-left.invariant.placed;
}
