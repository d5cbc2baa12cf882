-- a quotient that is rounded down stays in range
use Rattle.std.proofs.Common.{◌<ℤ◌, pos, arith}
use mir.Syntax.{w128}
use mir.Val.{to_z, of_z}
use Rattle.std.proofs.lemmas.Int.{ints, to_z-of_z}
use Rattle.c_ints.proofs.Ranges.{floor_range}
use Rattle.c_ints.proofs.Reduction.{held}
use Rattle.c_ints.proofs.exact.shift_right.Goals as goal

pub new-requires : goal.new-requires
new-requires c =
    let divisor : pos 0 <ℤ to_z w128 (of_z w128 c.power_of_two.result) = omega (arith, ints, c.power_of_two.ensures.positive) in
    held c.args.kind c.div_euclid.result
    (rw (c.div_euclid.ensures, to_z-of_z w128 c.args.x c.ranges.x) (floor_range c.args.kind c.args.x _ divisor c.requires))
