use Rattle.std.proofs.Common.{refl, arith}
use Rattle.burst_tests.proofs.RightHeights.{operation_sound}
use Rattle.burst_tests.proofs.codes.operate.Goals as goal

pub burst-requires : goal.burst-requires
burst-requires c = record { sound = operation_sound c.args.op c.args.kind; held = refl; space = omega arith }
