use Rattle.std.proofs.Common.{refl, arith}
use Rattle.burst_tests.proofs.RightHeights.{stack_sound}
use Rattle.burst_tests.proofs.codes.exchange.Goals as goal

pub burst-requires : goal.burst-requires
burst-requires c = record { sound = stack_sound; held = refl; space = omega arith }
