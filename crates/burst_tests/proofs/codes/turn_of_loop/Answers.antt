use Rattle.std.proofs.Common.{refl, arith}
use Rattle.burst_tests.proofs.RightHeights.{loop_sound}
use Rattle.burst_tests.proofs.codes.turn_of_loop.Goals as goal

pub burst-requires : goal.burst-requires
burst-requires c = record { sound = loop_sound; held = refl; space = omega arith }
