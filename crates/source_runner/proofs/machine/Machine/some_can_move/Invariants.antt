use Rattle.std.proofs.Common.{◌≡◌, false, take}
use Rattle.std.specs.List.{list_any}
use Rattle.source_model.specs.Runs.{all_slots, can_move}
use Rattle.source_model.specs.Worlds.{World}
use Rattle.source_runner.specs.Machines.{Stands}
use Rattle.source_runner.proofs.machine.Machine.some_can_move.Given as goal

abbrev pub invariant-loop-slot : goal.invariant-loop-slot
invariant-loop-slot l = (w : World) → Stands l.self w → list_any (can_move w) (take l.slot (all_slots w)) ≡ false
