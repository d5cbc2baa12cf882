use Rattle.std.proofs.Common.{◌≡◌, false, take}
use Rattle.std.specs.List.{list_any}
use Rattle.source_model.specs.Runs.{is_live}
use Rattle.source_model.specs.Worlds.{World}
use Rattle.source_runner.specs.Machines.{Stands}
use Rattle.source_runner.proofs.machine.Machine.some_lives.Given as goal

abbrev pub invariant-loop-slot : goal.invariant-loop-slot
invariant-loop-slot l = (w : World) → Stands l.self w → list_any is_live (take l.slot w.slots) ≡ false
