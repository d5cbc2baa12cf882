use Rattle.std.proofs.Common.{refl}
use Rattle.source_model.specs.Worlds as world
use Rattle.local_evaluation.specs.Values.{seen}
use Rattle.source_runner.specs.declared.thread.Slot.TheVariants.{Over}
use Rattle.source_runner.proofs.Slots.{leaves}
use Rattle.source_runner.proofs.machine.Machine.leave.Goals as goal

pub returns-clause-stands : goal.returns-clause-stands
returns-clause-stands c = λ w before but.
    leaves c.args.self.now _ c.args.slot w before (Over c.args.serial c.args.value) (world.Over c.args.serial (seen c.args.value)) but refl refl
