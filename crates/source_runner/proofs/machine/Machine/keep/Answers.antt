use Rattle.std.proofs.Common.{refl}
use Rattle.source_model.specs.Worlds as world
use Rattle.source_runner.specs.declared.thread.Slot.TheVariants.{Live}
use Rattle.source_runner.proofs.Slots.{leaves}
use Rattle.source_runner.proofs.machine.Machine.keep.Goals as goal

pub returns-clause-stands : goal.returns-clause-stands
returns-clause-stands c = λ w before after but is.
    leaves c.args.self.now _ c.args.slot w before (Live c.args.thread c.args.next) (world.Live after) but refl (after, refl, is)
