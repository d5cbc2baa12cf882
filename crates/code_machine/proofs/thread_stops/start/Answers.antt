use Rattle.std.proofs.Common.{refl}
use Rattle.code_machine.proofs.Keeping.{keeps_all}
use Rattle.code_machine.proofs.thread_stops.start.Goals as goal

pub returns-in-None-clause-keeps : goal.returns-in-None-clause-keeps
returns-in-None-clause-keeps c =
    keeps_all c.args.image.now c.args.run.now _ (record { versions = refl; in_force = refl; layouts = refl }) refl refl c.requires.kept refl refl refl
