use Rattle.std.proofs.Common.{subst}
use Rattle.source_runner.specs.Machines.{Stands}
use Rattle.source_runner.proofs.Halted.{with_same}
use Rattle.source_runner.proofs.machine.Machine.stay.Goals as goal

pub returns-clause-moves : goal.returns-clause-moves
returns-clause-moves c = λ w before h is.
    record { came = subst (λ v. Stands c.keep.new.self v) (with_same _ _ w before h) (c.keep.ensures.stands w before before h is) }
