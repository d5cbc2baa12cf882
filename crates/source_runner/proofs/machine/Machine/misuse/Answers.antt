use Rattle.std.proofs.Common.{subst}
use Rattle.source_runner.specs.Machines.{Stands}
use Rattle.source_runner.proofs.Halted.{misused, with_same}
use Rattle.source_runner.proofs.machine.Machine.misuse.Goals as goal

pub returns-clause-moves : goal.returns-clause-moves
returns-clause-moves c = λ w before h is.
    let after = misused _ _ w before h in
    record { came = subst (λ v. Stands c.keep.new.self v) (with_same _ _ _ before after) (c.keep.ensures.stands _ before before after is) }
