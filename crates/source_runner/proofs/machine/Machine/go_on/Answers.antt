use Rattle.source_runner.proofs.Ready.{ready_thread}
use Rattle.source_runner.proofs.machine.Machine.go_on.Goals as goal

pub returns-clause-moves : goal.returns-clause-moves
returns-clause-moves c = λ w before after h is.
    record { came = c.keep.ensures.stands w before after h (ready_thread _ _ _ _ _ _ _ _ c.trees.ensures is c.in_ok-halt.ensures) }
