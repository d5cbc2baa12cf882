use Rattle.source_programs.specs.Programs.{table_of}
use Rattle.source_runner.proofs.Stopping.{moves_as}
use Rattle.source_runner.proofs.Transactions.{begins}
use Rattle.source_runner.proofs.machine.Machine.begin.Goals as goal

pub returns-clause-moves : goal.returns-clause-moves
returns-clause-moves c = λ w before user at.
    let m = c.args.self.now in
    let deeper = c.in_ok-thread.field-0 in
    let goes = begins (table_of m.program) w c.args.at.slot c.args.at.thread c.args.at.frame c.args.at.point user user.depth deeper
    at.used.depth c.in_ok-thread.ensures at.used in
    moves_as _ w _ _ _ goes.1 (c.go_on.ensures.moves w before goes.0 at.but goes.2)
