use Rattle.std.proofs.Common.{◌-◌, arith}
use Rattle.source_programs.specs.Programs.{table_of}
use Rattle.source_runner.proofs.Stopping.{moves_as}
use Rattle.source_runner.proofs.Stored.{moves_from}
use Rattle.source_runner.proofs.Transactions.{ended, ending, ends}
use Rattle.source_runner.proofs.machine.Machine.close.Goals as goal

pub returns-clause-moves : goal.returns-clause-moves
returns-clause-moves c = λ w before user at.
    let m = c.args.self.now in
    let slot = c.args.at.slot in
    let goes = ends (table_of m.program) w slot c.args.at.thread c.args.at.frame c.args.at.point user user.depth (c.args.at.thread.depth - 1)
    at.used.depth (omega (arith, c.requires.depth)) at.used in
    moves_as _ w _ _ _ goes.1
    (moves_from _ _ w _ _
    (c.go_on.ensures.moves (ended w slot user.uses user.depth) before goes.0 (ending m slot w before user.uses user.depth at.but) goes.2))
