use Rattle.source_programs.specs.Programs.{table_of}
use Rattle.source_runner.proofs.Calls.{called}
use Rattle.source_runner.proofs.Stopping.{moves_as}
use Rattle.source_runner.proofs.machine.Machine.call.Goals as goal

pub returns-clause-moves : goal.returns-clause-moves
returns-clause-moves c = λ w before user at.
    let m = c.args.self.now in
    let t = table_of m.program in
    let goes = called t _ w c.args.at.slot c.args.at.thread c.push_frame.new.frames c.args.at.frame c.take_arguments.new.values
    c.in_ok-arguments.arguments c.args.name c.args.count c.args.at.point user c.in_ok-arguments.ensures.arguments c.in_ok-arguments.ensures.rest
    (c.in_ok-push_frame.ensures t) at.used in
    moves_as _ w _ _ _ goes.1 (record { came = c.keep.ensures.stands w before goes.0 at.but goes.2 })
