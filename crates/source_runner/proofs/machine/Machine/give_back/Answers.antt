use Rattle.source_programs.specs.Programs.{table_of}
use Rattle.source_runner.proofs.Calls.{newest_at, newest_none, returned, returned_none}
use Rattle.source_runner.proofs.Halted.{at_over}
use Rattle.source_runner.proofs.Stopping.{moves_as, user_before}
use Rattle.source_runner.proofs.machine.Machine.give_back.Goals as goal

pub returns-in-Some-clause-moves : goal.returns-in-Some-clause-moves
returns-in-Some-clause-moves c = λ w before user at.
    let m = c.args.self.now in
    moves_as _ w _ _ _
    (returned (table_of m.program) w c.args.at.slot c.args.at.thread c.args.at.frame c.args.at.point user c.in-Some.value
    (newest_at _ _ c.in-Some.value c.as_slice.ensures.value c.in-Some.ensures))
    (c.give.ensures.moves w before user c.args.at.point at.but at.used (user_before _ _ _ _ _ at.same))

pub returns-in-None-clause-moves : goal.returns-in-None-clause-moves
returns-in-None-clause-moves c = λ w before user at.
    let m = c.args.self.now in
    moves_as _ w _ _ _
    (returned_none (table_of m.program) w c.args.at.slot c.args.at.thread c.args.at.frame c.args.at.point user
    (newest_none _ _ c.as_slice.ensures.value c.in-None.ensures))
    (c.stay.ensures.moves w before at.but (at_over _ _ _ _ _ at.going at.same))
