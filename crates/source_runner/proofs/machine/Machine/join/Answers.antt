use Rattle.std.proofs.Common.{option_map}
use Rattle.c_semantics.specs.Values.{Started}
use Rattle.source_programs.specs.Programs.{table_of}
use Rattle.source_runner.specs.Machines.{standing_at}
use Rattle.local_evaluation.specs.Values.{seen_thread}
use Rattle.source_runner.proofs.Halted.{at_over}
use Rattle.source_runner.proofs.Joining.{handle_at, no_handle}
use Rattle.source_runner.proofs.Stopping.{moves_as}
use Rattle.source_runner.proofs.machine.Machine.join.Goals as goal

pub returns-in-Some-clause-moves : goal.returns-in-Some-clause-moves
returns-in-Some-clause-moves c = λ w before user at.
    let m = c.args.self.now in
    moves_as _ w _ _ _
    (handle_at (table_of m.program) w c.args.at.slot c.args.at.thread c.args.at.frame c.args.at.point user _ (Started (option_map seen_thread c.in-Some.named))
    c.as_slice.ensures.value c.in-Some.ensures)
    (c.join_handle.ensures.moves w before user at)

pub returns-in-None-clause-moves : goal.returns-in-None-clause-moves
returns-in-None-clause-moves c = λ w before user at.
    let m = c.args.self.now in
    let s = standing_at (table_of m.program) w c.args.at.slot c.args.at.thread c.args.at.frame c.args.at.point user in
    moves_as _ w _ _ _ (no_handle s _ c.args.at.frame.work.values.items c.as_slice.ensures.value (c.in-None.ensures s))
    (c.stay.ensures.moves w before at.but (at_over _ _ _ _ _ at.going at.same))
