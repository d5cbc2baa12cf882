use Rattle.std.proofs.Common.{true, refl}
use Rattle.source_model.specs.Moves.{gone_on}
use Rattle.source_programs.specs.Programs.{table_of}
use Rattle.source_runner.specs.Machines.{standing_at}
use Rattle.source_runner.proofs.Joining.{handle_none, handle_some}
use Rattle.source_runner.proofs.Stopping.{moves_as}
use Rattle.source_runner.proofs.Stored.{trapped}
use Rattle.source_runner.proofs.machine.Machine.join_handle.Goals as goal

pub returns-in-Some-clause-moves : goal.returns-in-Some-clause-moves
returns-in-Some-clause-moves c = λ w before user at.
    let s = standing_at (table_of c.args.self.now.program) w c.args.at.slot c.args.at.thread c.args.at.frame c.args.at.point user in
    moves_as _ w _ _ _ (handle_some s c.args.named _ _ c.in-Some.is) (c.join_named.ensures.moves w before user at)

pub returns-in-None-clause-moves : goal.returns-in-None-clause-moves
returns-in-None-clause-moves c = λ w before user at.
    let m = c.args.self.now in
    let t = table_of m.program in
    let s = standing_at t w c.args.at.slot c.args.at.thread c.args.at.frame c.args.at.point user in
    moves_as _ w _ _ _ (handle_none s c.args.named _ c.in-None.is)
    (c.trap.ensures.moves w before (gone_on s s.frame.values) at.but (trapped t c.args.at.thread _ _ true user refl at.used))
