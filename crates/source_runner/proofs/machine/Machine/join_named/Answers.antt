use Rattle.std.proofs.Common.{true, Some, None, refl, drop}
use Rattle.source_model.specs.Moves.{gone_on}
use Rattle.source_programs.specs.Programs.{table_of}
use Rattle.source_runner.specs.Machines.{standing_at}
use Rattle.local_evaluation.specs.Work.{newest}
use Rattle.source_runner.proofs.Joining.{found_in, join_as, result_apart}
use Rattle.source_runner.proofs.Stopping.{moves_as}
use Rattle.source_runner.proofs.Stored.{trapped}
use Rattle.source_runner.proofs.machine.Machine.join_named.Goals as goal

pub returns-in-Some-clause-moves : goal.returns-in-Some-clause-moves
returns-in-Some-clause-moves c = λ w before user at.
    let m = c.args.self.now in
    let slots = c.as_slice.result.now in
    moves_as _ w _ _ _
    (join_as m c.args.at.slot w before user c.args.at.thread c.args.at.frame c.args.at.point c.args.named (drop 1 (newest c.args.at.frame.work.values.items))
    (Some c.in-Some.value) at.but
    (found_in slots m.slots.items c.args.at.slot c.args.named c.result_of.result (Some c.in-Some.value) c.as_slice.ensures.value c.result_of.ensures c.in-Some.is))
    (c.take_result.ensures.moves w before user at
    (result_apart slots c.args.at.slot c.args.named c.result_of.result c.in-Some.value c.result_of.ensures c.in-Some.is))

pub returns-in-None-clause-moves : goal.returns-in-None-clause-moves
returns-in-None-clause-moves c = λ w before user at.
    let m = c.args.self.now in
    let t = table_of m.program in
    let slots = c.as_slice.result.now in
    let s = standing_at t w c.args.at.slot c.args.at.thread c.args.at.frame c.args.at.point user in
    moves_as _ w _ _ _
    (join_as m c.args.at.slot w before user c.args.at.thread c.args.at.frame c.args.at.point c.args.named (drop 1 (newest c.args.at.frame.work.values.items))
    None at.but
    (found_in slots m.slots.items c.args.at.slot c.args.named c.result_of.result None c.as_slice.ensures.value c.result_of.ensures c.in-None.is))
    (c.trap.ensures.moves w before (gone_on s s.frame.values) at.but (trapped t c.args.at.thread _ _ true user refl at.used))
