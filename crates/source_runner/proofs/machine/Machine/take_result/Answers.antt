use Rattle.std.proofs.Common.{refl, sym, ap}
use Rattle.source_model.specs.Worlds as world
use Rattle.source_model.specs.Moves.{gone_on}
use Rattle.source_runner.specs.declared.thread.Slot.TheVariants.{Free}
use Rattle.source_programs.specs.Programs.{table_of}
use Rattle.local_evaluation.specs.Work.{newest}
use Rattle.source_runner.specs.Machines.{standing_at}
use Rattle.source_runner.proofs.Joining.{taken_result}
use Rattle.source_runner.proofs.Spawns.{but_same, pushed_on, put_other}
use Rattle.source_runner.proofs.Stopping.{moves_as}
use Rattle.source_runner.proofs.Stored.{moves_from, ready_in, went_on}
use Rattle.source_runner.proofs.machine.Machine.take_result.Goals as goal

pub returns-clause-moves : goal.returns-clause-moves
returns-clause-moves c = λ w before user at apart.
    let m = c.args.self.now in
    let t = table_of m.program in
    let values = c.push.new.values in
    let s = standing_at t w c.args.at.slot c.args.at.thread c.args.at.frame c.args.at.point user in
    moves_as _ w _ _ _
    (taken_result s c.args.named.slot c.args.value _ (newest values.items) (pushed_on c.args.at.frame.work.values.items c.discard.new.values.items values.items c.args.value c.discard.ensures c.in_ok-push.ensures))
    (moves_from _ _ w _ _
    (c.go_on.ensures.moves _ before (gone_on s (newest values.items))
    (but_same _ c.set_free.new.self c.args.at.slot _ before c.set_free.ensures.same
    (put_other m c.set_free.new.self.slots c.args.at.slot c.args.named.slot w before Free world.Free at.but (λ e. apart (sym e)) c.set_free.ensures.slots refl))
    (ready_in m.program c.set_free.new.self.program c.args.at.thread _ _ (sym (ap (λ x. x.program) c.set_free.ensures.same))
    (went_on t c.args.at.thread c.args.at.frame values c.args.at.point w c.args.at.slot user at.used))))
