use Rattle.std.proofs.Common.{sym}
use Rattle.source_model.specs.Moves.{gone_on}
use Rattle.local_evaluation.specs.declared.value.Value.TheVariants.{Started}
use Rattle.source_programs.specs.Programs.{table_of}
use Rattle.local_evaluation.specs.Work.{newest}
use Rattle.source_runner.specs.Machines.{enter_with, standing_at}
use Rattle.source_runner.proofs.Spawns.{pushed_on, spawned}
use Rattle.source_runner.proofs.Stopping.{moves_as}
use Rattle.source_runner.proofs.Stored.{moves_from, ready_in, went_on}
use Rattle.source_runner.proofs.machine.Machine.spawn_with.Goals as goal

pub returns-clause-moves : goal.returns-clause-moves
returns-clause-moves c = λ w before user at.
    let m = c.args.self.now in
    let t = table_of m.program in
    let enter = enter_with t c.args.name c.args.argument c.args.at.frame.version in
    let values = c.push.new.values in
    let is = c.in_ok-started.ensures.started w before at.but in
    let s = standing_at t w c.args.at.slot c.args.at.thread c.args.at.frame c.args.at.point user in
    moves_as _ w _ _ _
    (spawned m c.start.new.self c.args.at.slot c.args.at.thread c.args.at.frame values c.args.at.point w before user enter c.in_ok-started.started is
    (pushed_on c.args.at.frame.work.values.items c.discard.new.values.items values.items (Started c.in_ok-started.started) c.discard.ensures c.in_ok-push.ensures))
    (moves_from _ _ w _ _
    (c.go_on.ensures.moves _ before (gone_on s (newest values.items)) is.stands
    (ready_in m.program c.start.new.self.program c.args.at.thread _ _ (sym c.in_ok-started.ensures.same)
    (went_on t c.args.at.thread c.args.at.frame values c.args.at.point w c.args.at.slot user at.used))))
