use Rattle.std.proofs.Common.{refl}
use Rattle.source_model.specs.Moves.{gone_on}
use Rattle.source_data.specs.declared.shared_stops.Did.TheVariants.{On, Trap, Nothing}
use Rattle.source_programs.specs.Programs.{table_of}
use Rattle.source_data.specs.Stores.{with_store}
use Rattle.source_runner.specs.Machines.{standing_at}
use Rattle.local_evaluation.specs.Work.{newest}
use Rattle.source_runner.proofs.Halted.{at_over}
use Rattle.source_runner.proofs.Stopping.{moves_as}
use Rattle.source_runner.proofs.Stored.{kept_as, moves_from, performed_as, same_store, same_values, stored, trapped, went_on}
use Rattle.source_runner.proofs.machine.Machine.perform.Goals as goal

pub returns-in-On-clause-moves : goal.returns-in-On-clause-moves
returns-in-On-clause-moves c = λ w before user at not_threads.
    let m = c.args.self.now in
    let t = table_of m.program in
    let new = c.perform.new.store in
    let values = c.perform.new.values in
    let s = standing_at t w c.args.at.slot c.args.at.thread c.args.at.frame c.args.at.point user in
    moves_as _ w _ _ _
    (performed_as m c.args.at.slot c.args.at.thread c.args.at.frame c.args.stop c.args.at.point w before user c.in_ok-perform.field-0 On new values.items at.but
    (c.in_ok-perform.ensures.made at.but.all.program not_threads) c.in-On.is)
    (moves_from _ _ w _ _
    (c.go_on.ensures.moves (with_store t new w) before (gone_on s (newest values.items)) (stored m new c.args.at.slot w before at.but)
    (went_on t c.args.at.thread c.args.at.frame values c.args.at.point w c.args.at.slot user at.used)))

pub returns-in-Trap-clause-moves : goal.returns-in-Trap-clause-moves
returns-in-Trap-clause-moves c = λ w before user at not_threads.
    let m = c.args.self.now in
    let t = table_of m.program in
    let new = c.perform.new.store in
    let s = standing_at t w c.args.at.slot c.args.at.thread c.args.at.frame c.args.at.point user in
    moves_as _ w _ _ _
    (performed_as m c.args.at.slot c.args.at.thread c.args.at.frame c.args.stop c.args.at.point w before user c.in_ok-perform.field-0 (Trap c.in-Trap.kind) new
    c.perform.new.values.items at.but (c.in_ok-perform.ensures.made at.but.all.program not_threads) c.in-Trap.is)
    (moves_from _ _ w _ _
    (c.trap.ensures.moves (with_store t new w) before (gone_on s s.frame.values) (stored m new c.args.at.slot w before at.but)
    (trapped t c.args.at.thread _ _ _ user refl at.used)))

pub returns-in-Nothing-clause-moves : goal.returns-in-Nothing-clause-moves
returns-in-Nothing-clause-moves c = λ w before user at not_threads.
    let m = c.args.self.now in
    let t = table_of m.program in
    let new = c.perform.new.store in
    let values = c.perform.new.values in
    let kept = kept_as c.in_ok-perform.field-0 m.store new c.args.at.frame.work.values.items values.items c.in-Nothing.is c.in_ok-perform.ensures.kept in
    moves_as _ w _ _ _
    (performed_as m c.args.at.slot c.args.at.thread c.args.at.frame c.args.stop c.args.at.point w before user c.in_ok-perform.field-0 Nothing new values.items at.but
    (c.in_ok-perform.ensures.made at.but.all.program not_threads) c.in-Nothing.is)
    (c.stay.ensures.moves w before (same_store m new c.args.at.slot w before kept.0 at.but)
    (at_over _ _ _ _ _ at.going (same_values t _ c.args.at.thread c.args.at.frame _ values before kept.1 at.same)))
