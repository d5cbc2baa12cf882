use Rattle.std.proofs.Common.{true, refl, sym, ◌∙◌}
use Rattle.source_model.specs.Uses.{use_at}
use Rattle.local_evaluation.specs.Pieces.{stop_of}
use Rattle.source_programs.specs.Programs.{table_of}
use Rattle.source_runner.specs.Machines.{frame_at}
use Rattle.source_runner.specs.Frames.{frames_of}
use Rattle.source_runner.proofs.Stopping.{at_stop, moves_as, not_of_threads, stop_as, wrong_use}
use Rattle.source_runner.proofs.Halted.{halted_thread}
use Rattle.source_runner.proofs.machine.Machine.stop.Goals as goal

pub returns-then-not-is_right-clause-moves : goal.returns-then-not-is_right-clause-moves
returns-then-not-is_right-clause-moves c = λ w before but going same.
    let t = table_of c.args.self.now.program in
    let s = stop_of t c.args.stop in
    let f = frame_at t c.args.at.frame c.args.at.point in
    let below = frames_of t c.args.at.thread.below.items in
    let wrong = sym (c.is_right.ensures w.table but.all.program but.all.history) ∙ c.if-not-is_right.true in
    moves_as _ w _ _ _ (wrong_use s w c.args.at.slot before f below (use_at s) wrong)
    (c.misuse.ensures.moves w before but (halted_thread _ _ true _ _ _ _ refl same))

pub returns-in-Spawn-clause-moves : goal.returns-in-Spawn-clause-moves
returns-in-Spawn-clause-moves c = λ w before but going same.
    let m = c.args.self.now in
    let s = stop_of (table_of m.program) c.args.stop in
    let right = sym (c.is_right.ensures w.table but.all.program but.all.history) ∙ c.if-not-is_right.false in
    moves_as _ w _ _ _ (stop_as m c.args.at.slot c.args.at.thread c.args.at.frame c.args.stop _ c.args.at.point w before c.in-Spawn.is right)
    (c.spawn.ensures.moves w before _ (at_stop m c.args.at.slot c.args.at.thread c.args.at.frame c.args.stop _ c.args.at.point w before c.in-Spawn.is but going same right))

pub returns-in-Join-clause-moves : goal.returns-in-Join-clause-moves
returns-in-Join-clause-moves c = λ w before but going same.
    let m = c.args.self.now in
    let s = stop_of (table_of m.program) c.args.stop in
    let right = sym (c.is_right.ensures w.table but.all.program but.all.history) ∙ c.if-not-is_right.false in
    moves_as _ w _ _ _ (stop_as m c.args.at.slot c.args.at.thread c.args.at.frame c.args.stop _ c.args.at.point w before c.in-Join.is right)
    (c.join.ensures.moves w before _ (at_stop m c.args.at.slot c.args.at.thread c.args.at.frame c.args.stop _ c.args.at.point w before c.in-Join.is but going same right))

pub returns-in-Call-clause-moves : goal.returns-in-Call-clause-moves
returns-in-Call-clause-moves c = λ w before but going same.
    let m = c.args.self.now in
    let s = stop_of (table_of m.program) c.args.stop in
    let right = sym (c.is_right.ensures w.table but.all.program but.all.history) ∙ c.if-not-is_right.false in
    moves_as _ w _ _ _ (stop_as m c.args.at.slot c.args.at.thread c.args.at.frame c.args.stop _ c.args.at.point w before c.in-Call.is right)
    (c.call.ensures.moves w before _ (at_stop m c.args.at.slot c.args.at.thread c.args.at.frame c.args.stop _ c.args.at.point w before c.in-Call.is but going same right))

pub returns-in-Return-clause-moves : goal.returns-in-Return-clause-moves
returns-in-Return-clause-moves c = λ w before but going same.
    let m = c.args.self.now in
    let s = stop_of (table_of m.program) c.args.stop in
    let right = sym (c.is_right.ensures w.table but.all.program but.all.history) ∙ c.if-not-is_right.false in
    moves_as _ w _ _ _ (stop_as m c.args.at.slot c.args.at.thread c.args.at.frame c.args.stop _ c.args.at.point w before c.in-Return.is right)
    (c.give_back.ensures.moves w before _ (at_stop m c.args.at.slot c.args.at.thread c.args.at.frame c.args.stop _ c.args.at.point w before c.in-Return.is but going same right))

pub returns-in-Begin-clause-moves : goal.returns-in-Begin-clause-moves
returns-in-Begin-clause-moves c = λ w before but going same.
    let m = c.args.self.now in
    let s = stop_of (table_of m.program) c.args.stop in
    let right = sym (c.is_right.ensures w.table but.all.program but.all.history) ∙ c.if-not-is_right.false in
    moves_as _ w _ _ _ (stop_as m c.args.at.slot c.args.at.thread c.args.at.frame c.args.stop _ c.args.at.point w before c.in-Begin.is right)
    (c.begin.ensures.moves w before _ (at_stop m c.args.at.slot c.args.at.thread c.args.at.frame c.args.stop _ c.args.at.point w before c.in-Begin.is but going same right))

pub returns-in-End-clause-moves : goal.returns-in-End-clause-moves
returns-in-End-clause-moves c = λ w before but going same.
    let m = c.args.self.now in
    let s = stop_of (table_of m.program) c.args.stop in
    let right = sym (c.is_right.ensures w.table but.all.program but.all.history) ∙ c.if-not-is_right.false in
    moves_as _ w _ _ _ (stop_as m c.args.at.slot c.args.at.thread c.args.at.frame c.args.stop _ c.args.at.point w before c.in-End.is right)
    (c.end.ensures.moves w before _ (at_stop m c.args.at.slot c.args.at.thread c.args.at.frame c.args.stop _ c.args.at.point w before c.in-End.is but going same right))

pub returns-in_default-clause-moves : goal.returns-in_default-clause-moves
returns-in_default-clause-moves c = λ w before but going same.
    let m = c.args.self.now in
    let t = table_of m.program in
    let s = stop_of t c.args.stop in
    let right = sym (c.is_right.ensures w.table but.all.program but.all.history) ∙ c.if-not-is_right.false in
    moves_as _ w _ _ _ (stop_as m c.args.at.slot c.args.at.thread c.args.at.frame c.args.stop c.args.stop c.args.at.point w before refl right)
    (c.perform.ensures.moves w before _ (at_stop m c.args.at.slot c.args.at.thread c.args.at.frame c.args.stop c.args.stop c.args.at.point w before refl but going same right)
    (not_of_threads t c.args.stop c.in_default.not-Spawn c.in_default.not-Join c.in_default.not-Call c.in_default.not-Return c.in_default.not-Begin c.in_default.not-End))
