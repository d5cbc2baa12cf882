use Rattle.std.proofs.Common.{true, refl, ap, ◌∙◌}
use Rattle.source_model.specs.Worlds.{Trapped}
use Rattle.source_runner.specs.declared.thread.Next.TheVariants.{Halt}
use Rattle.source_programs.specs.Programs.{table_of}
use Rattle.source_runner.specs.Frames.{frames_of}
use Rattle.source_runner.proofs.Stopping.{ended_same, frame_with, moves_as, resumes_at, stays_at, thread_at, traps_at}
use Rattle.source_runner.proofs.Halted.{at_over, halted_thread}
use Rattle.source_runner.proofs.machine.Machine.resume.Goals as goal

pub returns-in-At-clause-moves : goal.returns-in-At-clause-moves
returns-in-At-clause-moves c = λ w before but going same.
    let m = c.args.self.now in
    let t = table_of m.program in
    let next = (same.does refl).1 in
    moves_as _ w _ _ _
    (resumes_at t w c.args.slot before c.args.frame c.in-At.stop c.in-At.point (frames_of t c.args.thread.below.items) next.0 next.1
    (frame_with t c.args.frame c.args.halt _ next.0 c.in-At.is next.2))
    (c.stop.ensures.moves w before but going
    (thread_at t _ c.args.thread _ _ before (ap (Halt c.args.frame) c.in-At.is) same))

pub returns-in-Trap-clause-moves : goal.returns-in-Trap-clause-moves
returns-in-Trap-clause-moves c = λ w before but going same.
    let m = c.args.self.now in
    let t = table_of m.program in
    let next = (same.does refl).1 in
    moves_as _ w _ _ _
    (traps_at t w c.args.slot before c.args.frame c.args.halt (frames_of t c.args.thread.below.items) next.0 c.in-Trap.kind next.1 next.2 c.in-Trap.is
    ∙ ended_same m c.args.slot w before (Trapped c.in-Trap.kind c.args.slot) but)
    (c.trap.ensures.moves w before before but (halted_thread _ _ true _ _ _ _ refl same))

pub returns-in-Nothing-clause-moves : goal.returns-in-Nothing-clause-moves
returns-in-Nothing-clause-moves c = λ w before but going same.
    let t = table_of c.args.self.now.program in
    let next = (same.does refl).1 in
    moves_as _ w _ _ _
    (stays_at t w c.args.slot before c.args.frame c.args.halt (frames_of t c.args.thread.below.items) next.0 next.1 next.2 c.in-Nothing.is)
    (c.stay.ensures.moves w before but (at_over _ _ _ _ _ going same))
