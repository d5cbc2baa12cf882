use Rattle.std.proofs.Common.{sym, ap, ◌∙◌}
use Rattle.std.specs.Option.{is_some}
use Rattle.source_runner.specs.declared.thread.Next.TheVariants.{Halt}
use Rattle.source_runner.specs.Frames.{frames_of}
use Rattle.source_programs.specs.Programs.{table_of}
use Rattle.source_runner.proofs.Looking.{moves_at}
use Rattle.source_runner.proofs.machine.Machine.can_act.Goals as goal

pub returns-in-At : goal.returns-in-At
returns-in-At c = λ w slot own h same.
    let m = c.args.self.now in
    let t = table_of m.program in
    let th = c.args.thread.now in
    let f = c.in-Halt.frame in
    c.can_stop.ensures w slot own c.in-At.field-1 (frames_of t th.below.items) h same.depth
    ∙ sym (ap is_some
    (moves_at t w slot th f c.in-At.stop c.in-At.field-1 c.args.next.now own
    (c.in-Halt.is ∙ ap (Halt f) c.in-At.is) same))
