use Rattle.std.proofs.Common.{◌∷◌, ◌∙◌, ap, rules}
use Rattle.source_programs.specs.Programs.{table_of}
use Rattle.source_runner.specs.Frames.{frame_of, frames_of}
use Rattle.source_runner.specs.Queries.{place_up}
use Rattle.source_runner.proofs.Looking.{frame_halts}
use Rattle.source_runner.proofs.machine.Machine.frame_up.Goals as goal

pub returns-in-Some-Live-default-Halt : goal.returns-in-Some-Live-default-Halt
returns-in-Some-Live-default-Halt c = λ w h going.
    let m = c.args.self.now in
    let t = table_of m.program in
    let there = c.in-Some-Live-default-Halt in
    frame_halts m w c.args.slot there.thread there.field-0-1 there.frame there.field-0-1-1 c.args.up c.above.result h going
    (search rules) there.field-0-1-is
    (c.above.ensures t ∙ ap (λ fs. place_up (frame_of t there.frame ∷ frames_of t fs) c.args.up) c.as_slice.ensures.value)
