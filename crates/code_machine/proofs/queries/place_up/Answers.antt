use Rattle.std.proofs.Common.{◌<◌, ◌≤◌, length, sym, ap, arith}
use Rattle.std.specs.Prelude.{option_map}
use Rattle.code_machine.specs.Queries.{place_of}
use Rattle.code_machine.proofs.AskedThreads.{frame_up_is, no_frame_up}
use Rattle.code_machine.proofs.queries.place_up.Goals as goal

pub returns-then-up-frames : goal.returns-then-up-frames
returns-then-up-frames c = λ t highest words.
    let past : length c.args.frames.now ≤ c.args.up = omega arith in
    sym (ap (option_map place_of) (no_frame_up t highest words c.args.frames.now (length c.args.frames.now) c.args.up past))

pub returns : goal.returns
returns c = λ t highest words.
    let within : c.args.up < length c.args.frames.now = omega arith in
    sym (ap (option_map place_of) (frame_up_is t highest words c.args.frames.now (length c.args.frames.now) c.args.up within))
