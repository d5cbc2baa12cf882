use Rattle.std.proofs.Common.{◌+◌, ◌-◌, ◌≤◌, refl, arith}
use Rattle.thread_state.proofs.FrameWords.{newest}
use Rattle.thread_state.proofs.TurnLaws.{puts}
use Rattle.thread_state.proofs.operators.convert.Goals as goal

pub returns : goal.returns
returns c =
    let takes : 1 ≤ c.args.spot.height = c.requires.sound.takes in
    puts (c.args.spot.height - 1) c.requires (rw (newest c.args.words.now (c.args.spot.base + c.args.spot.room) c.args.spot.height takes, c.convert.ensures) refl) refl (omega arith) (omega arith) (omega arith) (omega arith)
