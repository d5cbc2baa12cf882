use Rattle.std.proofs.Common.{◌+◌, refl, arith}
use Rattle.thread_state.proofs.FrameWords.{upward_get}
use Rattle.thread_state.proofs.TurnLaws.{puts}
use Rattle.thread_state.proofs.stack.load.Goals as goal

pub returns : goal.returns
returns c =
    let variable = upward_get c.args.words.now c.args.spot.base c.args.spot.room c.args.n (c.args.spot.base + c.args.n) c.requires.sound.uses refl in
    puts c.args.spot.height c.requires (rw variable refl) refl (omega arith) refl (omega arith) (omega arith)
