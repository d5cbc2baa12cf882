use Rattle.std.proofs.Common.{suc, ◌+◌, ◌-◌, ◌≤◌, refl, arith}
use Rattle.thread_state.proofs.FrameWords.{newest}
use Rattle.thread_state.proofs.TurnLaws.{moves}
use Rattle.thread_state.proofs.stack.drop_newest.Goals as goal

pub returns : goal.returns
returns c =
    let takes : 1 ≤ c.args.spot.height = c.requires.sound.takes in
    moves (suc c.args.spot.place) (c.args.spot.height - 1) _ (rw (newest c.args.words.now (c.args.spot.base + c.args.spot.room) c.args.spot.height takes) refl) (omega arith) c.requires.sound.goes.0 (omega arith) (omega arith) refl
