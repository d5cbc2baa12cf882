use Rattle.std.proofs.Common.{suc, ◌+◌, ◌-◌, ◌≤◌, refl, arith}
use Rattle.thread_state.proofs.FrameWords.{newest}
use Rattle.thread_state.proofs.TurnLaws.{moves, not_zero}
use Rattle.thread_state.proofs.jumps.jump_unless_zero.Goals as goal

pub returns-then-words-top-eq0 : goal.returns-then-words-top-eq0
returns-then-words-top-eq0 c =
    let takes : 1 ≤ c.args.spot.height = c.requires.sound.takes in
    moves (suc c.args.spot.place) (c.args.spot.height - 1) _ (rw (newest c.args.words.now (c.args.spot.base + c.args.spot.room) c.args.spot.height takes, c.if-words-top-eq0.true) refl) (omega arith) c.requires.sound.goes.0 (omega arith) (omega arith) refl

pub returns-else-words-top-eq0 : goal.returns-else-words-top-eq0
returns-else-words-top-eq0 c =
    let takes : 1 ≤ c.args.spot.height = c.requires.sound.takes in
    moves (suc c.args.spot.place + c.args.distance) (c.args.spot.height - 1) _ (rw (newest c.args.words.now (c.args.spot.base + c.args.spot.room) c.args.spot.height takes, not_zero _ c.if-words-top-eq0.false) refl) (omega arith) c.requires.sound.goes.1.0 (omega arith) (omega arith) refl
