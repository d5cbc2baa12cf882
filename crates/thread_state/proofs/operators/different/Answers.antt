use Rattle.std.proofs.Common.{◌+◌, ◌-◌, ◌≤◌, refl, arith}
use Rattle.thread_state.proofs.FrameWords.{newest_two}
use Rattle.thread_state.specs.Frames.{state_at}
use Rattle.thread_state.proofs.TurnLaws.{puts, test_word}
use Rattle.thread_state.proofs.operators.different.Goals as goal

pub returns : goal.returns
returns c =
    let takes : 2 ≤ c.args.spot.height = c.requires.sound.takes in
    puts (c.args.spot.height - 2) c.requires (rw (newest_two c.args.words.now (c.args.spot.base + c.args.spot.room) c.args.spot.height takes) (test_word (state_at c.args.words.now c.args.spot.base c.args.spot.room c.args.spot.place c.args.spot.height) _ _)) refl (omega arith) (omega arith) (omega arith) (omega arith)
