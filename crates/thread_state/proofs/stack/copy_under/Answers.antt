use Rattle.std.proofs.Common.{suc, ◌+◌, ◌-◌, ◌≤◌, sym, ap, arith, length}
use Rattle.bytecode.specs.Meaning.{Goes}
use Rattle.thread_state.specs.Frames.{most_words}
use Rattle.thread_state.proofs.FrameWords.{changed, newest_two, put_three, unchanged}
use Rattle.thread_state.proofs.TurnLaws.{settles}
use Rattle.thread_state.proofs.stack.copy_under.Goals as goal

pub returns : goal.returns
returns c =
    let takes : 2 ≤ c.args.spot.height = c.requires.sound.takes in
    let low : c.args.spot.height - 2 + 3 ≤ most_words = c.requires.low_after in
    let space : c.args.spot.base + c.args.spot.room + most_words ≤ length c.args.words.now = c.requires.space in
    settles (suc c.args.spot.place) (suc (suc (suc (c.args.spot.height - 2)))) _ (rw (newest_two c.args.words.now (c.args.spot.base + c.args.spot.room) c.args.spot.height takes) (sym (ap Goes (put_three c.args.words.now c.args.spot.base c.args.spot.room (suc c.args.spot.place) (c.args.spot.height - 2) _ _ _ _ _ _ (omega arith) (omega arith) (omega arith) (omega arith))))) (omega arith) c.requires.sound.goes.0 (omega arith) (omega arith) (omega arith)
    (changed c.args.spot.base (c.args.spot.base + c.args.spot.room + most_words) c.args.words.now _ _ _ (omega arith) (omega arith) (changed c.args.spot.base (c.args.spot.base + c.args.spot.room + most_words) c.args.words.now _ _ _ (omega arith) (omega arith) (changed c.args.spot.base (c.args.spot.base + c.args.spot.room + most_words) c.args.words.now c.args.words.now _ _ (omega arith) (omega arith) (unchanged c.args.spot.base (c.args.spot.base + c.args.spot.room + most_words) c.args.words.now))))
