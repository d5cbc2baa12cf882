use Rattle.std.proofs.Common.{suc, ◌+◌, ◌-◌, ◌≤◌, ◌<◌, refl, arith, length}
use Rattle.thread_state.specs.Frames.{most_words}
use Rattle.thread_state.proofs.FrameWords.{changed, newest, unchanged}
use Rattle.thread_state.proofs.TurnLaws.{settles, takes_in}
use Rattle.thread_state.proofs.stack.store.Goals as goal

pub returns : goal.returns
returns c =
    let takes : 1 ≤ c.args.spot.height = c.requires.sound.takes in
    let space : c.args.spot.base + c.args.spot.room + most_words ≤ length c.args.words.now = c.requires.space in
    let uses : c.args.n < c.args.spot.room = c.requires.sound.uses in
    settles (suc c.args.spot.place) (c.args.spot.height - 1) _ (rw (newest c.args.words.now (c.args.spot.base + c.args.spot.room) c.args.spot.height takes) (takes_in c.args.words.now c.args.spot.base c.args.spot.room c.args.spot.place c.args.spot.height (c.args.spot.height - 1) c.args.n _ uses (omega arith))) (omega arith) c.requires.sound.goes.0 (omega arith) (omega arith) refl
    (changed c.args.spot.base (c.args.spot.base + c.args.spot.room + most_words) c.args.words.now c.args.words.now (c.args.spot.base + c.args.n) _ (omega arith) (omega arith) (unchanged c.args.spot.base (c.args.spot.base + c.args.spot.room + most_words) c.args.words.now))
