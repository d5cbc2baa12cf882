use Rattle.std.proofs.Common.{◌+◌, ◌-◌, ◌≤◌, refl, sym, ◌∙◌, arith}
use Rattle.thread_state.proofs.FrameWords.{newest_two}
use Rattle.thread_state.proofs.TurnLaws.{gives_trap, gives_word, puts, traps}
use Rattle.thread_state.proofs.operators.binary.Goals as goal

pub returns-in-Ok : goal.returns-in-Ok
returns-in-Ok c =
    let takes : 2 ≤ c.args.spot.height = c.requires.sound.takes in
    puts (c.args.spot.height - 2) c.requires (rw (newest_two c.args.words.now (c.args.spot.base + c.args.spot.room) c.args.spot.height takes) (gives_word _ _ _ (sym c.in-Ok.is ∙ c.binary.ensures))) refl (omega arith) (omega arith) (omega arith) (omega arith)

pub returns-in-Err : goal.returns-in-Err
returns-in-Err c =
    let takes : 2 ≤ c.args.spot.height = c.requires.sound.takes in
    traps (rw (newest_two c.args.words.now (c.args.spot.base + c.args.spot.room) c.args.spot.height takes, c.from.ensures) (gives_trap _ _ _ (sym c.in-Err.is ∙ c.binary.ensures)))
