use Rattle.std.proofs.Common.{ℕ, List, length, subst, ap, arith}
use Rattle.thread_state.specs.Frames.{state_at}
use Rattle.word_frames.specs.Blocks.{room}
use Rattle.word_frames.specs.Changes as change
use Rattle.word_frames.proofs.FrameLists.{room_is}
use Rattle.code_machine.proofs.TakenWork.{fits_back, low_there, seen_back}
use Rattle.code_machine.proofs.Going.{runs_moved}
use Rattle.word_frames.specs.Seen.{innermost}
use Rattle.code_machine.proofs.running.Running.bring_on.Goals as goal

pub copy_in-requires-clause-space : goal.copy_in-requires-clause-space
copy_in-requires-clause-space c =
    let long = ap (λ (xs : List ℕ). length xs) c.as_slice.ensures.value in
    omega (arith, room_is, long, c.args.work.now.second)

pub copy_in-requires-clause-low : goal.copy_in-requires-clause-low
copy_in-requires-clause-low c =
    low_there c.args.image.now c.args.self.now c.args.work.now c.args.end c.requires.fits c.requires.due c.requires.same c.requires.work
    (c.args.work.now.done c.args.end c.requires.work.done)

pub returns-clause-fits : goal.returns-clause-fits
returns-clause-fits c =
    let w = c.args.work.now in
    fits_back c.args.image.now c.args.self.now w c.args.end c.requires.fits c.requires.due c.requires.same c.requires.work
    (w.done c.args.end c.requires.work.done) c.copy_in.new.self c.copy_in.ensures.kept c.copy_in.ensures.high c.copy_in.ensures.frames
    (λ t. subst (λ (xs : List ℕ). change.StateSet t c.args.self.now.frames c.copy_in.new.self (state_at xs 0 room w.place w.height)) c.as_slice.ensures.value (c.copy_in.ensures.set t))

pub returns-clause-seen : goal.returns-clause-seen
returns-clause-seen c =
    let w = c.args.work.now in
    seen_back c.args.image.now c.args.self.now w c.args.end c.requires.fits c.requires.due c.requires.same c.requires.work
    (w.done c.args.end c.requires.work.done) c.copy_in.new.self c.copy_in.ensures.kept c.copy_in.ensures.high c.copy_in.ensures.frames
    (λ t. subst (λ (xs : List ℕ). change.StateSet t c.args.self.now.frames c.copy_in.new.self (state_at xs 0 room w.place w.height)) c.as_slice.ensures.value (c.copy_in.ensures.set t))

pub returns-clause-runs : goal.returns-clause-runs
returns-clause-runs c = λ all versions code.
    let w = c.args.work.now in
    runs_moved all versions c.args.image.now c.args.self.now _ (innermost c.args.self.now.frames).point w.place w.height
    (c.requires.fits.owes c.requires.due).some c.copy_in.ensures.frames code
