use Rattle.std.proofs.Common.{◌∙◌, length, ap, subst, sym}
use Rattle.word_frames.specs.declared.frame.Frame.{Frame}
use Rattle.code_machine.specs.declared.running.Running.{Running}
use Rattle.code_machine.specs.Stops.{CanGoOn, Executed}
use Rattle.code_machine.proofs.Going.{stands_and_continues}
use Rattle.code_machine.proofs.PrivateWork.{can_execute, seen_due}
use Rattle.code_machine.proofs.running.Running.execute_due.Goals as goal

pub execute-requires : goal.execute-requires
execute-requires c =
    let image = c.args.image.now in
    let old = c.args.self.now in
    subst (λ (f : Frame). CanGoOn image.functions.items old f.place f.height) (sym c.innermost-frame.ensures)
    (can_execute image.functions.items (length image.callees.items) old c.requires.fits c.requires.due)

pub returns-clause-seen : goal.returns-clause-seen
returns-clause-seen c =
    let old = c.args.self.now in
    seen_due c.args.image.now old c.execute.new.self c.requires.due (c.requires.fits.owes c.requires.due).some
    (subst (λ (f : Frame). Executed c.args.image.now old c.execute.new.self f.point f.place f.height) c.innermost-frame.ensures c.execute.ensures.executed)

pub returns-clause-settled : goal.returns-clause-settled
returns-clause-settled c = λ e.
    let done = c.execute.ensures.executed in
    absurd (stands_and_continues done.end (sym (ap (λ (r : Running). r.next) done.is) ∙ e))
