use Rattle.std.proofs.Common.{false, ◌∙◌}
use Rattle.code_machine.proofs.PrivateWork.{fits_leaving, seen_leaving}
use Rattle.code_machine.proofs.running.Running.settle.Goals as goal

pub returns-clause-fits : goal.returns-clause-fits
returns-clause-fits c = fits_leaving _ _ c.run_on.new.self false (λ e. absurd (c.run_on.ensures.settled e)) c.run_on.ensures.fits

pub returns-clause-seen : goal.returns-clause-seen
returns-clause-seen c = seen_leaving c.args.image.now c.run_on.new.self false ∙ c.run_on.ensures.seen

pub returns-clause-runs : goal.returns-clause-runs
returns-clause-runs c = λ all versions code.
    let now = c.run_on.ensures.runs all versions code in
    record { image_is = now.image_is; frames = now.frames }
