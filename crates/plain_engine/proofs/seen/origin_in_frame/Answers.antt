use Rattle.std.proofs.Common.{Contains, Some, ◌∙◌, ap, subst}
use Rattle.plain_engine.proofs.KnownMarks.{frame_known, frame_unknown}
use Rattle.plain_engine.proofs.seen.origin_in_frame.Goals as goal

pub returns-in-Some : goal.returns-in-Some
returns-in-Some g c =
    frame_known (g.M.Machine.shown c.args.run.now).words c.args.names.now c.args.versions c.args.frame c.in-Some.id c.version_of.result
    (c.in-Some.ensures.found ∙ ap Some c.word.ensures) c.version_of.ensures

pub returns-in-None : goal.returns-in-None
returns-in-None g c =
    frame_unknown (g.M.Machine.shown c.args.run.now).words c.args.names.now c.args.versions c.args.frame
    (subst (λ z. Contains c.args.names.now z → ⊥) c.word.ensures c.in-None.ensures.absent)
