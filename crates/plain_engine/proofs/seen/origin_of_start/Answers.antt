use Rattle.std.proofs.Common.{Contains, Some, ◌∙◌, ap, subst}
use Rattle.plain_engine.proofs.KnownMarks.{start_known, start_unknown}
use Rattle.plain_engine.proofs.seen.origin_of_start.Goals as goal

pub returns-in-Some : goal.returns-in-Some
returns-in-Some g c = λ versions.
    start_known (g.M.Machine.shown c.args.run.now).words c.args.names.now versions c.args.function c.in-Some.id
    (c.in-Some.ensures.found ∙ ap Some c.name_of.ensures)

pub returns-in-None : goal.returns-in-None
returns-in-None g c = λ versions.
    start_unknown (g.M.Machine.shown c.args.run.now).words c.args.names.now versions c.args.function
    (subst (λ z. Contains c.args.names.now z → ⊥) c.name_of.ensures c.in-None.ensures.absent)
