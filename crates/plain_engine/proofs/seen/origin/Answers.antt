use Rattle.std.proofs.Common.{None, subst, sym}
use Rattle.plain_engine.specs.Seen.{IsOriginOf}
use Rattle.plain_engine.proofs.KnownMarks.{nothing_kept}
use Rattle.plain_engine.proofs.seen.origin.Goals as goal

pub returns-in-Empty : goal.returns-in-Empty
returns-in-Empty g c =
    let t = (g.M.Machine.shown c.args.run.now).words in
    subst (λ kept. IsOriginOf t c.args.names.now c.args.versions kept None) (sym c.in-Empty.is)
    (nothing_kept t c.args.names.now c.args.versions)

pub returns-in-Started : goal.returns-in-Started
returns-in-Started g c =
    subst (λ kept. IsOriginOf (g.M.Machine.shown c.args.run.now).words c.args.names.now c.args.versions kept c.origin_of_start.result) (sym c.in-Started.is)
    (c.origin_of_start.ensures c.args.versions)
