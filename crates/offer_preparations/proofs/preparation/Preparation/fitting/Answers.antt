use Rattle.offer_preparations.specs.Preparations.{IsPreparation, IsPreparedOn, trees_of}
use Rattle.offer_preparations.proofs.Made.{fitting_made, if_some}
use Rattle.offer_preparations.proofs.preparation.Preparation.fitting.Goals as goal

pub returns-then-fits : goal.returns-then-fits
returns-then-fits c =
    let p = c.args.self in
    let k = c.args.k in
    let last = c.args.last in
    let installed = c.args.installed.now in
    if_some p.made (λ prepared. IsPreparation p → IsPreparedOn (trees_of p) k last installed prepared)
    (λ prepared made is. fitting_made p k last installed prepared (c.fits.ensures c.if-fits.true) made is)
