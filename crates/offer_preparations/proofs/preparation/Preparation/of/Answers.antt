use Rattle.std.proofs.Common.{refl, subst}
use Rattle.version_copies.specs.SameBodies.{HaveSameBodies}
use Rattle.offer_preparations.proofs.Made.{begun}
use Rattle.offer_preparations.proofs.preparation.Preparation.of.Goals as goal

pub returns-clause-is : goal.returns-clause-is
returns-clause-is c = λ its.
    let copies = c.in_ok-store.store in
    begun c.args.installed.now _ (subst (λ bodies. HaveSameBodies bodies copies) c.store.ensures c.in_ok-store.ensures) refl (c.rows_of.ensures its)
