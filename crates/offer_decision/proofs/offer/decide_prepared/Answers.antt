use Rattle.std.proofs.Common.{subst}
use Rattle.patch_build.specs.Versions.{ForVersions}
use Rattle.rows_in_force.specs.StoreRows.{AreRowsOver}
use Rattle.offer_decision.specs.Prepared.{IsFound}
use Rattle.offer_decision.specs.Steps.{IsAnswer}
use Rattle.offer_decision.proofs.Whole.{of_prepared_cause, of_prepared_patch}
use Rattle.offer_decision.proofs.offer.decide_prepared.Goals as goal

pub returns-in-Patch : goal.returns-in-Patch
returns-in-Patch c = λ versions next same_names same_store is.
    of_prepared_patch versions next c.in-Patch.patch c.in-Patch.rows c.args.seats.now c.args.names.now c.args.store.now same_names same_store
    (subst (λ f. ForVersions versions (λ texts. IsFound texts versions next f)) c.in-Patch.is is.found) c.answer.result
    (subst (λ rows. AreRowsOver c.args.store.now rows → IsAnswer c.args.names.now c.args.store.now c.in-Patch.patch c.args.seats.now c.answer.result)
    c.deref.ensures c.answer.ensures)

pub returns-in-NotPatch : goal.returns-in-NotPatch
returns-in-NotPatch c = λ versions next same_names same_store is.
    of_prepared_cause versions next c.in-NotPatch.cause c.args.seats.now
    (subst (λ f. ForVersions versions (λ texts. IsFound texts versions next f)) c.in-NotPatch.is is.found)
