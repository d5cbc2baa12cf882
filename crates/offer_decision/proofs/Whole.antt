-- The decision, from its parts.
use Rattle.std.proofs.Common.{◌≡◌, List, None, sym, subst}
use Rattle.std.specs.Prelude.{Err, IfOk, Ok, Result}
use Rattle.std.specs.Arc.{arc_value}
use Rattle.std.specs.declared.alloc.Global.{Global}
use Rattle.std.specs.declared.sync.Arc.{Arc}
use Rattle.c_tree.specs.BareDef.{BareDef}
use Rattle.c_tree.specs.BareExpr.{Bytes}
use Rattle.c_tree.specs.declared.def.Program.{Program}
use Rattle.c_semantics.specs.Changes.{changed, interface}
use Rattle.c_semantics.specs.SourceTexts.{Text, text_of}
use Rattle.c_semantics.specs.Store.{store}
use Rattle.con_freeness.specs.Decisions.{IsListOf}
use Rattle.source_model.specs.Guards.{Rules}
use Rattle.source_model.specs.Guards as kept
use Rattle.source_model.specs.declared.patch.NotPatch.{NotPatch}
use Rattle.source_model.specs.Patches.{last_definitions, not_patch}
use Rattle.effects.specs.Rows.{AreRows}
use Rattle.code_store.specs.declared.body.StoredBody.{StoredBody}
use Rattle.checkin_rows.specs.Rows.{Contents}
use Rattle.rows_in_force.specs.StoreRows.{AreRowsOver}
use Rattle.patch_build.specs.declared.fault.PatchFault.{PatchFault}
use Rattle.patch_build.specs.declared.patch.Patch.{Patch}
use Rattle.patch_build.specs.declared.patch.Versions.{Versions}
use Rattle.patch_build.specs.Faults.{IsCause}
use Rattle.patch_build.specs.Versions.{AreVersions, ForVersions}
use Rattle.offer_decision.specs.declared.answer.Decision.{Decision}
use Rattle.offer_decision.specs.declared.answer.Decision.TheVariants as decision
use Rattle.offer_decision.specs.declared.answer.DecisionFault.{DecisionFault}
use Rattle.offer_decision.specs.declared.seat.Seat.{Seat}
use Rattle.offer_decision.specs.Decided.{ForOffer, IsDecision}
use Rattle.offer_decision.specs.declared.prepared.Found.{Found}
use Rattle.offer_decision.specs.declared.prepared.Found.TheVariants as found
use Rattle.offer_decision.specs.declared.prepared.Prepared.{Prepared}
use Rattle.offer_decision.specs.Patches.{IsPatchFor}
use Rattle.offer_decision.specs.Prepared.{IsFound, IsPrepared}
use Rattle.offer_decision.specs.Seats.{AreSeats}
use Rattle.offer_decision.specs.Steps.{IsAnswer, IsOfFault, SaysOfPatch}
use Rattle.offer_decision.proofs.ChangedNames.{changed_known, interface_known, list_by_older}

-- the sets of a patch, by the names of the versions before it
changed_is : (texts : List Text) (v : Versions) (next : Program) (patch : Patch) → AreVersions texts v → IsPatchFor texts v next patch
    → IsListOf v.names.now patch.changed (changed (last_definitions texts) (text_of next).definitions)
changed_is texts v next patch are is =
    list_by_older v.names.now patch.names patch.changed (changed (last_definitions texts) (text_of next).definitions) is.ids
    (changed_known texts v (text_of next).definitions are) is.changed

interface_is : (texts : List Text) (v : Versions) (next : Program) (patch : Patch) → AreVersions texts v → IsPatchFor texts v next patch
    → IsListOf v.names.now patch.interface (interface (last_definitions texts) (text_of next).definitions)
interface_is texts v next patch are is =
    list_by_older v.names.now patch.names patch.interface (interface (last_definitions texts) (text_of next).definitions) is.ids
    (interface_known texts v (text_of next).definitions are) is.interface

-- what the decision on a patch says
of_patch : (v : Versions) (next : Program) (patch : Patch) (seats : List Seat) (rules : Rules) (texts : List Text) (slots : List kept.Seat)
    → AreRows rules.row → AreVersions texts v → AreSeats v.names.now (store texts) seats slots
    → not_patch (store texts) texts (text_of next) ≡ None → IsPatchFor texts v next patch
    → (d : Decision) → IsAnswer v.names.now v.store.now patch seats d → IsDecision rules texts slots v next seats d
of_patch v next patch seats rules texts slots rows are own none is d answer =
    by d
    (answer rules (store texts) slots (changed p q) (interface p q) rows are.store_is own (changed_is texts v next patch are is)
    (interface_is texts v next patch are is))
  where
    p : List BareDef
    p = last_definitions texts

    q : List BareDef
    q = (text_of next).definitions

    by : (d : Decision) → SaysOfPatch rules (store texts) slots seats v.names.now (changed p q) (interface p q) patch d
        → IsDecision rules texts slots v next seats d
    by (decision.Admitted own pins) says = (none, says.1, subst (IsPatchFor texts v next) (sym says.0) is)
    by (decision.Refused r) says = (none, says)
    by (decision.NotPatch cause) says = absurd says

-- the decision on a prepared patch, over the names and the bodies of the versions
pub of_prepared_patch : (v : Versions) (next : Program) (patch : Patch) (rows : Arc Contents Global) (seats : List Seat) (names : List Bytes)
    (stored : List StoredBody) → v.names.now ≡ names → v.store.now ≡ stored
    → ForVersions v (λ texts. IsFound texts v next (found.Patch patch rows))
    → (d : Decision) → (AreRowsOver stored (arc_value rows) → IsAnswer names stored patch seats d)
    → ForOffer v seats (λ rules texts slots. IsDecision rules texts slots v next seats d)
of_prepared_patch v next patch rows seats names stored same_names same_store says d answer = λ rules texts slots are_rows are own.
    let is = says texts are in
    let there : IsAnswer names stored patch seats d = answer (subst (λ bodies. AreRowsOver bodies (arc_value rows)) same_store is.2) in
    of_patch v next patch seats rules texts slots are_rows are own is.0 is.1 d
    (subst (λ ns. IsAnswer ns v.store.now patch seats d) (sym same_names)
    (subst (λ bodies. IsAnswer names bodies patch seats d) (sym same_store) there))

-- the decision where there is no patch
pub of_prepared_cause : (v : Versions) (next : Program) (cause : NotPatch) (seats : List Seat)
    → ForVersions v (λ texts. IsFound texts v next (found.NotPatch cause))
    → ForOffer v seats (λ rules texts slots. IsDecision rules texts slots v next seats (decision.NotPatch cause))
of_prepared_cause v next cause seats says = λ rules texts slots are_rows are own. says texts are

-- what is prepared where there is no patch
pub of_fault : (v : Versions) (next : Program) (fault : PatchFault) (r : Result Prepared DecisionFault)
    → ForVersions v (λ texts. IsCause (not_patch (store texts) texts (text_of next)) fault)
    → IfOk r (λ p. p.versions ≡ v.count) → IfOk r (λ p. IsOfFault fault p.found) → IfOk r (IsPrepared v next)
of_fault v next fault (Err why) caused count is = tt
of_fault v next fault (Ok p) caused count is = record { count = count; found = by p.found is }
  where
    by : (f : Found) → IsOfFault fault f → ForVersions v (λ texts. IsFound texts v next f)
    by (found.NotPatch cause) is = λ texts are. subst (IsCause (not_patch (store texts) texts (text_of next))) is (caused texts are)
    by (found.Patch patch rows) is = absurd is
