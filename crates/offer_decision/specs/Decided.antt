-- What a decision on an offer says, by the texts of the versions and the slots before it.
use Rattle.std.specs.Prelude.{◌≡◌, List, Bool, map, Some, None}
use Rattle.c_tree.specs.declared.def.Program.{Program}
use Rattle.c_semantics.specs.Changes.{changed, interface}
use Rattle.c_semantics.specs.SourceTexts.{Text, text_of}
use Rattle.c_semantics.specs.Store.{Body, store}
use Rattle.con_freeness.specs.declared.refusal.Refusal.{Refusal as RefusalOfIds}
use Rattle.con_freeness.specs.Rows.{Names, verdict}
use Rattle.con_freeness.specs.Verdicts.{Verdict, Admitted, Refused, refusal_seen}
use Rattle.source_model.specs.Worlds.{World}
use Rattle.source_model.specs.Guards.{Rules, in_force, pinned_from}
use Rattle.source_model.specs.Guards as kept
use Rattle.source_model.specs.Patches.{last_definitions, not_patch}
use Rattle.effects.specs.Rows.{AreRows}
use Rattle.patch_build.specs.declared.patch.Versions.{Versions}
use Rattle.patch_build.specs.Versions.{AreVersions}
use Rattle.offer_decision.specs.declared.answer.Decision.{Decision}
use Rattle.offer_decision.specs.declared.answer.Decision.TheVariants as decision
use Rattle.offer_decision.specs.declared.seat.Seat.{Seat}
use Rattle.offer_decision.specs.Patches.{IsPatchFor}
use Rattle.con_freeness.specs.Decisions.{AreKnown}
use Rattle.offer_decision.specs.Seats.{AreSeats, AreInTransactions}

-- the verdict on changed names, among these those whose interface changes, over the rows in force of the slots
abbrev pub verdict_on : Rules → List Body → List kept.Seat → Names → Names → Verdict
verdict_on rules bodies slots = verdict (map (in_force rules bodies) slots)

-- the rows in force refuse the names, for this reason; the table has its names
pub record IsRefusal (rules : Rules) (bodies : List Body) (slots : List kept.Seat) (names changed interface : Names) (r : RefusalOfIds) : Type 0 where
  pub verdict_is : verdict_on rules bodies slots changed interface ≡ Refused (refusal_seen names r)
  pub known : AreKnown names r.effect

-- the rows in force admit the names, and these are the pins that an install sets, in each world in which the threads that
-- are seen to be in transactions are
pub record IsAdmission (rules : Rules) (bodies : List Body) (slots : List kept.Seat) (seats : List Seat) (changed interface : Names) (pins : List Bool) : Type 0 where
  pub verdict_is : verdict_on rules bodies slots changed interface ≡ Admitted
  pub pins_are : (w : World) → AreInTransactions w seats
      → map (λ s. s.pinned) (pinned_from rules bodies changed w 0 slots) ≡ pins

-- what a decision says
abbrev pub IsDecision : Rules → List Text → List kept.Seat → Versions → Program → List Seat → Decision → Type 0
IsDecision rules texts slots versions next seats (decision.NotPatch cause) =
    not_patch (store texts) texts (text_of next) ≡ Some cause
IsDecision rules texts slots versions next seats (decision.Refused r) =
    let p = last_definitions texts in
    let q = (text_of next).definitions in
    (not_patch (store texts) texts (text_of next) ≡ None)
    × IsRefusal rules (store texts) slots versions.names.now (changed p q) (interface p q) r
IsDecision rules texts slots versions next seats (decision.Admitted patch pins) =
    let p = last_definitions texts in
    let q = (text_of next).definitions in
    (not_patch (store texts) texts (text_of next) ≡ None)
    × IsAdmission rules (store texts) slots seats (changed p q) (interface p q) pins
    × IsPatchFor texts versions next patch

-- a fact of rules whose rows are those of the definitions of effects, of the texts of the versions, and of the slots that
-- are seen, whichever these are
abbrev pub ForOffer : Versions → List Seat → (Rules → List Text → List kept.Seat → Type 0) → Type 0
ForOffer versions seats fact =
    (rules : Rules) (texts : List Text) (slots : List kept.Seat)
    → AreRows rules.row → AreVersions texts versions → AreSeats versions.names.now (store texts) seats slots
    → fact rules texts slots
