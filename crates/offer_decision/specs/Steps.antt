-- What the steps promise one another.
use Rattle.std.specs.Prelude.{◌≡◌, ℕ, ◌<◌, ◌↔◌, ◌⊎◌, IsTrue, Bool, List, length, Option, Some, None, slice_get}
use Rattle.name_sets.specs.IdSet.{IsCommon}
use Rattle.name_sets.specs.Texts.{IsTable}
use Rattle.c_tree.specs.BareExpr.{Bytes}
use Rattle.c_semantics.specs.Store.{Body}
use Rattle.code_store.specs.declared.body.StoredBody.{StoredBody}
use Rattle.code_store.specs.Stored.{IsStoreOf}
use Rattle.con_freeness.specs.declared.row.Row.{Row}
use Rattle.con_freeness.specs.Decisions.{IsListOf}
use Rattle.con_freeness.specs.Rows.{Names}
use Rattle.source_model.specs.Guards.{Rules}
use Rattle.source_model.specs.Guards as kept
use Rattle.effects.specs.Rows.{AreRows}
use Rattle.checkin_rows.specs.Rows.{IsRow, IsEmptyRow}
use Rattle.rows_in_force.specs.declared.origin.Origin.{Origin}
use Rattle.rows_in_force.specs.Origins.{function_of, mark_of}
use Rattle.patch_build.specs.declared.fault.PatchFault.{PatchFault}
use Rattle.patch_build.specs.declared.fault.PatchFault.TheVariants.{Not}
use Rattle.patch_build.specs.declared.patch.Patch.{Patch}
use Rattle.offer_decision.specs.declared.answer.Decision.{Decision}
use Rattle.offer_decision.specs.declared.answer.Decision.TheVariants as decision
use Rattle.offer_decision.specs.declared.answer.Tested.{Tested}
use Rattle.offer_decision.specs.declared.answer.Tested.TheVariants as tested
use Rattle.offer_decision.specs.declared.prepared.Found.{Found}
use Rattle.offer_decision.specs.declared.prepared.Found.TheVariants as found
use Rattle.offer_decision.specs.declared.seat.Seat.{Seat}
use Rattle.offer_decision.specs.Decided.{IsRefusal, IsAdmission}
use Rattle.offer_decision.specs.Seats.{AreSeats}

-- a row is that of an origin; the row of a slot without a live thread has no names
abbrev pub HasRow : List Bytes → List Body → Option Origin → Row → Type 0
HasRow names bodies None row = IsEmptyRow row
HasRow names bodies (Some origin) row = function_of origin < length names → IsRow names bodies (mark_of names bodies origin) row

-- the rows are those of the slots
abbrev pub HaveRows : List Bytes → List Body → List Seat → List Row → Type 0
HaveRows names bodies seats rows =
    (n : ℕ) (seat : Seat) (row : Row) → slice_get seats n ≡ Some seat → slice_get rows n ≡ Some row
    → HasRow names bodies seat.origin row

-- the pins are those of the slots
abbrev pub ArePinsBefore : List Seat → List Bool → Type 0
ArePinsBefore seats pins =
    (n : ℕ) (seat : Seat) (pin : Bool) → slice_get seats n ≡ Some seat → slice_get pins n ≡ Some pin → pin ≡ seat.pinned

-- the pin that an install sets, by the changed set and the row in force before it
abbrev pub IsPin : ℕ → Row → Seat → Bool → Type 0
IsPin changed row seat pin =
    IsTrue pin ↔ (IsTrue seat.pinned ⊎ (IsTrue seat.in_transaction × ((id : ℕ) × IsCommon changed row.prior id)))

-- the pins are those that an install sets
abbrev pub ArePinsAfter : ℕ → List Row → List Seat → List Bool → Type 0
ArePinsAfter changed rows seats pins =
    (n : ℕ) (row : Row) (seat : Seat) (pin : Bool)
    → slice_get rows n ≡ Some row → slice_get seats n ≡ Some seat → slice_get pins n ≡ Some pin → IsPin changed row seat pin

-- an answer of the test says what it should
abbrev pub SaysRight : Rules → List Body → List kept.Seat → List Seat → Names → Names → Names → Tested → Type 0
SaysRight rules bodies slots seats names changed interface (tested.Admitted pins) =
    IsAdmission rules bodies slots seats changed interface pins
SaysRight rules bodies slots seats names changed interface (tested.Refused r) =
    IsRefusal rules bodies slots names changed interface r

-- the answer of the test over rows and sets of ids
abbrev pub IsTested : List Bytes → ℕ → ℕ → List Row → List Seat → Tested → Type 0
IsTested names changed interface rows seats answer =
    (rules : Rules) (bodies : List Body) (slots : List kept.Seat) (changed_names interface_names : Names)
    → AreRows rules.row → IsTable names → HaveRows names bodies seats rows → AreSeats names bodies seats slots
    → IsListOf names changed changed_names → IsListOf names interface interface_names
    → SaysRight rules bodies slots seats names changed_names interface_names answer

-- the answer of the test over the bodies of a store
abbrev pub IsTestedOver : List Bytes → List StoredBody → ℕ → ℕ → List Seat → Tested → Type 0
IsTestedOver names stored changed interface seats answer =
    (rules : Rules) (bodies : List Body) (slots : List kept.Seat) (changed_names interface_names : Names)
    → AreRows rules.row → IsStoreOf names bodies stored → AreSeats names bodies seats slots
    → IsListOf names changed changed_names → IsListOf names interface interface_names
    → SaysRight rules bodies slots seats names changed_names interface_names answer

-- a decision says right what the test does, on a patch
abbrev pub SaysOfPatch : Rules → List Body → List kept.Seat → List Seat → Names → Names → Names → Patch → Decision → Type 0
SaysOfPatch rules bodies slots seats names changed interface patch (decision.Admitted own pins) =
    (own ≡ patch) × IsAdmission rules bodies slots seats changed interface pins
SaysOfPatch rules bodies slots seats names changed interface patch (decision.Refused r) =
    IsRefusal rules bodies slots names changed interface r
SaysOfPatch rules bodies slots seats names changed interface patch (decision.NotPatch cause) = ⊥

-- the decision on a patch over the bodies of a store
abbrev pub IsAnswer : List Bytes → List StoredBody → Patch → List Seat → Decision → Type 0
IsAnswer names stored patch seats decision =
    (rules : Rules) (bodies : List Body) (slots : List kept.Seat) (changed_names interface_names : Names)
    → AreRows rules.row → IsStoreOf names bodies stored → AreSeats names bodies seats slots
    → IsListOf names patch.changed changed_names → IsListOf names patch.interface interface_names
    → SaysOfPatch rules bodies slots seats names changed_names interface_names patch decision

-- what is found where there is no patch
abbrev pub IsOfFault : PatchFault → Found → Type 0
IsOfFault fault (found.NotPatch cause) = fault ≡ Not cause
IsOfFault fault _ = ⊥
