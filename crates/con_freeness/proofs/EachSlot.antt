-- The verdict, while the slots are looked at one after another.
use Rattle.std.proofs.Common.{◌≡◌, ℕ, suc, ◌+◌, ◌<◌, Bool, false, List, Option, Some, None, length, drop, get_or, sym, ap, ◌∙◌, arith}
use Rattle.std.proofs.lemmas.List.{at_drop_more}
use Rattle.std.proofs.lemmas.Option.{slice_get-get_or}
use Rattle.con_freeness.specs.declared.row.Row.{Row as RowOfIds}
use Rattle.con_freeness.specs.Decisions.{IsRowOf, AreSlotsOf}
use Rattle.con_freeness.specs.Verdicts.{Effect, Refused}
use Rattle.con_freeness.specs.Rows.{Names, InForce, empty_row, obstacle, first_of, verdict, verdict_from}

-- the slot at a place
abbrev pub slot_at : List InForce → ℕ → InForce
slot_at slots n = get_or slots n (record { row = empty_row; pinned = false })

-- the verdict is that of the slots from one on
abbrev pub IsFrom : ℕ → List InForce → Names → Names → Type 0
IsFrom n slots changed interface = verdict slots changed interface ≡ verdict_from n (drop n slots) changed interface

-- the row and the pin at a place are those of the slot
pub row_at : (table : Names) (in_force : List RowOfIds) (pinned : List Bool) (slots : List InForce) (n : ℕ) (d : RowOfIds)
    → AreSlotsOf table in_force pinned slots → n < length in_force → IsRowOf table (get_or in_force n d) (slot_at slots n).row
row_at table in_force pinned slots n d are l =
    are.rows n (get_or in_force n d) (slot_at slots n) (slice_get-get_or in_force n d l)
    (slice_get-get_or slots n (record { row = empty_row; pinned = false }) (omega (arith, are.many, l)))

pub pin_at : (table : Names) (in_force : List RowOfIds) (pinned : List Bool) (slots : List InForce) (n : ℕ) (d : Bool)
    → AreSlotsOf table in_force pinned slots → n < length in_force → n < length pinned → get_or pinned n d ≡ (slot_at slots n).pinned
pin_at table in_force pinned slots n d are l k =
    sym (are.pins n (get_or pinned n d) (slot_at slots n) (slice_get-get_or pinned n d k)
    (slice_get-get_or slots n (record { row = empty_row; pinned = false }) (omega (arith, are.many, l))))

-- at a slot, by its obstacle
at_slot : (n : ℕ) (slots : List InForce) (changed interface : Names) (o : Option Effect) → n < length slots
    → o ≡ obstacle (slot_at slots n).row (slot_at slots n).pinned changed interface
    → verdict_from n (drop n slots) changed interface ≡ first_of n o (verdict_from (n + 1) (drop (n + 1) slots) changed interface)
at_slot n slots changed interface o l e =
    let next : suc n ≡ n + 1 = omega arith in
    at_drop_more (λ left. verdict_from n left changed interface) slots n (record { row = empty_row; pinned = false }) l
    ∙ ap (λ o. first_of n o (verdict_from (suc n) (drop (n + 1) slots) changed interface)) (sym e)
    ∙ ap (λ m. first_of n o (verdict_from m (drop (n + 1) slots) changed interface)) next

pub goes_on : (n : ℕ) (slots : List InForce) (changed interface : Names) → n < length slots
    → None ≡ obstacle (slot_at slots n).row (slot_at slots n).pinned changed interface
    → IsFrom n slots changed interface → IsFrom (n + 1) slots changed interface
goes_on n slots changed interface l e from = from ∙ at_slot n slots changed interface None l e

pub refuses : (n : ℕ) (slots : List InForce) (changed interface : Names) (effect : Effect) → n < length slots
    → Some effect ≡ obstacle (slot_at slots n).row (slot_at slots n).pinned changed interface
    → IsFrom n slots changed interface → Refused (record { slot = n; effect = effect }) ≡ verdict slots changed interface
refuses n slots changed interface effect l e from = sym (from ∙ at_slot n slots changed interface (Some effect) l e)
