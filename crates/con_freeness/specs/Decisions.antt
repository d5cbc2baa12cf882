-- The verdict on rows of ids, by a table of names.
use Rattle.std.specs.Prelude.{◌≡◌, ℕ, ◌<◌, ◌↔◌, Bool, IsTrue, List, length, Some, slice_get, ⊤}
use Rattle.name_sets.specs.IdSet.{Holds, IsCommon}
use Rattle.name_sets.specs.NameLists.{is_among}
use Rattle.name_sets.specs.Texts.{IsTable}
use Rattle.con_freeness.specs.declared.row.Row.{Row as RowOfIds}
use Rattle.con_freeness.specs.declared.refusal.Effect.{Effect as EffectOfIds}
use Rattle.con_freeness.specs.declared.refusal.Effect.TheVariants as ids
use Rattle.con_freeness.specs.declared.refusal.Verdict.{Verdict as VerdictOfIds}
use Rattle.con_freeness.specs.declared.refusal.Verdict.TheVariants as answer
use Rattle.con_freeness.specs.Verdicts.{verdict_seen}
use Rattle.con_freeness.specs.Rows.{Names, Row, InForce, verdict}

-- a set of ids has exactly some names, by a table of names
pub record IsListOf (table : Names) (set : ℕ) (list : Names) : Type 0 where
  pub same : (name : List ℕ) → IsTrue (is_among list name) ↔ ((id : ℕ) × (slice_get table id ≡ Some name) × Holds set id)

-- the sets of a row have the names of a row of texts
pub record IsRowOf (table : Names) (row : RowOfIds) (texts : Row) : Type 0 where
  pub prior : IsListOf table row.prior texts.prior
  pub future : IsListOf table row.future texts.future
  pub concrete : IsListOf table row.concrete texts.concrete

-- some rows and pins are those of slots, as the test sees these
pub record AreSlotsOf (table : Names) (in_force : List RowOfIds) (pinned : List Bool) (slots : List InForce) : Type 0 where
  pub many : length slots ≡ length in_force
  pub rows : (n : ℕ) (row : RowOfIds) (slot : InForce) → slice_get in_force n ≡ Some row → slice_get slots n ≡ Some slot
      → IsRowOf table row slot.row
  pub pins : (n : ℕ) (pin : Bool) (slot : InForce) → slice_get pinned n ≡ Some pin → slice_get slots n ≡ Some slot
      → slot.pinned ≡ pin

-- each id that a row has in common with the sets of a patch is in the table: it is if all ids of the patch's sets are, or
-- all ids of the row
pub record HasCommonIn (table : Names) (changed interface : ℕ) (row : RowOfIds) : Type 0 where
  pub prior : (id : ℕ) → IsCommon changed row.prior id → id < length table
  pub future : (id : ℕ) → IsCommon changed row.future id → id < length table
  pub concrete : (id : ℕ) → IsCommon interface row.concrete id → id < length table

-- the answer is the verdict on the slots and the sets of names
abbrev pub IsDecision : Names → List RowOfIds → List Bool → ℕ → ℕ → VerdictOfIds → Type 0
IsDecision table in_force pinned changed interface answer =
    (slots : List InForce) (changed_names interface_names : Names)
    → IsTable table → AreSlotsOf table in_force pinned slots
    → IsListOf table changed changed_names → IsListOf table interface interface_names
    → verdict_seen table answer ≡ verdict slots changed_names interface_names

-- the ids of an effect are in the table
abbrev pub AreKnown : Names → EffectOfIds → Type 0
AreKnown table (ids.Concrete z) = z < length table
AreKnown table (ids.Both y z) = (y < length table) × (z < length table)
AreKnown table (ids.Pinned z) = z < length table

-- the ids of a refusal are
abbrev pub HasKnownIds : Names → VerdictOfIds → Type 0
HasKnownIds table answer.Admitted = ⊤
HasKnownIds table (answer.Refused r) = AreKnown table r.effect
