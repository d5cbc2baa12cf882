-- The slots of a world and their seats after a move.
use Rattle.std.proofs.Common.{◌≡◌, ℕ, ◌≤◌, ◌<◌, inl, inr, Bool, true, false, List, length, length-set, get_or-set_same, get_or-set_other, refl, sym, ap, subst, ◌∙◌}
use Rattle.std.specs.Prelude.{slice_index_or, slice_set}
use Rattle.std.proofs.lemmas.Bool.{false≢true, cases_eq, cases_lt}
use Rattle.std.proofs.lemmas.List.{get_or_past, set_past as set_out}
use Rattle.c_semantics.specs.SourceTexts.{Text}
use Rattle.c_semantics.specs.Stops.{Stop, Spawn}
use Rattle.c_semantics.specs.Threads.{Enter, Thread, started}
use Rattle.source_model.specs.Versions.{Table}
use Rattle.source_model.specs.Uses.{is_right}
use Rattle.source_model.specs.Worlds.{Slot, Free, Live, Over, in_slot}
use Rattle.source_model.specs.Runs.{is_live}
use Rattle.source_model.specs.Moves.{Standing}
use Rattle.source_model.specs.Guards.{Seat, seat_after}
use Rattle.admission_laws.specs.SoundTexts.{is_function, version_in, newest}
use Rattle.admission_laws.specs.Standing.{SlotStands}
use Rattle.admission_laws.proofs.Outcomes.{Beside, untouched, freed, started_at}

-- an enter by which a thread may start
pub record MayStart (texts : List Text) (table : Table) (e : Enter) : Type 0 where
  pub version : e.version ≤ newest texts
  pub function_is : is_function (version_in texts e.version e.function) ≡ true
  pub right : is_right table e.version e.function ≡ true

-- a thread that lives: its slot is there
pub lives_within : (slots : List Slot) (t : ℕ) (th : Thread) → slice_index_or slots t Free ≡ Live th → t < length slots
lives_within slots t th e = elim (cases_lt t (length slots)) [
  | inl less ↦ less
  | inr past ↦ absurd (no (sym (get_or_past slots t Free past) ∙ e))
]
  where
    no : Free ≡ Live th → ⊥
    no h = cc

-- what is in a slot that stays
pub stays : (texts : List Text) (table : Table) (leads : Bool) (x : Slot) (seat : Seat) → SlotStands texts table x seat
    → SlotStands texts table x (seat_after false leads x x seat)
stays texts table leads (Live th) seat h = h
stays texts table leads Free seat h = tt
stays texts table leads (Over n v) seat h = tt

-- what is in a slot where a thread was started
starts : (texts : List Text) (table : Table) (leads : Bool) (n : ℕ) (e : Enter) (x : Slot) (seat : Seat) → is_live x ≡ false
    → MayStart texts table e → SlotStands texts table (Live (started n e)) (seat_after false leads x (Live (started n e)) seat)
starts texts table leads n e (Live th) seat dead m = absurd (false≢true (sym dead))
starts texts table leads n e Free seat dead m =
    record {
      enter = e;
      is_due = refl;
      marked = refl;
      at_check_in = refl;
      version = m.version;
      function_is = m.function_is;
      right = m.right;
      outside = refl;
      none_recorded = refl;
      unpinned = refl;
    }
starts texts table leads n e (Over k v) seat dead m =
    record {
      enter = e;
      is_due = refl;
      marked = refl;
      at_check_in = refl;
      version = m.version;
      function_is = m.function_is;
      right = m.right;
      outside = refl;
      none_recorded = refl;
      unpinned = refl;
    }

-- the slots beside the moved one
module _ (texts : List Text) (table : Table) (leads : Bool) (s : Standing) (x : Stop)
    (may_start : (e : Enter) → x ≡ Spawn e.function → e.version ≡ s.frame.version → MayStart texts table e) (k : ℕ) (seat : Seat)
    (h : SlotStands texts table (in_slot s.world k) seat) where
  set_beside : (u : ℕ) (y : Slot) → (k ≡ u → SlotStands texts table y (seat_after false leads (in_slot s.world k) y seat))
      → u < length s.world.slots
      → SlotStands texts table (slice_index_or (slice_set s.world.slots u y) k Free)
      (seat_after false leads (in_slot s.world k) (slice_index_or (slice_set s.world.slots u y) k Free) seat)
  set_beside u y new inside = elim (cases_eq k u) [
    | inl same ↦
        subst (λ z. SlotStands texts table z (seat_after false leads (in_slot s.world k) z seat))
        (sym (ap (λ i. slice_index_or (slice_set s.world.slots u y) i Free) same ∙ get_or-set_same s.world.slots u y Free inside)) (new same)
    | inr other ↦
        subst (λ z. SlotStands texts table z (seat_after false leads (in_slot s.world k) z seat))
        (sym (get_or-set_other s.world.slots u k y Free other)) (stays texts table leads (in_slot s.world k) seat h)
  ]

  -- a slot past the end isn't set
  set_past : (u : ℕ) (y : Slot) → (k ≡ u → SlotStands texts table y (seat_after false leads (in_slot s.world k) y seat))
      → SlotStands texts table (slice_index_or (slice_set s.world.slots u y) k Free)
      (seat_after false leads (in_slot s.world k) (slice_index_or (slice_set s.world.slots u y) k Free) seat)
  set_past u y new = elim (cases_lt u (length s.world.slots)) [
    | inl inside ↦ set_beside u y new inside
    | inr past ↦
        subst (λ slots. SlotStands texts table (slice_index_or slots k Free) (seat_after false leads (in_slot s.world k) (slice_index_or slots k Free) seat))
        (sym (set_out s.world.slots u y past)) (stays texts table leads (in_slot s.world k) seat h)
  ]

  pub beside_stands : (slots : List Slot) → Beside s x slots
      → SlotStands texts table (slice_index_or slots k Free) (seat_after false leads (in_slot s.world k) (slice_index_or slots k Free) seat)
  beside_stands _ untouched = stays texts table leads (in_slot s.world k) seat h
  beside_stands _ (freed u dead) = set_past u Free (λ same. tt)
  beside_stands _ (started_at u n e dead is version) =
      set_past u (Live (started n e))
      (λ same. starts texts table leads n e (in_slot s.world k) seat (ap (λ i. is_live (in_slot s.world i)) same ∙ dead) (may_start e is version))

-- the length of the slots beside
pub beside_length : (s : Standing) (x : Stop) (slots : List Slot) → Beside s x slots → length slots ≡ length s.world.slots
beside_length s x _ untouched = refl
beside_length s x _ (freed u dead) = length-set s.world.slots u Free
beside_length s x _ (started_at u n e dead is version) = length-set s.world.slots u (Live (started n e))
