-- The records of a world, closed and open: each is consistent, and stays so where a move or an install leaves it.
use Rattle.std.proofs.Common.{◌≡◌, ℕ, zero, suc, inl, inr, List, [], ◌∷◌, All, length, filter_map, get_or-set_same, get_or-set_other, sym, ap, subst, ◌∙◌}
use Rattle.std.specs.Prelude.{slice_index_or, slice_set}
use Rattle.std.specs.List.{cons_option}
use Rattle.std.proofs.lemmas.Bool.{cases_eq, cases_lt}
use Rattle.std.proofs.lemmas.List.{set_past}
use Rattle.std.proofs.lemmas.List.Elements.{All-nil, All-cons, All-push, All-weaker}
use Rattle.c_tree.specs.BareDef.{BareDef}
use Rattle.c_semantics.specs.Stops.{Stop}
use Rattle.c_semantics.specs.Threads.{Thread, started}
use Rattle.source_model.specs.Versions.{Table, current, next_table}
use Rattle.source_model.specs.Uses.{IsConsistent}
use Rattle.source_model.specs.Worlds.{World, Slot, Free, Live, Over, Closed, in_slot}
use Rattle.source_model.specs.Moves.{Standing}
use Rattle.source_model.specs.Runs.{open_of, open_of_thread}
use Rattle.admission_laws.proofs.Outcomes.{Beside, Records}
use Rattle.admission_laws.proofs.Outcomes as outcome
use Rattle.admission_laws.proofs.TransactionFacts.{records_stay_consistent}

-- the record of the thread in a slot is consistent
abbrev pub SlotIsWhole : Table → Slot → Type 0
SlotIsWhole table Free = Unit {0}
SlotIsWhole table (Live th) = IsConsistent table th.uses
SlotIsWhole table (Over n v) = Unit {0}

-- the closed records of a world are
abbrev pub AreWhole : Table → List Closed → Type 0
AreWhole table = All (λ c. IsConsistent table c.uses)

-- all records of a world, as long as a run goes on and after it
pub record Whole (w : World) : Type 0 where
  pub closed : AreWhole w.table w.closed
  pub each : (k : ℕ) → SlotIsWhole w.table (in_slot w k)

-- ---- moves

abbrev EachIsWhole : Table → List Slot → Type 0
EachIsWhole table slots = (k : ℕ) → SlotIsWhole table (slice_index_or slots k Free)

pub set_whole : (table : Table) (slots : List Slot) (t : ℕ) (own : Slot) → SlotIsWhole table own → EachIsWhole table slots
    → EachIsWhole table (slice_set slots t own)
set_whole table slots t own new all k = elim (cases_lt t (length slots)) [
  | inl inside ↦
      elim (cases_eq k t) [
        | inl same ↦
            subst (SlotIsWhole table)
            (sym (ap (λ i. slice_index_or (slice_set slots t own) i Free) same ∙ get_or-set_same slots t own Free inside)) new
        | inr other ↦ subst (SlotIsWhole table) (sym (get_or-set_other slots t k own Free other)) (all k)
      ]
  | inr past ↦ subst (λ xs. SlotIsWhole table (slice_index_or xs k Free)) (sym (set_past slots t own past)) (all k)
]

pub none_is_whole : (table : Table) → IsConsistent table []
none_is_whole table = (0, All-nil _)

pub beside_whole : (s : Standing) (x : Stop) (slots : List Slot) → Beside s x slots → EachIsWhole s.world.table s.world.slots
    → EachIsWhole s.world.table slots
beside_whole s x _ outcome.untouched all = all
beside_whole s x _ (outcome.freed u dead) all = set_whole s.world.table s.world.slots u Free tt all
beside_whole s x _ (outcome.started_at u n e dead is version) all =
    set_whole s.world.table s.world.slots u (Live (started n e)) (none_is_whole s.world.table) all

pub closed_whole : (s : Standing) (th : Thread) (closed : List Closed) (x : Stop) → Records s th closed x
    → IsConsistent s.world.table s.thread.uses → AreWhole s.world.table s.world.closed → AreWhole s.world.table closed
closed_whole s th closed _ (outcome.stay x keeps e f c) own all = subst (AreWhole s.world.table) (sym c) all
closed_whole s th closed _ (outcome.begins e d u c) own all = subst (AreWhole s.world.table) (sym c) all
closed_whole s th closed _ (outcome.deeper k e d u c) own all = subst (AreWhole s.world.table) (sym c) all
closed_whole s th closed _ (outcome.close e d u c) own all =
    subst (AreWhole s.world.table) (sym c)
    (All-push (λ (x : Closed). IsConsistent s.world.table x.uses) s.world.closed (record { slot = s.slot; uses = s.thread.uses }) all own)
closed_whole s th closed _ (outcome.shallower k e d u c) own all = subst (AreWhole s.world.table) (sym c) all

-- a world by its slots
pub whole_by : (table : Table) (w : World) (slots : List Slot) → w.table ≡ table → w.slots ≡ slots → AreWhole table w.closed
    → EachIsWhole table slots → Whole w
whole_by table w slots e f closed all = record {
  closed = subst (λ d. AreWhole d w.closed) (sym e) closed;
  each = λ k.
      subst (λ d. SlotIsWhole d (in_slot w k)) (sym e)
      (subst (λ xs. SlotIsWhole table (slice_index_or xs k Free)) (sym f) (all k));
}

-- ---- installs

module _ (p q : List BareDef) (table : Table) where
  abbrev next : Table
  next = next_table (current table) p q table

  closed_later : (cs : List Closed) → AreWhole table cs → AreWhole (next_table (current table) p q table) cs
  closed_later cs all =
      All-weaker (λ (c : Closed). IsConsistent table c.uses) (λ (c : Closed). IsConsistent next c.uses)
      (λ c h. records_stay_consistent p q table c.uses h) cs all

  slot_later : (x : Slot) → SlotIsWhole table x → SlotIsWhole (next_table (current table) p q table) x
  slot_later Free h = tt
  slot_later (Live th) h = records_stay_consistent p q table th.uses h
  slot_later (Over n v) h = tt

  pub whole_later : (w after : World) → w.table ≡ table → after.table ≡ next → after.closed ≡ w.closed → after.slots ≡ w.slots → Whole w → Whole after
  whole_later w after e f c s h =
      whole_by next after w.slots f s
      (subst (AreWhole next) (sym c) (closed_later w.closed (subst (λ d. AreWhole d w.closed) e h.closed)))
      (λ k. slot_later (in_slot w k) (subst (λ d. SlotIsWhole d (in_slot w k)) e (h.each k)))

-- ---- the open records

pub open_whole : (table : Table) (slots : List Slot) → EachIsWhole table slots → All (IsConsistent table) (filter_map open_of slots)
open_whole table [] all = All-nil _
open_whole table (x ∷ slots) all = by x (all 0) (open_whole table slots (λ k. all (suc k)))
  where
    of_thread : (th : Thread) (depth : ℕ) → IsConsistent table th.uses → All (IsConsistent table) (filter_map open_of slots)
        → All (IsConsistent table) (cons_option (open_of_thread th depth) (filter_map open_of slots))
    of_thread th zero own rest = rest
    of_thread th (suc depth) own rest = All-cons (IsConsistent table) th.uses (filter_map open_of slots) own rest

    by : (x : Slot) → SlotIsWhole table x → All (IsConsistent table) (filter_map open_of slots)
        → All (IsConsistent table) (cons_option (open_of x) (filter_map open_of slots))
    by Free own rest = rest
    by (Live th) own rest = of_thread th th.depth own rest
    by (Over n v) own rest = rest
