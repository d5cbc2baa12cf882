-- What the invariant says of the point of each thread.
use Rattle.std.proofs.Common.{◌≡◌, ℕ, true, List, [], ◌∷◌, All, Option, sym, ap, subst, ◌∙◌}
use Rattle.std.proofs.lemmas.List.Elements.{All-nil, All-weaker}
use Rattle.c_semantics.specs.SkeletonLaws.{GoesAlong}
use Rattle.c_semantics.specs.SourceTexts.{Text}
use Rattle.c_semantics.specs.Standing.{stands_at}
use Rattle.c_semantics.specs.Store.{store}
use Rattle.c_semantics.specs.Threads.{Frame, Enter, Record}
use Rattle.con_freeness.specs.Laws.{LeastSlotRefuses}
use Rattle.effects.specs.Rows.{InPrior, AreRows}
use Rattle.name_sets.specs.NameLists.{is_among}
use Rattle.source_model.specs.Versions.{Table}
use Rattle.source_model.specs.Guards.{Rules, Seat, row_in_force, seat_of}
use Rattle.admission_laws.specs.SoundTexts.{IsSound}
use Rattle.admission_laws.specs.Standing.{StandsAt, FramesStand, SlotStands}
use Rattle.admission_laws.specs.AdmissionLaws.{IsCovered, EachThreadStands, EachPointIsCovered, EachStartIsMarked, RecordedArePrior, TransactionsShareAVersion}
use Rattle.admission_laws.proofs.Covering.{covers_place}
use Rattle.admission_laws.proofs.LaterTransactions.{recorded_prior}
use Rattle.admission_laws.proofs.WholeRecords.{open_whole}
use Rattle.admission_laws.proofs.Induction.{each_is_good, still_going}

covered_at : (texts : List Text) (table : Table) (f : Frame) (fs : List Frame) (due : Option Enter) (depth : ℕ) (uses : Record) (seat : Seat)
    → StandsAt texts table f fs due depth uses seat → IsCovered (store texts) f due seat
covered_at texts table f fs due depth uses seat st = record {
  body = st.sits.body;
  found = st.sits.found;
  site = st.site;
  stored = st.sits.stored;
  point = st.point ∙ ap (λ s. stands_at s due f) (sym st.sits.skeleton_is);
  mark = st.mark;
  marked = st.marked;
  covered = covers_place (store texts) st.mark st.site f.version due seat.at_check_in st.placed;
}

-- what a thread recorded is in the prior set of the row of its seat
recorded_in : (rules : Rules) → AreRows rules.row → (texts : List Text) → IsSound texts → (table : Table) (fs : List Frame) (due : Option Enter)
    (depth : ℕ) (uses : Record) (seat : Seat) → FramesStand texts table fs due depth uses seat
    → All (λ u. is_among (row_in_force rules (store texts) seat.mark).prior u.name ≡ true) uses
recorded_in rules rows texts sound table [] due depth uses seat s =
    subst (All (λ u. is_among (row_in_force rules (store texts) seat.mark).prior u.name ≡ true)) (sym s.none_recorded)
    (All-nil (λ u. is_among (row_in_force rules (store texts) seat.mark).prior u.name ≡ true))
recorded_in rules rows texts sound table (f ∷ fs) due depth uses seat st =
    All-weaker (λ u. InPrior (store texts) st.mark u.name) (λ u. is_among (row_in_force rules (store texts) seat.mark).prior u.name ≡ true)
    (λ u x. ap (λ m. is_among (row_in_force rules (store texts) m).prior u.name) st.marked ∙ ((rows (store texts) st.mark).prior.same u.name).1 x)
    uses (recorded_prior texts sound table f fs due depth uses seat st)

module _ (along : GoesAlong) (least : LeastSlotRefuses) where
  pub each_thread_stands : EachThreadStands
  each_thread_stands rules setup events g t rows sound legal e =
      let good = each_is_good along least rules rows setup sound events g legal in good.each (still_going setup g good e) t

  pub each_point_is_covered : EachPointIsCovered
  each_point_is_covered rules setup events g t th f fs rows sound legal e lives frames =
      covered_at g.versions g.world.table f fs th.entering th.depth th.uses (seat_of g t)
      (subst (λ fs. FramesStand g.versions g.world.table fs th.entering th.depth th.uses (seat_of g t)) frames
      (subst (λ x. SlotStands g.versions g.world.table x (seat_of g t)) lives
      (each_thread_stands rules setup events g t rows sound legal e)))

  pub each_start_is_marked : EachStartIsMarked
  each_start_is_marked rules setup events g t th rows sound legal e lives frames =
      let s = subst (λ fs. FramesStand g.versions g.world.table fs th.entering th.depth th.uses (seat_of g t)) frames
      (subst (λ x. SlotStands g.versions g.world.table x (seat_of g t)) lives
      (each_thread_stands rules setup events g t rows sound legal e)) in
      (s.enter, s.is_due, s.marked)

  pub recorded_are_prior : RecordedArePrior
  recorded_are_prior rules setup events g t th rows sound legal e lives =
      let good = each_is_good along least rules rows setup sound events g legal in
      recorded_in rules rows g.versions (sound g.versions good.texts) g.world.table th.frames th.entering th.depth th.uses (seat_of g t)
      (subst (λ x. SlotStands g.versions g.world.table x (seat_of g t)) lives (good.each (still_going setup g good e) t))

  pub transactions_share_a_version : TransactionsShareAVersion
  transactions_share_a_version rules setup events g rows sound legal =
      let good = each_is_good along least rules rows setup sound events g legal in record {
        unmisused = good.unmarked;
        closed = good.whole.closed;
        in_progress = open_whole g.world.table g.world.slots good.whole.each;
      }
