-- After a move each thread stands in the store, and no move misuses a definition.
use Rattle.std.proofs.Common.{◌≡◌, ◌≢◌, ℕ, ◌<◌, ◌≤◌, inl, inr, true, false, ◌&&◌, ◌||◌, ◌==◌, List, [], ◌∷◌, length, length-set, get_or-set_same, get_or-set_other, is_some, Option, Some, None, refl, sym, ap, subst, ◌∙◌, if◌then◌else◌}
use Rattle.std.specs.Prelude.{nat_lt, slice_index_or, slice_set}
use Rattle.std.proofs.lemmas.Bool.{false≢true, cases_eq, or_parts, or_left, ne_eqb, eq-eqb}
use Rattle.std.proofs.lemmas.Option.{none-some, same_Some}
use Rattle.run_types.specs.Skeleton.{PointKind, direct_use, kind_at}
use Rattle.run_types.specs.Skeleton as kind
use Rattle.c_tree.specs.BareExpr.{Bytes}
use Rattle.c_semantics.specs.SkeletonLaws.{GoesAlong}
use Rattle.c_semantics.specs.SourceTexts.{Text}
use Rattle.c_semantics.specs.Stops.{Stop, Call, Spawn, Return, kind_of}
use Rattle.c_semantics.specs.Store.{Start, store}
use Rattle.c_semantics.specs.Threads.{Frame, Enter, Record, Thread}
use Rattle.source_model.specs.Versions.{Table}
use Rattle.source_model.specs.Uses.{IsConsistent, use_at, use_at_kind, use_of, is_right, recorded, recorded_at}
use Rattle.run_types.specs.declared.trap.TrapKind.TheVariants.{Depth}
use Rattle.source_model.specs.Worlds.{World, Finish, Trapped, Slot, Free, Live, Over, in_slot, alive_in, is_finished, is_over, with_thread}
use Rattle.source_model.specs.Moves.{Standing, frame_of, gone_on}
use Rattle.source_model.specs.Guards.{Guard, Seat, seat_of, moved, move_leads, frames_lead, halt_leads, leads, seat_after, moved_seat}
use Rattle.version_laws.specs.Histories.{IsHistory}
use Rattle.admission_laws.specs.SoundTexts.{IsSound, is_function, definitions_of, version_in, newest}
use Rattle.admission_laws.specs.Stacks.{MayUse}
use Rattle.admission_laws.specs.Stacks as stacks
use Rattle.admission_laws.specs.Standing.{StandsAt, FramesStand, SlotStands}
use Rattle.admission_laws.specs.InTransactions.{InTransaction}
use Rattle.admission_laws.proofs.Outcomes.{Made, Same, Records, Beside, untouched, goes_along}
use Rattle.admission_laws.proofs.Outcomes as outcome
use Rattle.admission_laws.proofs.Turns.{Turn, Used, Stopping, stands_for, at_stop}
use Rattle.admission_laws.proofs.Turns as turn
use Rattle.admission_laws.proofs.PointFacts.{kind_of_site, uses_by_kind}
use Rattle.admission_laws.proofs.RightUses.{function_now, defined_alike, defined_now}
use Rattle.admission_laws.proofs.Depths.{use_still}
use Rattle.admission_laws.proofs.TransactionSteps.{stays_at, none_recorded}
use Rattle.admission_laws.proofs.TransactionMoves.{consistent_in, comes_to, comes_to_use, remains, led}
use Rattle.admission_laws.proofs.WholeRecords.{SlotIsWhole, AreWhole, Whole, set_whole, beside_whole, closed_whole, whole_by}
use Rattle.admission_laws.proofs.SeatsAfter.{seat_moved}
use Rattle.admission_laws.proofs.FrameSteps.{StopsThere, stops_there, at_point, goes_stands, calls_stands, returns_stands}
use Rattle.admission_laws.proofs.Enters.{calling_of, call_entered, start_entered, frame_is, entered_now}
use Rattle.admission_laws.proofs.MovedSlots.{MayStart, lives_within, stays as stays_as, beside_stands, beside_length}

-- what a move leaves
pub record Leaves (texts : List Text) (g : Guard) (t : ℕ) (w : World) : Type 0 where
  pub count : length w.slots ≡ length g.world.slots
  pub unmarked : w.misused ≡ g.world.misused
  pub each : is_over w ≡ false → (k : ℕ) → SlotStands texts w.table (in_slot w k) (seat_of (moved g t w) k)
  pub whole : Whole w

-- as long as a run goes on, what lives is what is in the slots
unfinished : (o : Option Finish) → is_some o ≡ false → is_finished o ≡ false
unfinished None h = refl
unfinished (Some f) h = absurd (false≢true (sym h))

pub alive_is : (w : World) (k : ℕ) → is_over w ≡ false → alive_in w k ≡ in_slot w k
alive_is w k h = ap (λ b. if b then Free else in_slot w k) (unfinished w.finish (or_parts w.misused (is_some w.finish) h).1)

-- a run that has ended
ended : (texts : List Text) (g : Guard) (t : ℕ) (w : World) → length w.slots ≡ length g.world.slots → w.misused ≡ g.world.misused
    → is_some w.finish ≡ true → Whole w → Leaves texts g t w
ended texts g t w count unmarked over whole = record {
  count = count;
  unmarked = unmarked;
  each = λ h k. absurd (false≢true (sym (or_parts w.misused (is_some w.finish) h).1 ∙ over));
  whole = whole;
}

-- the slots by what the moved one has, and those beside it
by_slots : (texts : List Text) (g : Guard) (t : ℕ) (w : World) (th : Thread) (own : Slot) (slots : List Slot)
    → length g.seats ≡ length g.world.slots → is_over g.world ≡ false → in_slot g.world t ≡ Live th
    → w.table ≡ g.world.table → w.misused ≡ g.world.misused → w.slots ≡ slice_set slots t own → length slots ≡ length g.world.slots
    → ((k : ℕ) → k ≢ t
    → SlotStands texts g.world.table (slice_index_or slots k Free)
    (seat_after false (move_leads (in_slot g.world t)) (in_slot g.world k) (slice_index_or slots k Free) (seat_of g k)))
    → SlotStands texts g.world.table own (seat_after true (move_leads (Live th)) (Live th) own (seat_of g t)) → AreWhole g.world.table w.closed
    → ((k : ℕ) → SlotIsWhole g.world.table (slice_index_or slots k Free)) → SlotIsWhole g.world.table own → Leaves texts g t w
by_slots texts g t w th own slots seats on lives table unmarked e long others owned closed whole whole_own = record {
  count = count;
  unmarked = unmarked;
  each = λ on_after k.
      subst (λ d. SlotStands texts d (in_slot w k) (seat_of (moved g t w) k)) (sym table)
      (subst (SlotStands texts g.world.table (in_slot w k))
      (sym (seat_moved g t k w (seats ∙ sym count)
      ∙ ap (λ x. seat_after (k == t) (move_leads (in_slot g.world t)) x (alive_in w k) (seat_of g k)) (alive_is g.world k on)
      ∙ ap (λ x. seat_after (k == t) (move_leads (in_slot g.world t)) (in_slot g.world k) x (seat_of g k)) (alive_is w k on_after)))
      (elim (cases_eq k t) [ inl same ↦ here k same | inr other ↦ elsewhere k other ]));
  whole = whole_by g.world.table w (slice_set slots t own) table e closed (set_whole g.world.table slots t own whole_own whole);
}
  where
    count : length w.slots ≡ length g.world.slots
    count = ap length e ∙ length-set slots t own ∙ long

    at_own : in_slot w t ≡ own
    at_own =
        ap (λ xs. slice_index_or xs t Free) e
        ∙ get_or-set_same slots t own Free (subst (λ n. t < n) (sym long) (lives_within g.world.slots t th lives))

    here : (k : ℕ) → k ≡ t
        → SlotStands texts g.world.table (in_slot w k) (seat_after (k == t) (move_leads (in_slot g.world t)) (in_slot g.world k) (in_slot w k) (seat_of g k))
    here k same =
        subst (λ i. SlotStands texts g.world.table (in_slot w i) (seat_after (i == t) (move_leads (in_slot g.world t)) (in_slot g.world i) (in_slot w i) (seat_of g i)))
        (sym same)
        (subst (λ b. SlotStands texts g.world.table (in_slot w t) (seat_after b (move_leads (in_slot g.world t)) (in_slot g.world t) (in_slot w t) (seat_of g t)))
        (sym (eq-eqb t t refl))
        (subst (λ x. SlotStands texts g.world.table x (seat_after true (move_leads (in_slot g.world t)) (in_slot g.world t) x (seat_of g t))) (sym at_own)
        (subst (λ x. SlotStands texts g.world.table own (seat_after true (move_leads x) x own (seat_of g t))) (sym lives) owned)))

    elsewhere : (k : ℕ) → k ≢ t
        → SlotStands texts g.world.table (in_slot w k) (seat_after (k == t) (move_leads (in_slot g.world t)) (in_slot g.world k) (in_slot w k) (seat_of g k))
    elsewhere k other =
        subst (λ b. SlotStands texts g.world.table (in_slot w k) (seat_after b (move_leads (in_slot g.world t)) (in_slot g.world k) (in_slot w k) (seat_of g k)))
        (sym (ne_eqb k t other))
        (subst (λ x. SlotStands texts g.world.table x (seat_after false (move_leads (in_slot g.world t)) (in_slot g.world k) x (seat_of g k)))
        (sym (ap (λ xs. slice_index_or xs k Free) e ∙ get_or-set_other slots t k own Free other)) (others k other))

-- whether the move of a thread before a stop, or an enter, leads to a check-in
stop_leads : (th : Thread) (s : Stopping th) → move_leads (Live th) ≡ leads s.stop s.below
stop_leads th s =
    ap (λ o. is_some o || frames_lead th.frames) s.none_due ∙ ap frames_lead s.frames ∙ ap (λ h. halt_leads h s.below) s.comes

enter_leads : (th : Thread) (e : Enter) → th.entering ≡ Some e → move_leads (Live th) ≡ true
enter_leads th e due = or_left (is_some th.entering) _ (ap is_some due)

-- a use of a stop is one of its point
direct : (k : PointKind) (name : Bytes) → use_at_kind k ≡ Some name → direct_use k ≡ Some name
direct (kind.Call f) name h = absurd (none-some name h)
direct _ name h = h

-- the use leaves a thread's frames and enter
still_none : (table : Table) (th user : Thread) (v : ℕ) (x : Stop) → Used table th v x user → th.entering ≡ None → user.entering ≡ None
still_none table th _ v x (turn.nothing none) e = e
still_none table th _ v x (turn.rightly name used right) e = e

module _ (along : GoesAlong) (texts : List Text) (sound : IsSound texts) (g : Guard) (h : IsHistory (definitions_of texts) g.world.table)
    (seats : length g.seats ≡ length g.world.slots) (on : is_over g.world ≡ false)
    (each : (k : ℕ) → SlotStands texts g.world.table (in_slot g.world k) (seat_of g k)) (whole : Whole g.world) (t : ℕ)
    (passed : (seat_of g t).at_check_in ≡ false) (th : Thread) (lives : in_slot g.world t ≡ Live th) where
  own : FramesStand texts g.world.table th.frames th.entering th.depth th.uses (seat_of g t)
  own = subst (λ x. SlotStands texts g.world.table x (seat_of g t)) lives (each t)

  -- the thread before its stop
  before : (s : Stopping th) → StandsAt texts g.world.table s.frame s.below None th.depth th.uses (seat_of g t)
  before s =
      subst (λ due. StandsAt texts g.world.table s.frame s.below due th.depth th.uses (seat_of g t)) s.none_due
      (subst (λ fs. FramesStand texts g.world.table fs th.entering th.depth th.uses (seat_of g t)) s.frames own)

  stops : (s : Stopping th) → StopsThere texts g.world.table s.frame s.below th.depth th.uses (seat_of g t) (before s) s.stop s.point
  stops s =
      stops_there along texts g.world.table s.frame s.below th.depth th.uses (seat_of g t) (before s) passed s.stop s.point s.rest s.values s.scopes s.comes

  -- what its stop uses is right
  right_at : (s : Stopping th) (name : Bytes) → direct_use (kind_of s.stop) ≡ Some name → is_right g.world.table s.frame.version name ≡ true
  right_at s name used =
      let st = before s in
      let n = at_point st.site s.point in
      st.right s.frame.version name
      (stacks.later st.site n s.frame.version st.levels s.frame.version name (stops s).next
      (stacks.used n s.frame.version st.levels name (uses_by_kind (store texts) n (kind_of s.stop) name (stops s).kind used)))

  -- a spawned thread may start
  may_start : (s : Stopping th) (e : Enter) → s.stop ≡ Spawn e.function → e.version ≡ s.frame.version → MayStart texts g.world.table e
  may_start s e is version =
      let st = before s in record {
        version = subst (λ v. v ≤ newest texts) (sym version) st.sits.version;
        function_is =
            subst (λ v. is_function (version_in texts v e.function) ≡ true) (sym version)
            (st.sits.spawns s.point e.function
            (subst (λ k. kind_at k s.point ≡ Some (kind.Spawn e.function)) st.sits.skeleton_is
            ((stops s).stop.kind ∙ ap (λ y. Some (kind_of y)) is)));
        right =
            subst (λ v. is_right g.world.table v e.function ≡ true) (sym version)
            (right_at s e.function (ap (λ y. direct_use (kind_of y)) is));
      }

  -- the slots that no stop of this thread is in
  others : (s : Stopping th) (user : Thread) (slots : List Slot) → Beside (stands_for g.world t user th s) s.stop slots → (k : ℕ) → k ≢ t
      → SlotStands texts g.world.table (slice_index_or slots k Free)
      (seat_after false (move_leads (in_slot g.world t)) (in_slot g.world k) (slice_index_or slots k Free) (seat_of g k))
  others s user slots beside k other =
      beside_stands texts g.world.table (move_leads (in_slot g.world t)) (stands_for g.world t user th s) s.stop (may_start s) k (seat_of g k)
      (each k) slots beside

  -- those that stay
  others_stay : (k : ℕ) → k ≢ t
      → SlotStands texts g.world.table (in_slot g.world k)
      (seat_after false (move_leads (in_slot g.world t)) (in_slot g.world k) (in_slot g.world k) (seat_of g k))
  others_stay k other = stays_as texts g.world.table (move_leads (in_slot g.world t)) (in_slot g.world k) (seat_of g k) (each k)

  -- where the thread is once its stop made its use
  abbrev At : (s : Stopping th) (user : Thread) (due : Option Enter) → Type 0
  At s user due =
      InTransaction texts g.world.table user.depth user.uses (seat_of g t).pinned (at_point (before s).site s.point) (before s).own due (before s).levels

  used_at : (s : Stopping th) (user : Thread) → Used g.world.table th s.frame.version s.stop user → At s user None
  used_at s _ (turn.nothing none) =
      let st = before s in
      comes_to texts sound.shapes g.world.table th.depth th.uses (seat_of g t).pinned st.site (at_point st.site s.point) st.own st.levels
      st.transaction st.still (stops s).stacked (stops s).next None
  used_at s _ (turn.rightly name used right) =
      let st = before s in
      let n = at_point st.site s.point in
      let uses = uses_by_kind (store texts) n (kind_of s.stop) name (stops s).kind (direct (kind_of s.stop) name used) in
      comes_to_use texts sound.shapes g.world.table th.depth th.uses (seat_of g t).pinned st.site n st.own st.levels st.transaction st.still
      (stops s).stacked (stops s).next name uses (use_still (store texts) n name uses)
      (defined_alike texts g.world.table h name ∙ defined_now texts g.world.table h s.frame.version name right)

  called_at : (s : Stopping th) (user : Thread) → Used g.world.table th s.frame.version s.stop user → (e : Enter) (k : ℕ)
      → s.stop ≡ Call e.function k → At s user (Some e)
  called_at s _ (turn.nothing none) e k is =
      let st = before s in
      comes_to texts sound.shapes g.world.table th.depth th.uses (seat_of g t).pinned st.site (at_point st.site s.point) st.own st.levels
      st.transaction st.still (stops s).stacked (stops s).next (Some e)
  called_at s _ (turn.rightly name used right) e k is = absurd (none-some name (sym (ap use_at is) ∙ used))

  -- its record there is consistent
  used_whole : (s : Stopping th) (user : Thread) → Used g.world.table th s.frame.version s.stop user → IsConsistent g.world.table user.uses
  used_whole s user used =
      consistent_in texts g.world.table user.depth user.uses (seat_of g t).pinned (at_point (before s).site s.point) (before s).own None
      (before s).levels (used_at s user used)

  -- what a slot has in which a thread stands
  slot_whole : (f : Frame) (fs : List Frame) (due : Option Enter) (depth : ℕ) (uses : Record) (seat : Seat)
      → StandsAt texts g.world.table f fs due depth uses seat → IsConsistent g.world.table uses
  slot_whole f fs due depth uses seat st =
      consistent_in texts g.world.table depth uses seat.pinned st.site st.own due st.levels st.transaction

  made_leaves : (s : Stopping th) (user : Thread) (w : World) → Used g.world.table th s.frame.version s.stop user
      → Made (stands_for g.world t user th s) s.stop w → Leaves texts g t w
  made_leaves s user w used (outcome.ends same over closed slots) =
      ended texts g t w same.count same.misused over
      (elim slots [
        | inl e ↦ whole_by g.world.table w g.world.slots same.table e all whole.each
        | inr e ↦
            whole_by g.world.table w (slice_set g.world.slots t (Live (gone_on standing standing.frame.values))) same.table e all
            (set_whole g.world.table g.world.slots t (Live (gone_on standing standing.frame.values)) (used_whole s user used) whole.each)
      ])
    where
      standing : Standing
      standing = stands_for g.world t user th s

      all : AreWhole g.world.table w.closed
      all = subst (AreWhole g.world.table) (sym closed) whole.closed
  made_leaves s user w used (outcome.goes same finish along_it th' values frames entering records slots beside e) =
      let st = before s in
      let n = at_point st.site s.point in
      let standing = stands_for g.world t user th s in
      let seat' = moved_seat (move_leads (Live th)) (Live th') (seat_of g t) in
      let at_n = used_at s user used in
      let after = goes_stands along texts g.world.table s.frame s.below th.depth th.uses (seat_of g t) st passed s.stop s.point s.rest s.values s.scopes
      s.comes values seat' th'.depth th'.uses along_it refl (stop_leads th s)
      (λ none. remains texts g.world.table standing (seat_of g t).pinned n st.own st.levels at_n th' w.closed s.stop records none)
      (λ q stacked next. led texts g.world.table standing (seat_of g t).pinned n st.own st.levels at_n th' w.closed sound.shapes q stacked next s.stop
      (stops s).kind records) in
      by_slots texts g t w th (Live th') slots seats on lives same.table same.misused e
      (beside_length (stands_for g.world t user th s) s.stop slots beside) (others s user slots beside)
      (subst (λ fs. FramesStand texts g.world.table fs th'.entering th'.depth th'.uses seat') (sym frames)
      (subst (λ due. StandsAt texts g.world.table (record (at_stop s.frame s.point s.rest s.values s.scopes) { values = values }) s.below due th'.depth th'.uses seat')
      (sym (entering ∙ still_none g.world.table th user s.frame.version s.stop used s.none_due)) after))
      (closed_whole standing th' w.closed s.stop records (used_whole s user used) whole.closed)
      (beside_whole standing s.stop slots beside whole.each)
      (slot_whole (record (at_stop s.frame s.point s.rest s.values s.scopes) { values = values }) s.below None th'.depth th'.uses seat' after)
  made_leaves s user w used (outcome.calls same finish closed n e values is version slots) =
      let st = before s in
      let after : Thread = record (gone_on (stands_for g.world t user th s) values) { entering = Some e } in
      let seat' = moved_seat (move_leads (Live th)) (Live after) (seat_of g t) in
      by_slots texts g t w th (Live after) g.world.slots seats on lives same.table same.misused slots refl others_stay
      (calls_stands along texts g.world.table s.frame s.below th.depth th.uses (seat_of g t) st passed s.stop s.point s.rest s.values s.scopes s.comes
      values seat' user.depth user.uses e n is version refl (stop_leads th s) (
        st.own,
        stays_at texts g.world.table user.depth user.uses (seat_of g t).pinned (at_point st.site s.point) st.own (Some e) st.levels
            (called_at s user used e n is),
      ))
      (subst (AreWhole g.world.table) (sym closed) whole.closed) whole.each (used_whole s user used)
  made_leaves s user w used (outcome.returns same finish closed is f fs values below slots) =
      let after : Thread = record user { frames = record f { values = values } ∷ fs } in
      let seat' = moved_seat (move_leads (Live th)) (Live after) (seat_of g t) in
      by_slots texts g t w th (Live after) g.world.slots seats on lives same.table same.misused slots refl others_stay
      (subst (λ due. StandsAt texts g.world.table (record f { values = values }) fs due user.depth user.uses seat')
      (sym (still_none g.world.table th user s.frame.version s.stop used s.none_due))
      (returns_stands texts sound.shapes g.world.table s.frame s.below th.depth th.uses (seat_of g t) (before s) s.stop s.point (stops s) is f fs below
      values seat' user.depth user.uses refl (stop_leads th s ∙ ap (λ y. leads y s.below) is ∙ ap (leads Return) below) refl (used_at s user used)))
      (subst (AreWhole g.world.table) (sym closed) whole.closed) whole.each (used_whole s user used)
  made_leaves s user w used (outcome.leaves same finish closed is n v below slots) =
      by_slots texts g t w th (Over n v) g.world.slots seats on lives same.table same.misused slots refl others_stay tt
      (subst (AreWhole g.world.table) (sym closed) whole.closed) whole.each tt

  -- the enter that is due uses its function rightly, and enters it
  enter_right : (fs : List Frame) (e : Enter) → FramesStand texts g.world.table fs (Some e) th.depth th.uses (seat_of g t)
      → is_right g.world.table e.version e.function ≡ true
  enter_right [] e s = subst (λ d. is_right g.world.table d.version d.function ≡ true) (sym (same_Some _ _ s.is_due)) s.right
  enter_right (f ∷ fs) e st =
      let c = calling_of (store texts) st.mark st.site f.version e (seat_of g t).at_check_in st.placed in
      st.right e.version e.function
      (subst (λ v. MayUse (store texts) st.site f.version st.levels v e.function) (sym c.same_version)
      (stacks.used st.site f.version st.levels e.function
      (uses_by_kind (store texts) st.site (kind.Call e.function) e.function c.call.call refl)))

  enter_stands : (fs : List Frame) (e : Enter) (seat' : Seat) → FramesStand texts g.world.table fs (Some e) th.depth th.uses (seat_of g t)
      → is_right g.world.table e.version e.function ≡ true → seat'.mark ≡ (seat_of g t).mark → seat'.at_check_in ≡ true
      → seat'.pinned ≡ ((seat_of g t).pinned && nat_lt 0 th.depth)
      → StandsAt texts g.world.table (entered_now texts e.function e.arguments) fs None th.depth
      (recorded_at th.depth th.uses (use_of g.world.table e.function)) seat'
  enter_stands [] e seat' s right same_mark coming same_pin =
      let same = same_Some _ _ s.is_due in
      start_entered texts sound g.world.table h e
      (function_now texts g.world.table h e.version e.function right
      (subst (λ d. is_function (version_in texts d.version d.function) ≡ true) (sym same) s.function_is)) th.depth
      (recorded_at th.depth th.uses (use_of g.world.table e.function)) seat'
      (same_mark ∙ s.marked ∙ ap (λ d. Some (Start d.function)) (sym same)) coming s.outside
      (none_recorded th.depth th.uses (use_of g.world.table e.function) s.outside s.none_recorded)
      (same_pin ∙ ap (λ b. b && nat_lt 0 th.depth) s.unpinned)
  enter_stands (f ∷ fs) e seat' st right same_mark coming same_pin =
      let c = calling_of (store texts) st.mark st.site f.version e (seat_of g t).at_check_in st.placed in
      call_entered texts sound g.world.table h e
      (function_now texts g.world.table h e.version e.function right
      (subst (λ v. is_function (version_in texts v e.function) ≡ true) (sym c.same_version)
      (st.sits.calls st.site.point e.function
      (subst (λ s. kind_at s st.site.point ≡ Some (kind.Call e.function)) st.sits.skeleton_is
      (kind_of_site (store texts) st.site st.sits.body (kind.Call e.function) st.sits.stored c.call.call)))))
      f fs st.site.body th.depth th.uses (seat_of g t) seat' st.levels st.mark st.site (ap (at_point st.site) st.point) st.sits st.wait st.stacked
      c.behind c.call st.right (same_mark ∙ st.marked) coming same_pin (st.own, st.transaction)

  own_due : (e : Enter) → th.entering ≡ Some e → FramesStand texts g.world.table th.frames (Some e) th.depth th.uses (seat_of g t)
  own_due e due = subst (λ d. FramesStand texts g.world.table th.frames d th.depth th.uses (seat_of g t)) due own

  -- the thread in its function
  abbrev entered_thread : Enter → Thread
  entered_thread e = record (recorded g.world.table e.function th) { frames = frame_of g.world e ∷ th.frames; entering = None }

  entered_stands : (e : Enter) → th.entering ≡ Some e → is_right g.world.table e.version e.function ≡ true
      → StandsAt texts g.world.table (entered_now texts e.function e.arguments) th.frames None th.depth
      (recorded_at th.depth th.uses (use_of g.world.table e.function))
      (moved_seat (move_leads (Live th)) (Live (entered_thread e)) (seat_of g t))
  entered_stands e due right =
      enter_stands th.frames e (moved_seat (move_leads (Live th)) (Live (entered_thread e)) (seat_of g t)) (own_due e due) right refl
      (enter_leads th e due) refl

  -- with the use of the function its record is consistent, also where there is no room for a frame
  entered_whole : (e : Enter) → th.entering ≡ Some e → is_right g.world.table e.version e.function ≡ true
      → IsConsistent g.world.table (recorded_at th.depth th.uses (use_of g.world.table e.function))
  entered_whole e due right =
      slot_whole (entered_now texts e.function e.arguments) th.frames None th.depth (recorded_at th.depth th.uses (use_of g.world.table e.function))
      (moved_seat (move_leads (Live th)) (Live (entered_thread e)) (seat_of g t)) (entered_stands e due right)

  pub turn_leaves : (w : World) → Turn g.world t th w → Leaves texts g t w
  turn_leaves w (turn.misuses_at_stop s name used wrong e) =
      absurd (false≢true (sym wrong ∙ right_at s name (direct (kind_of s.stop) name used)))
  turn_leaves w (turn.misuses_at_enter e due wrong is) = absurd (false≢true (sym wrong ∙ enter_right th.frames e (own_due e due)))
  turn_leaves w (turn.traps k e) =
      subst (Leaves texts g t) (sym e)
      (ended texts g t (record g.world { finish = Some (Trapped k t) }) refl refl refl (record { closed = whole.closed; each = whole.each }))
  turn_leaves w (turn.stops s user used made) = made_leaves s user w used made
  turn_leaves w (turn.has_no_room e due right is) =
      let user = recorded g.world.table e.function th in
      subst (Leaves texts g t) (sym is)
      (ended texts g t (record (with_thread t user g.world) { finish = Some (Trapped Depth t) })
      (length-set g.world.slots t (Live user)) refl refl
      (whole_by g.world.table (record (with_thread t user g.world) { finish = Some (Trapped Depth t) }) (slice_set g.world.slots t (Live user)) refl refl
      whole.closed (set_whole g.world.table g.world.slots t (Live user) (entered_whole e due right) whole.each)))
  turn_leaves w (turn.enters e due right is) =
      let after = entered_thread e in
      let seat' = moved_seat (move_leads (Live th)) (Live after) (seat_of g t) in
      subst (Leaves texts g t) (sym is)
      (by_slots texts g t (with_thread t after g.world) th (Live after) g.world.slots seats on lives refl refl refl refl others_stay
      (subst (λ f. StandsAt texts g.world.table f th.frames None th.depth (recorded_at th.depth th.uses (use_of g.world.table e.function)) seat')
      (sym (frame_is texts g.world h e)) (entered_stands e due right))
      whole.closed whole.each (entered_whole e due right))
