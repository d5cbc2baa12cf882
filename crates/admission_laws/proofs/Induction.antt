-- In each guard that a legal journal comes to, each thread stands in the store, and no definition was misused.
use Rattle.std.proofs.Common.{◌≡◌, ℕ, zero, suc, ◌+◌, ◌-◌, ◌<◌, inl, inr, Bool, true, false, ◌&&◌, ◌||◌, List, [], ◌∷◌, ◌++◌, codes, length, length-set, get_or-set_same, get_or-set_other, replicate, slice_index_or, slice_set, is_some, Option, Some, None, refl, sym, ap, subst, ◌∙◌, le_refl, arith}
use Rattle.std.proofs.lemmas.Bool.{false≢true, cases_eq, cases_lt, or_from}
use Rattle.std.specs.Option.{option_map_or}
use Rattle.std.proofs.lemmas.List.{get_or_past, length-replicate}
use Rattle.std.proofs.lemmas.List.Elements.{All-nil}
use Rattle.std.specs.Prelude.{nat_lt}
use Rattle.run_types.specs.declared.run.Event.{Event}
use Rattle.c_tree.specs.BareDef.{BareDef}
use Rattle.c_semantics.specs.Changes.{changed, interface}
use Rattle.c_semantics.specs.Skeletons.{skeleton, is_check_in_kind}
use Rattle.c_semantics.specs.SkeletonLaws.{GoesAlong}
use Rattle.c_semantics.specs.SourceTexts.{Text}
use Rattle.c_semantics.specs.Standing.{stands_at}
use Rattle.c_semantics.specs.Store.{Body, Mark, CheckInOf, store, generation_by, check_in_number}
use Rattle.c_semantics.specs.Texts.{definition}
use Rattle.c_semantics.specs.Threads.{Frame, Enter, Record, Thread}
use Rattle.con_freeness.specs.Laws.{LeastSlotRefuses}
use Rattle.con_freeness.specs.Rows.{Names, meets}
use Rattle.name_sets.specs.NameLists.{is_among}
use Rattle.effects.specs.Sites.{Site, Passes}
use Rattle.effects.specs.Rows.{AreRows}
use Rattle.source_model.specs.Versions.{Table, current, next_table}
use Rattle.source_model.specs.Worlds.{World, Slot, Free, Live, Over, in_slot, alive_in, is_over, first_world, main_enter}
use Rattle.source_model.specs.Moves.{move}
use Rattle.source_model.specs.Installs.{installed}
use Rattle.source_model.specs.Patches.{last_definitions}
use Rattle.source_model.specs.Guards.{Guard, Seat, Setup, Rules, Offer, empty_seat, first_guard, has_ended, bodies_of, seat_of, moved, checked_in, mark_in, mark_of, mark_of_frames, installed_over, pinned_from, row_in_force, in_transaction}
use Rattle.source_model.specs.Journals.{guard_after}
use Rattle.version_laws.specs.Histories.{IsHistory, last_text}
use Rattle.version_laws.proofs.RunHistories.{IsOf, move_is_of, install_is_of, first_is_of}
use Rattle.version_laws.proofs.TableHistories.{last_is_next}
use Rattle.admission_laws.specs.SoundTexts.{IsSound, TextsOf, AllSound, is_function, definitions_of, version_in, newest, now_in}
use Rattle.admission_laws.specs.SoundTexts as sound_texts
use Rattle.admission_laws.specs.Standing.{Sits, Placed, StandsAt, Starting, FramesStand, SlotStands}
use Rattle.admission_laws.specs.Standing as standing
use Rattle.admission_laws.specs.InTransactions.{InTransaction}
use Rattle.admission_laws.proofs.Turns.{move_made}
use Rattle.admission_laws.proofs.LaterTexts.{definitions_more}
use Rattle.admission_laws.proofs.RightUses.{last_by_name, current_right, function_defined}
use Rattle.admission_laws.proofs.AdmittedRows.{OthersLeft, concrete_left, others_left}
use Rattle.admission_laws.proofs.LaterTransactions.{transaction_later}
use Rattle.admission_laws.proofs.WholeRecords.{SlotIsWhole, Whole, none_is_whole, whole_later}
use Rattle.admission_laws.proofs.EachEvent.{IsAdmitted, Keeps, in_each_guard}
use Rattle.admission_laws.proofs.SeatsAfter.{length_moved, length_pinned, mark_kept, check_in_kept, pin_set}
use Rattle.admission_laws.proofs.LaterStands.{frames_later}
use Rattle.admission_laws.proofs.MovedSlots.{lives_within}
use Rattle.admission_laws.proofs.MovesStand.{alive_is, turn_leaves}

-- what holds of each guard
pub record Good (setup : Setup) (g : Guard) : Type 0 where
  pub texts : TextsOf setup g.versions
  pub history : IsOf (definitions_of g.versions) g.world
  pub count : length g.seats ≡ length g.world.slots
  pub unmarked : g.world.misused ≡ false
  pub each : is_over g.world ≡ false → (k : ℕ) → SlotStands g.versions g.world.table (in_slot g.world k) (seat_of g k)
  pub whole : Whole g.world

-- where an offer's text is installed: the names that it changes, the seats with their pins, and the table after the text p
abbrev names_changed : Guard → Offer → Names
names_changed g o = changed (last_definitions g.versions) o.text.definitions

abbrev pinned_seats : Rules → Guard → Offer → List Seat
pinned_seats rules g o = pinned_from rules (bodies_of g) (names_changed g o) g.world 0 g.seats

abbrev table_after : Guard → Offer → List BareDef → Table
table_after g o p = next_table (current g.world.table) p o.text.definitions g.world.table

-- a run that hasn't ended goes on
pub still_going : (setup : Setup) (g : Guard) → Good setup g → has_ended g ≡ false → is_over g.world ≡ false
still_going setup g h e = or_from g.world.misused (is_some g.world.finish) h.unmarked e

-- ---- check-ins

record Comes (bodies : List Body) (p : Site) (due : Option Enter) : Type 0 where
  none_due : due ≡ None
  check_in : Passes bodies p (λ at. is_check_in_kind at.kind)

coming_of : (bodies : List Body) (mark : Mark) (p : Site) (v : ℕ) (due : Option Enter) (b : Bool) → Placed bodies mark p v due b → b ≡ true
    → Comes bodies p due
coming_of bodies mark p v _ _ (standing.calling e behind call same) h = absurd (false≢true h)
coming_of bodies mark p v _ _ (standing.coming covered check_in) h = record { none_due = refl; check_in = check_in }
coming_of bodies mark p v _ _ (standing.passed f generation number is_mark at) h = absurd (false≢true h)
coming_of bodies mark p v _ _ (standing.stopped behind no_check_in stays) h = absurd (false≢true h)

-- a thread that passes its check-in stands there by the new mark
checked_stands : (texts : List Text) (table : Table) (f : Frame) (fs : List Frame) (due : Option Enter) (depth : ℕ) (uses : Record)
    (seat seat' : Seat) → StandsAt texts table f fs due depth uses seat → seat.at_check_in ≡ true → seat'.mark ≡ Some (mark_in (store texts) f)
    → seat'.at_check_in ≡ false → seat'.pinned ≡ seat.pinned → StandsAt texts table f fs due depth uses seat'
checked_stands texts table f fs due depth uses seat seat' st coming marked passed same_pin =
    let bodies = store texts in
    let c = coming_of bodies st.mark st.site f.version due seat.at_check_in st.placed coming in
    let generation = generation_by f.function f.version bodies in
    let number = check_in_number st.sits.body (stands_at st.sits.body.skeleton None f) in
    record {
      site = st.site;
      sits = st.sits;
      point = st.point;
      levels = st.levels;
      wait = st.wait;
      stacked = st.stacked;
      mark = mark_in bodies f;
      marked = marked;
      placed =
          subst (Placed bodies (mark_in bodies f) st.site f.version due) (sym passed)
          (subst (λ d. Placed bodies (mark_in bodies f) st.site f.version d false) (sym c.none_due)
          (standing.passed f.function generation number
          (ap (λ o. CheckInOf f.function generation (option_map_or (λ b. check_in_number b (stands_at b.skeleton None f)) o 0)) st.sits.found)
          (record {
            body = st.sits.body;
            stored = st.sits.stored;
            function = st.sits.function_is;
            of_generation = st.sits.generation_is;
            is_check_in = c.check_in;
            counted = ap (check_in_number st.sits.body)
                (st.point ∙ ap (λ d. stands_at (skeleton st.sits.code) d f) c.none_due
                ∙ ap (λ s. stands_at s None f) (sym st.sits.skeleton_is));
          })));
      right = st.right;
      still = st.still;
      own = st.own;
      transaction = subst (λ b. InTransaction texts table depth uses b st.site st.own due st.levels) (sym same_pin) st.transaction;
    }

slot_checked : (texts : List Text) (table : Table) (x : Slot) (seat : Seat) → SlotStands texts table x seat → seat.at_check_in ≡ true
    → SlotStands texts table x (record seat { mark = mark_of (store texts) x; at_check_in = false })
slot_checked texts table (Live th) seat h coming = by th.frames h
  where
    by : (fs : List Frame) → FramesStand texts table fs th.entering th.depth th.uses seat
        → FramesStand texts table fs th.entering th.depth th.uses (record seat { mark = mark_of_frames (store texts) fs; at_check_in = false })
    by [] s = absurd (false≢true (sym s.at_check_in ∙ coming))
    by (f ∷ fs) st = checked_stands texts table f fs th.entering th.depth th.uses seat _ st coming refl refl refl
slot_checked texts table Free seat h coming = tt
slot_checked texts table (Over n v) seat h coming = tt

-- a seat at a check-in is there
seat_within : (seats : List Seat) (t : ℕ) → (slice_index_or seats t empty_seat).at_check_in ≡ true → t < length seats
seat_within seats t h = elim (cases_lt t (length seats)) [
  | inl less ↦ less
  | inr past ↦ absurd (false≢true (sym (ap (λ s. s.at_check_in) (get_or_past seats t empty_seat past)) ∙ h))
]

-- one seat set
set_stands : (texts : List Text) (table : Table) (slot : ℕ → Slot) (seats : List Seat) (t : ℕ) (new : Seat) → t < length seats
    → SlotStands texts table (slot t) new → ((k : ℕ) → SlotStands texts table (slot k) (slice_index_or seats k empty_seat))
    → (k : ℕ) → SlotStands texts table (slot k) (slice_index_or (slice_set seats t new) k empty_seat)
set_stands texts table slot seats t new inside here each k = elim (cases_eq k t) [
  | inl same ↦
      subst (λ i. SlotStands texts table (slot i) (slice_index_or (slice_set seats t new) i empty_seat)) (sym same)
      (subst (SlotStands texts table (slot t)) (sym (get_or-set_same seats t new empty_seat inside)) here)
  | inr other ↦ subst (SlotStands texts table (slot k)) (sym (get_or-set_other seats t k new empty_seat other)) (each k)
]

-- ---- texts

last_of_more : (texts : List Text) (q : Text) → last_definitions (texts ++ q ∷ []) ≡ q.definitions
last_of_more [] q = refl
last_of_more (t ∷ []) q = refl
last_of_more (t ∷ u ∷ texts) q = last_of_more (u ∷ texts) q

pub last_is : (setup : Setup) (texts : List Text) → TextsOf setup texts → last_definitions texts ≡ last_text (definitions_of texts)
last_is setup _ sound_texts.first = refl
last_is setup _ (sound_texts.next texts k o before at) =
    last_of_more texts o.text
    ∙ sym (ap last_text (definitions_more texts o.text) ∙ last_is_next (definitions_of texts) o.text.definitions)

-- a sound text has main
has_main : (texts : List Text) (q : Text) → IsSound (texts ++ q ∷ []) → is_some (definition q.definitions (codes "main")) ≡ true
has_main texts q sound =
    subst (λ text. is_some (definition text (codes "main")) ≡ true)
    (ap last_text (definitions_more texts q) ∙ last_is_next (definitions_of texts) q.definitions)
    (subst (λ o. is_some o ≡ true) (sym (last_by_name (texts ++ q ∷ []) (codes "main"))) (function_defined _ sound.main))

-- ---- the start

all_free : (n k : ℕ) → slice_index_or (replicate n Free) k Free ≡ Free
all_free zero k = refl
all_free (suc n) zero = refl
all_free (suc n) (suc k) = all_free n k

module _ (along : GoesAlong) (least : LeastSlotRefuses) (rules : Rules) (rows : AreRows rules.row) (setup : Setup) (sound : AllSound setup) where
  first_good : Good setup (first_guard setup)
  first_good = record {
    texts = sound_texts.first;
    history = history;
    count = ap suc (length-replicate (setup.limits.slots - 1) empty_seat ∙ sym (length-replicate (setup.limits.slots - 1) Free));
    unmarked = refl;
    each = λ on k. by k;
    whole = record { closed = All-nil _; each = whole_slots };
  }
    where
      texts : List Text
      texts = setup.first ∷ []

      is_sound : IsSound (setup.first ∷ [])
      is_sound = sound (setup.first ∷ []) sound_texts.first

      history : IsOf (definitions_of (setup.first ∷ [])) (first_world setup.first.definitions setup.limits)
      history = first_is_of setup.first.definitions setup.limits (function_defined _ is_sound.main)

      by : (k : ℕ) → SlotStands (setup.first ∷ []) (first_guard setup).world.table (in_slot (first_guard setup).world k) (seat_of (first_guard setup) k)
      by zero = record {
        enter = main_enter;
        is_due = refl;
        marked = refl;
        at_check_in = refl;
        version = le_refl 1;
        function_is = is_sound.main;
        right =
            current_right (setup.first ∷ []) (first_guard setup).world.table history.history (codes "main")
            (function_defined _ is_sound.main);
        outside = refl;
        none_recorded = refl;
        unpinned = refl;
      }
      by (suc k) =
          subst (λ x. SlotStands (setup.first ∷ []) (first_guard setup).world.table x (seat_of (first_guard setup) (suc k)))
          (sym (all_free (setup.limits.slots - 1) k)) tt

      whole_slots : (k : ℕ) → SlotIsWhole (first_guard setup).world.table (in_slot (first_guard setup).world k)
      whole_slots zero = none_is_whole (first_guard setup).world.table
      whole_slots (suc k) = subst (SlotIsWhole (first_guard setup).world.table) (sym (all_free (setup.limits.slots - 1) k)) tt

  -- ---- each event

  move_good : (g : Guard) → Good setup g → (t : ℕ) (w : World) → (seat_of g t).at_check_in ≡ false → move g.world t ≡ Some w
      → Good setup (moved g t w)
  move_good g h t w passed made =
      let m = move_made g.world w t made in
      let l = turn_leaves along g.versions (sound g.versions h.texts) g h.history.history h.count m.goes_on (h.each m.goes_on) h.whole t passed
      m.thread m.lives w m.turn in
      record {
        texts = h.texts;
        history = move_is_of (definitions_of g.versions) g.world w t made h.history;
        count = length_moved 0 t _ g.world w g.seats ∙ h.count ∙ sym l.count;
        unmarked = l.unmarked ∙ h.unmarked;
        each = l.each;
        whole = l.whole;
      }

  check_good : (g : Guard) → Good setup g → (t : ℕ) → has_ended g ≡ false → (seat_of g t).at_check_in ≡ true
      → Good setup (checked_in (bodies_of g) g t)
  check_good g h t e coming = record {
    texts = h.texts;
    history = h.history;
    count = length-set g.seats t _ ∙ h.count;
    unmarked = h.unmarked;
    each = λ on k.
        set_stands g.versions g.world.table (in_slot g.world) g.seats t _ (seat_within g.seats t coming)
        (subst (λ x. SlotStands g.versions g.world.table (in_slot g.world t) (record (seat_of g t) { mark = mark_of (bodies_of g) x; at_check_in = false }))
        (sym (alive_is g.world t on))
        (slot_checked g.versions g.world.table (in_slot g.world t) (seat_of g t) (h.each on t) coming)) (h.each on) k;
    whole = h.whole;
  }

  install_good : (g : Guard) → Good setup g → (k : ℕ) (o : Offer) → IsAdmitted rules setup g o
      → Good setup (installed_over rules g k o.text (changed (last_definitions g.versions) o.text.definitions) (installed o.text.definitions g.world))
  install_good g h k o a = record {
    texts = later;
    history = history;
    count = length_pinned rules (bodies_of g) _ g.world 0 g.seats ∙ h.count;
    unmarked = h.unmarked;
    each = λ on i. slot i (in_slot g.world i) refl (h.each a.goes_on i);
    whole = whole_later g.world.text o.text.definitions g.world.table g.world (installed o.text.definitions g.world) refl refl refl refl h.whole;
  }
    where
      next : List Text
      next = g.versions ++ o.text ∷ []

      later : TextsOf setup (g.versions ++ o.text ∷ [])
      later = sound_texts.next g.versions a.number o h.texts a.offered

      history : IsOf (definitions_of (g.versions ++ o.text ∷ [])) (installed o.text.definitions g.world)
      history =
          subst (λ ts. IsOf ts (installed o.text.definitions g.world)) (sym (definitions_more g.versions o.text))
          (install_is_of (definitions_of g.versions) g.world o.text.definitions (has_main g.versions o.text (sound (g.versions ++ o.text ∷ []) later))
          h.history)

      seats : List Seat
      seats = pinned_from rules (bodies_of g) (changed (last_definitions g.versions) o.text.definitions) g.world 0 g.seats

      alive : (i : ℕ) (th : Thread) → in_slot g.world i ≡ Live th → alive_in g.world i ≡ Live th
      alive i th e = alive_is g.world i a.goes_on ∙ e

      inside : (i : ℕ) (th : Thread) → in_slot g.world i ≡ Live th → i < length g.seats
      inside i th e = subst (λ n. i < n) (sym h.count) (lives_within g.world.slots i th e)

      zeroth : (k : ℕ) → 0 + k ≡ k
      zeroth k = omega arith

      -- the pins
      pins : (i : ℕ) (th : Thread) → in_slot g.world i ≡ Live th
          → (slice_index_or (pinned_seats rules g o) i empty_seat).pinned
          ≡ ((seat_of g i).pinned || (nat_lt 0 th.depth && meets (names_changed g o) (row_in_force rules (bodies_of g) (seat_of g i).mark).prior))
      pins i th e =
          pin_set rules (bodies_of g) (names_changed g o) g.world 0 g.seats i (inside i th e)
          ∙ ap (λ x. (seat_of g i).pinned || (in_transaction x && meets (names_changed g o) (row_in_force rules (bodies_of g) (seat_of g i).mark).prior))
          (ap (alive_in g.world) (zeroth i) ∙ alive i th e)

      -- the text of the last version
      last : g.world.text ≡ last_text (definitions_of g.versions)
      last = h.history.last

      transaction : (i : ℕ) (th : Thread) → in_slot g.world i ≡ Live th → (f : Frame) (fs : List Frame)
          (st : StandsAt g.versions g.world.table f fs th.entering th.depth th.uses (seat_of g i))
          → InTransaction (g.versions ++ o.text ∷ []) (installed o.text.definitions g.world).table th.depth th.uses
          (slice_index_or (pinned_seats rules g o) i empty_seat).pinned
          st.site st.own th.entering st.levels
      transaction i th e f fs st =
          subst (λ p. InTransaction (g.versions ++ o.text ∷ []) (table_after g o p) th.depth th.uses (slice_index_or (pinned_seats rules g o) i empty_seat).pinned st.site st.own
          th.entering st.levels) (sym last)
          (transaction_later g.versions o.text (sound g.versions h.texts)
          ((sound (g.versions ++ o.text ∷ []) later).stay g.versions o.text refl) g.world.table h.history.history
          (subst (λ p. IsHistory (definitions_of (g.versions ++ o.text ∷ [])) (table_after g o p)) last history.history)
          f fs th.entering th.depth th.uses (seat_of g i) st
          (meets (names_changed g o) (row_in_force rules (bodies_of g) (seat_of g i).mark).prior) (slice_index_or (pinned_seats rules g o) i empty_seat).pinned
          (subst (λ p. OthersLeft (bodies_of g) st.mark (seat_of g i).pinned
          (meets (names_changed g o) (row_in_force rules (bodies_of g) (seat_of g i).mark).prior) (changed p o.text.definitions)) (last_is setup g.versions h.texts)
          (others_left least rules rows (bodies_of g) g.seats (names_changed g o) (interface (last_definitions g.versions) o.text.definitions) a.admitted i
          (inside i th e) st.mark st.marked))
          (pins i th e))

      slot : (i : ℕ) (x : Slot) → in_slot g.world i ≡ x → SlotStands g.versions g.world.table x (seat_of g i)
          → SlotStands (g.versions ++ o.text ∷ []) (installed o.text.definitions g.world).table x (slice_index_or seats i empty_seat)
      slot i Free e st = tt
      slot i (Over n v) e st = tt
      slot i (Live th) e st =
          frames_later g.versions o.text g.world.table (installed o.text.definitions g.world).table h.history.history history.history
          (seat_of g i) (slice_index_or seats i empty_seat)
          (mark_kept rules (bodies_of g) (changed (last_definitions g.versions) o.text.definitions) g.world 0 g.seats i)
          (check_in_kept rules (bodies_of g) (changed (last_definitions g.versions) o.text.definitions) g.world 0 g.seats i)
          (λ mark name is concrete.
          subst (λ p. is_among (interface p o.text.definitions) name ≡ false) (last_is setup g.versions h.texts)
          (concrete_left least rules rows (bodies_of g) g.seats (changed (last_definitions g.versions) o.text.definitions)
          (interface (last_definitions g.versions) o.text.definitions) a.admitted i
          (subst (λ n. i < n) (sym h.count) (lives_within g.world.slots i th e)) mark is name concrete))
          th.frames th.entering th.depth th.uses
          (λ outside unpinned.
          pins i th e
          ∙ ap (λ b. b || (nat_lt 0 th.depth && meets (names_changed g o) (row_in_force rules (bodies_of g) (seat_of g i).mark).prior)) unpinned
          ∙ ap (λ d. nat_lt 0 d && meets (names_changed g o) (row_in_force rules (bodies_of g) (seat_of g i).mark).prior) outside)
          (λ f fs st. transaction i th e f fs st) st

  keeps : (g : Guard) → Good setup g → Keeps rules setup g (Good setup)
  keeps g h = record {
    moves = move_good g h;
    checks = check_good g h;
    opens = λ k. record { texts = h.texts; history = h.history; count = h.count; unmarked = h.unmarked; each = h.each; whole = h.whole };
    ends = λ k a. record { texts = h.texts; history = h.history; count = h.count; unmarked = h.unmarked; each = h.each; whole = h.whole };
    installs = install_good g h;
  }

  pub each_is_good : (events : List Event) (g : Guard) → guard_after rules setup events ≡ Some g → Good setup g
  each_is_good events g legal = in_each_guard rules setup (Good setup) first_good keeps events g legal
