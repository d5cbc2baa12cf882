-- Events that print nothing: check-ins, and what becomes of offers but for a decision.
use Rattle.std.proofs.Common.{◌≡◌, ◌⊎◌, inl, inr, ℕ, zero, suc, ◌<◌, ◌≤◌, Bool, true, false, List, [], ◌∷◌, ◌++◌, length, slice_get, slice_set, Option, Some, None, refl, sym, ◌∙◌, ap, subst}
use Rattle.std.specs.Prelude.{◌&&◌, not, option_map}
use Rattle.std.specs.Option.{is_none, option_and_then}
use Rattle.std.proofs.lemmas.Bool.{false≢true, true≢false, cases_eq}
use Rattle.std.proofs.lemmas.List.{append-nil, length-map, length-set}
use Rattle.std.proofs.lemmas.Option.{none-some, same_Some}
use Rattle.run_types.specs.declared.run.Event.TheVariants.{CheckIn, Offer, Withdraw}
use Rattle.c_tree.specs.BareDef.{BareDef}
use Rattle.c_semantics.specs.SourceTexts.{Text}
use Rattle.c_semantics.specs.Store.{Body}
use Rattle.c_semantics.specs.Threads.{Frame, Thread}
use Rattle.source_model.specs.Answers.{Answer, Withdrawn}
use Rattle.source_model.specs.FrameLaws.{FramesComeThrough}
use Rattle.source_model.specs.JournalLaws.{texts_of}
use Rattle.source_model.specs.Runs.{SourceMove, run, start}
use Rattle.source_model.specs.Versions.{current}
use Rattle.source_model.specs.Worlds.{World, Slot, Free, Live, Over, alive_in, in_slot, is_over}
use Rattle.source_model.specs.Guards.{Answered, Guard, Rules, Setup, answered, bodies_of, can_open, checked_in, has_ended, is_open, mark_of_frames, seat_of}
use Rattle.source_model.specs.Guards as guard
use Rattle.source_model.specs.Journals.{guard_if, happens}
use Rattle.source_runner.specs.declared.queries.FrameAt.{FrameAt}
use Rattle.run_machine.specs.Machines.{Shown}
use Rattle.source_runner.specs.Queries.{Place, innermost, innermost_in, place_at, place_of}
use Rattle.resolved_tree.specs.Nodes.{Table}
use Rattle.rows_in_force.specs.Origins.{MarksAreOfFrames, mark_at}
use Rattle.effects.specs.Rows.{AreRows}
use Rattle.dsu_runs.specs.Books.{Entries, IsBook}
use Rattle.dsu_runs.proofs.Books.{same_offers}
use Rattle.plain_engine.specs.declared.seat.Kept.TheVariants.{Passed}
use Rattle.plain_engine.specs.declared.seat.Seat.{Seat}
use Rattle.plain_engine.specs.Kept.{IsOfVersion, IsSeat, mark_in_frame}
use Rattle.plain_engine.specs.Needs.{IsReached}
use Rattle.plain_engine.specs.Plain.{AreSeats, IsRunAt, IsStateAt, ShownState}
use Rattle.plain_engine.specs.Steps.{Happened, Stayed}
use Rattle.plain_engine.proofs.Reaching.{then_reached}
use Rattle.plain_engine.proofs.SlotsAfter.{alive_is}
use Rattle.plain_engine.proofs.Standing.{seat_at}

-- ---- guards by a test

no_guard : (a b : Bool) (g : Guard) → (a ≡ false → b ≡ false) → guard_if (not a && b) g ≡ None
no_guard true b g h = refl
no_guard false false g h = refl
no_guard false true g h = absurd (true≢false (h refl))

a_guard : (a b : Bool) (g : Guard) → a ≡ false → b ≡ true → guard_if (not a && b) g ≡ Some g
a_guard a b g going test = ap (λ x. guard_if (not x && b) g) going ∙ ap (λ x. guard_if x g) test

-- ---- offers that are opened and withdrawn

pub offers_none : (setup : Setup) (g : Guard) (k : ℕ) (s : ShownState) → IsStateAt setup g s → (has_ended g ≡ false → can_open setup g k ≡ false)
    → Stayed setup (Offer k) g s
offers_none setup g k s at none = record {
  never = λ rules rows. no_guard (has_ended g) (can_open setup g k) (record g { open_offer = Some k; greatest = k }) none;
  stays = at;
}

-- the state where the guard changes in its offers alone
pub with_offers : (setup : Setup) (g : Guard) (s : ShownState) (book : Entries) (opened : Option ℕ) (greatest closed : ℕ)
    (given : List Answered) → IsStateAt setup g s
    → IsBook setup (record g { open_offer = opened; greatest = greatest; closed = closed; answers = given }) s.installed.names book
    → IsReached setup (record g { open_offer = opened; greatest = greatest; closed = closed; answers = given })
    → IsStateAt setup (record g { open_offer = opened; greatest = greatest; closed = closed; answers = given }) (record s { book = book })
with_offers setup g s book opened greatest closed given at is reached = record {
  run = record { moves = at.run.moves; run = at.run.run; world = at.run.world; trees = at.run.trees; versions = at.run.versions };
  seats = record { many = at.seats.many; each = at.seats.each };
  versions = record {
    installed = at.versions.installed;
    before = at.versions.before;
    tree = at.versions.tree;
    numbered = at.versions.numbered;
    last_is = at.versions.last_is;
    rows = at.versions.rows;
  };
  book = is;
  reached = reached;
  meets = at.meets;
}

pub offers_one : (setup : Setup) (g : Guard) (k : ℕ) (s : ShownState) (book : Entries) → IsStateAt setup g s → has_ended g ≡ false
    → can_open setup g k ≡ true → IsBook setup (record g { open_offer = Some k; greatest = k }) s.installed.names book
    → Happened setup (Offer k) g (record s { book = book }) []
offers_one setup g k s book at going can is = record {
  after = record g { open_offer = Some k; greatest = k };
  happens = opens;
  there = with_offers setup g s book (Some k) k g.closed g.answers at is
      (then_reached setup (Offer k) g (record g { open_offer = Some k; greatest = k }) at.reached opens);
  grew = sym (append-nil g.world.output);
}
  where
    opens : (rules : Rules) → AreRows rules.row → happens rules setup (Offer k) g ≡ Some (record g { open_offer = Some k; greatest = k })
    opens rules rows = a_guard (has_ended g) (can_open setup g k) (record g { open_offer = Some k; greatest = k }) going can

pub withdraws_none : (setup : Setup) (g : Guard) (k : ℕ) (s : ShownState) → IsStateAt setup g s → (has_ended g ≡ false → is_open g k ≡ false)
    → Stayed setup (Withdraw k) g s
withdraws_none setup g k s at none = record {
  never = λ rules rows. no_guard (has_ended g) (is_open g k) (answered k Withdrawn g) none;
  stays = at;
}

-- an offer that is closed without an install
pub closed_at : (setup : Setup) (g : Guard) (k : ℕ) (a : Answer) (s : ShownState) (book : Entries) → IsStateAt setup g s
    → IsBook setup (answered k a g) s.installed.names book → IsReached setup (answered k a g)
    → IsStateAt setup (answered k a g) (record s { book = book })
closed_at setup g k a s book at is reached =
    with_offers setup g s book None g.greatest (suc g.closed) (g.answers ++ record { offer = k; answer = a } ∷ []) at is reached

pub withdraws_one : (setup : Setup) (g : Guard) (k : ℕ) (s : ShownState) (book : Entries) → IsStateAt setup g s → has_ended g ≡ false
    → is_open g k ≡ true → IsBook setup (answered k Withdrawn g) s.installed.names book
    → Happened setup (Withdraw k) g (record s { book = book }) []
withdraws_one setup g k s book at going offered is = record {
  after = answered k Withdrawn g;
  happens = closes;
  there = closed_at setup g k Withdrawn s book at is
      (then_reached setup (Withdraw k) g (answered k Withdrawn g) at.reached closes);
  grew = sym (append-nil g.world.output);
}
  where
    closes : (rules : Rules) → AreRows rules.row → happens rules setup (Withdraw k) g ≡ Some (answered k Withdrawn g)
    closes rules rows = a_guard (has_ended g) (is_open g k) (answered k Withdrawn g) going offered

-- ---- check-ins

no_check_in : (a b c : Bool) (g : Guard) → (a ≡ false → b ≡ true → c ≡ false) → guard_if (not a && b && c) g ≡ None
no_check_in true b c g h = refl
no_check_in false false c g h = refl
no_check_in false true false g h = refl
no_check_in false true true g h = absurd (true≢false (h refl refl))

a_check_in : (a b c : Bool) (g : Guard) → a ≡ false → b ≡ true → c ≡ true → guard_if (not a && b && c) g ≡ Some g
a_check_in a b c g going at none =
    ap (λ x. guard_if (not x && b && c) g) going ∙ ap (λ x. guard_if (x && c) g) at ∙ ap (λ x. guard_if x g) none

pub stays_put : (setup : Setup) (g : Guard) (slot : ℕ) (s : ShownState) → IsStateAt setup g s
    → (has_ended g ≡ false → (seat_of g slot).at_check_in ≡ true → is_none g.open_offer ≡ false) → Stayed setup (CheckIn slot) g s
stays_put setup g slot s at none = record {
  never = λ rules rows.
      no_check_in (has_ended g) (seat_of g slot).at_check_in (is_none g.open_offer) (checked_in (bodies_of g) g slot) none;
  stays = at;
}

-- the mark of a frame's check-in
mark_is : (t : Table) (bodies : List Body) → MarksAreOfFrames → (f : Frame) (kept : FrameAt) → place_of f ≡ place_at t kept
    → guard.mark_in bodies f ≡ mark_in_frame t bodies kept
mark_is t bodies are f kept same =
    sym (are bodies f) ∙ ap (λ (p : Place). mark_at bodies p.function p.version p.point) same

frames_mark : (t : Table) (bodies : List Body) → MarksAreOfFrames → (fs : List Frame) (kept : Option FrameAt)
    → innermost fs ≡ option_map (place_at t) kept → mark_of_frames bodies fs ≡ option_map (mark_in_frame t bodies) kept
frames_mark t bodies are [] None same = refl
frames_mark t bodies are [] (Some f) same = absurd (none-some (place_at t f) same)
frames_mark t bodies are (f ∷ fs) None same = absurd (none-some (place_of f) (sym same))
frames_mark t bodies are (f ∷ fs) (Some kept) same =
    ap Some (mark_is t bodies are f kept (same_Some (place_of f) (place_at t kept) same))

pub slot_mark : (t : Table) (bodies : List Body) → MarksAreOfFrames → (slot : Slot) (kept : Option FrameAt)
    → innermost_in slot ≡ option_map (place_at t) kept → guard.mark_of bodies slot ≡ option_map (mark_in_frame t bodies) kept
slot_mark t bodies are Free None same = refl
slot_mark t bodies are Free (Some f) same = absurd (none-some (place_at t f) same)
slot_mark t bodies are (Live th) kept same = frames_mark t bodies are th.frames kept same
slot_mark t bodies are (Over n v) None same = refl
slot_mark t bodies are (Over n v) (Some f) same = absurd (none-some (place_at t f) same)

-- its version is one that there is
frames_version : (t : Table) (count : ℕ) (fs : List Frame) (kept : Option FrameAt) → innermost fs ≡ option_map (place_at t) kept
    → ((f : Frame) → slice_get fs 0 ≡ Some f → f.version ≤ count) → IsOfVersion count (Passed kept)
frames_version t count fs None same early = tt
frames_version t count [] (Some f) same early = absurd (none-some (place_at t f) same)
frames_version t count (f ∷ fs) (Some kept) same early =
    subst (λ n. n ≤ count) (ap (λ (p : Place). p.version) (same_Some (place_of f) (place_at t kept) same)) (early f refl)

pub slot_version : (t : Table) (count : ℕ) (slot : Slot) (kept : Option FrameAt) → innermost_in slot ≡ option_map (place_at t) kept
    → ((th : Thread) (f : Frame) → slot ≡ Live th → slice_get th.frames 0 ≡ Some f → f.version ≤ count)
    → IsOfVersion count (Passed kept)
slot_version t count Free None same early = tt
slot_version t count Free (Some f) same early = absurd (none-some (place_at t f) same)
slot_version t count (Live th) kept same early = frames_version t count th.frames kept same (λ f at. early th f refl at)
slot_version t count (Over n v) None same early = tt
slot_version t count (Over n v) (Some f) same early = absurd (none-some (place_at t f) same)

-- the frames of a guard's world were entered under its versions
split_start : (texts : List (List BareDef)) (ms : List SourceMove) (o : Option World) (w : World)
    → option_and_then (run texts ms) o ≡ Some w → (first : World) × (o ≡ Some first) × (run texts ms first ≡ Some w)
split_start texts ms None w e = absurd (none-some w e)
split_start texts ms (Some first) w e = (first, refl, e)

pub current_is : (setup : Setup) (g : Guard) (r : Shown) (at : IsRunAt setup g r) → current g.world.table ≡ length g.versions
current_is setup g r at =
    r.counted (texts_of setup) setup.limits at.moves g.world at.run at.world
    ∙ ap length at.versions
    ∙ length-map g.versions (λ (t : Text). t.definitions)

pub versions_there : (setup : Setup) (g : Guard) (r : Shown) → IsRunAt setup g r → FramesComeThrough
    → (slot : ℕ) (th : Thread) (f : Frame) → in_slot g.world slot ≡ Live th → slice_get th.frames 0 ≡ Some f → f.version ≤ length g.versions
versions_there setup g r at through slot th f lives first =
    let start = split_start (texts_of setup) at.moves (start (texts_of setup) setup.limits) g.world at.world in
    subst (λ n. f.version ≤ n) (current_is setup g r at)
    (through (texts_of setup) setup.limits at.moves start.0 g.world slot th 0 f start.1 start.2 lives first).version

-- ---- one slot set

same_some : {A : Type 0} (x y : A) → Some x ≡ Some y → x ≡ y
same_some x y e = cc

set_here : {A : Type 0} (xs : List A) (k : ℕ) (y x : A) → slice_get (slice_set xs k y) k ≡ Some x → x ≡ y
set_here [] k y x at = cc
set_here (z ∷ xs) zero y x at = sym (same_some y x at)
set_here (z ∷ xs) (suc k) y x at = set_here xs k y x at

set_there : {A : Type 0} (xs : List A) (k j : ℕ) (y x : A) → (j ≡ k → ⊥) → slice_get (slice_set xs k y) j ≡ Some x → slice_get xs j ≡ Some x
set_there [] k j y x other at = at
set_there (z ∷ xs) zero zero y x other at = absurd (other refl)
set_there (z ∷ xs) zero (suc j) y x other at = at
set_there (z ∷ xs) (suc k) zero y x other at = at
set_there (z ∷ xs) (suc k) (suc j) y x other at = set_there xs k j y x (λ e. other (ap suc e)) at

module _ (setup : Setup) (g : Guard) (slot : ℕ) (s : ShownState) (at : IsStateAt setup g s) (going : has_ended g ≡ false)
    (at_one : (seat_of g slot).at_check_in ≡ true) (below : slot < 16) (old : Seat) (at_old : slice_get s.seats slot ≡ Some old)
    (frame : Option FrameAt)
    (framed : is_over g.world ≡ false → innermost_in (in_slot g.world slot) ≡ option_map (place_at s.run.words) frame)
    (are : MarksAreOfFrames) (through : FramesComeThrough) where
  abbrev new : Seat
  new = record old { kept = Passed frame; at_check_in = false }

  abbrev own_new : guard.Seat
  own_new = record (seat_of g slot) { mark = guard.mark_of (bodies_of g) (alive_in g.world slot); at_check_in = false }

  base : IsSeat s.run.words (bodies_of g) (length g.versions) (is_over g.world) (in_slot g.world slot) old (seat_of g slot)
  base = at.seats.each going slot old (seat_of g slot) at_old (seat_at g slot at.seats.many below)

  here : IsSeat s.run.words (bodies_of g) (length g.versions) (is_over g.world) (in_slot g.world slot) new own_new
  here = record {
    at_check_in = refl;
    pinned = base.pinned;
    there = sym (base.lives (sym base.at_check_in ∙ at_one));
    lives = λ e. absurd (false≢true e);
    idle = λ e. absurd (false≢true (sym e));
    mark = λ still.
        ap (guard.mark_of (bodies_of g)) (alive_is g.world slot going)
        ∙ slot_mark s.run.words (bodies_of g) are (in_slot g.world slot) frame (framed still);
    version = λ still.
        slot_version s.run.words (length g.versions) (in_slot g.world slot) frame (framed still)
        (λ th f lives first. versions_there setup g s.run at.run through slot th f lives first);
  }

  seats_are : AreSeats (checked_in (bodies_of g) g slot) s.run (slice_set s.seats slot new)
  seats_are = record {
    many = length-set g.seats slot own_new ∙ at.seats.many;
    each = λ still n kept own at_kept at_own. by n kept own at_kept at_own (cases_eq n slot);
  }
    where
      by : (n : ℕ) (kept : Seat) (own : guard.Seat) → slice_get (slice_set s.seats slot new) n ≡ Some kept
          → slice_get (slice_set g.seats slot own_new) n ≡ Some own → (n ≡ slot) ⊎ (n ≡ slot → ⊥)
          → IsSeat s.run.words (bodies_of g) (length g.versions) (is_over g.world) (in_slot g.world n) kept own
      by n kept own at_kept at_own (inl same) =
          let new_is : kept ≡ new = set_here s.seats slot new kept (ap (slice_get (slice_set s.seats slot new)) (sym same) ∙ at_kept) in
          let own_is : own ≡ own_new =
          set_here g.seats slot own_new own (ap (slice_get (slice_set g.seats slot own_new)) (sym same) ∙ at_own) in
          subst (λ m. IsSeat s.run.words (bodies_of g) (length g.versions) (is_over g.world) (in_slot g.world m) kept own) (sym same)
          (subst (IsSeat s.run.words (bodies_of g) (length g.versions) (is_over g.world) (in_slot g.world slot) kept) (sym own_is)
          (subst (λ k. IsSeat s.run.words (bodies_of g) (length g.versions) (is_over g.world) (in_slot g.world slot) k own_new)
          (sym new_is) here))
      by n kept own at_kept at_own (inr other) =
          at.seats.each going n kept own (set_there s.seats slot n new kept other at_kept)
          (set_there g.seats slot n own_new own other at_own)

  checks_in : is_none g.open_offer ≡ true → (rules : Rules) → AreRows rules.row
      → happens rules setup (CheckIn slot) g ≡ Some (checked_in (bodies_of g) g slot)
  checks_in none rules rows =
      a_check_in (has_ended g) (seat_of g slot).at_check_in (is_none g.open_offer) (checked_in (bodies_of g) g slot) going at_one none

  pub passes : is_none g.open_offer ≡ true → Happened setup (CheckIn slot) g (record s { seats = slice_set s.seats slot new }) []
  passes none = record {
    after = checked_in (bodies_of g) g slot;
    happens = checks_in none;
    there = record {
      run = record { moves = at.run.moves; run = at.run.run; world = at.run.world; trees = at.run.trees; versions = at.run.versions };
      seats = seats_are;
      versions = record {
        installed = at.versions.installed;
        before = at.versions.before;
        tree = at.versions.tree;
        numbered = at.versions.numbered;
        last_is = at.versions.last_is;
        rows = at.versions.rows;
      };
      book = same_offers setup g (checked_in (bodies_of g) g slot) s.installed.names s.book refl refl refl refl at.book;
      reached = then_reached setup (CheckIn slot) g (checked_in (bodies_of g) g slot) at.reached (checks_in none);
      meets = at.meets;
    };
    grew = sym (append-nil g.world.output);
  }
