-- The slots after a move are what the definitions make of them.
use Rattle.std.proofs.Common.{◌≡◌, ℕ, zero, suc, ◌+◌, ◌<◌, ◌≤◌, Bool, true, false, List, [], ◌∷◌, length, slice_get, Option, Some, None, refl, sym, ◌∙◌, ap, subst, arith}
use Rattle.std.specs.Prelude.{◌≢◌, ◌==◌, ◌&&◌, ◌||◌, option_map, slice_set, if◌then◌else◌}
use Rattle.std.specs.Option.{is_some}
use Rattle.std.proofs.lemmas.Bool.{true≢false, false≢true}
use Rattle.std.proofs.lemmas.Bool.Decides.{nat_tests}
use Rattle.std.proofs.lemmas.Option.{none-some, same_Some, slice_get_within}
use Rattle.offer_decision.proofs.Filled.{set_here, set_there}
use Rattle.c_semantics.specs.Store.{Body, Start}
use Rattle.c_semantics.specs.Threads.{Enter, Thread}
use Rattle.source_model.specs.Worlds.{World, Finish, Slot, Free, Live, Over, alive_in, in_slot, is_finished, is_over}
use Rattle.source_model.specs.Moves.{move, move_of}
use Rattle.source_model.specs.Waits.{must_wait}
use Rattle.source_model.specs.Runs.{is_live}
use Rattle.source_model.specs.Guards.{Guard, bodies_of, empty_seat, entering_function, has_ended, in_transaction, move_leads, moved, seat_after, seats_from}
use Rattle.source_model.specs.Guards as guard
use Rattle.source_model.proofs.Moved.{Keeps, move_keeps, of_outcome}
use Rattle.resolved_tree.specs.Nodes.{Table, word}
use Rattle.resolved_tree.specs.declared.words.Word.{Word}
use Rattle.run_machine.specs.Machines.{Shown}
use Rattle.plain_engine.specs.declared.seat.Kept.{Kept}
use Rattle.plain_engine.specs.declared.seat.Kept.TheVariants.{Empty, Started, Passed}
use Rattle.plain_engine.specs.declared.seat.Seat.{Seat}
use Rattle.plain_engine.specs.Kept.{AreAfter, IsAfter, IsMoved, IsNew, IsOfVersion, IsOther, IsSeat, NoneNew, empty, is_there, mark_of, name_of}
use Rattle.plain_engine.specs.Plain.{AreSeats}

-- ---- one slot

-- the function with which a thread starts
pub entered : (t : Table) (function : Option Word) (e : Option Enter)
    → option_map (word t) function ≡ option_map (λ (x : Enter). x.function) e → entering_function e ≡ name_of t function
entered t None None is = refl
entered t (Some f) (Some e) is = sym (same_Some (word t f) e.function is)
entered t None (Some e) is = absurd (none-some e.function is)
entered t (Some f) None is = absurd (none-some (word t f) (sym is))

module _ (t : Table) (bodies : List Body) (count : ℕ) (over leads : Bool) where
  -- a slot without a live thread
  empty_is : (alive : Slot) (new : Seat) → is_live alive ≡ false → new.kept ≡ Empty → new.at_check_in ≡ false
      → new.pinned ≡ false → IsSeat t bodies count over alive new empty_seat
  empty_is alive new none kept at pinned = record {
    at_check_in = sym at;
    pinned = sym pinned;
    there = ap is_there kept ∙ sym none;
    lives = λ e. absurd (true≢false (sym e ∙ at));
    idle = λ there_not. pinned;
    mark = λ going. sym (ap (mark_of t bodies) kept);
    version = λ going. subst (IsOfVersion count) (sym kept) tt;
  }

  -- that of the thread that moved
  mine : (before after : Slot) (old new : Seat) (own : guard.Seat) → is_live before ≡ true
      → IsSeat t bodies count false before old own → IsMoved after leads old new
      → IsSeat t bodies count over after new (seat_after true leads before after own)
  mine (Live a) (Live b) old new own lives h m = record {
    at_check_in = sym m.at_check_in;
    pinned = ap (λ p. p && in_transaction (Live b)) h.pinned ∙ sym m.pinned;
    there = ap is_there m.kept ∙ h.there;
    lives = λ e. refl;
    idle = λ there_not. absurd (true≢false (sym (ap is_there m.kept ∙ h.there) ∙ there_not));
    mark = λ going. h.mark refl ∙ ap (mark_of t bodies) (sym m.kept);
    version = λ going. subst (IsOfVersion count) (sym m.kept) (h.version refl);
  }
  mine (Live a) Free old new own lives h m = empty_is Free new refl m.kept m.at_check_in m.pinned
  mine (Live a) (Over n v) old new own lives h m = empty_is (Over n v) new refl m.kept m.at_check_in m.pinned
  mine Free after old new own lives h m = absurd (false≢true lives)
  mine (Over n v) after old new own lives h m = absurd (false≢true lives)

  -- another slot whose thread stays
  still : (a : Thread) (old new : Seat) (own : guard.Seat) → IsSeat t bodies count false (Live a) old own → new ≡ old
      → IsSeat t bodies count over (Live a) new own
  still a old new own h same = subst (λ s. IsSeat t bodies count over (Live a) s own) (sym same) (record {
    at_check_in = h.at_check_in;
    pinned = h.pinned;
    there = h.there;
    lives = h.lives;
    idle = h.idle;
    mark = λ going. h.mark refl;
    version = λ going. h.version refl;
  })

  -- an empty one
  nothing : (alive : Slot) (new : Seat) → is_live alive ≡ false → new ≡ empty → IsSeat t bodies count over alive new empty_seat
  nothing alive new none is =
      empty_is alive new none (ap (λ s. s.kept) is) (ap (λ s. s.at_check_in) is) (ap (λ s. s.pinned) is)

  -- one in which a thread was started
  new_is : (b : Thread) (new : Seat) → IsNew t over (Live b) new
      → IsSeat t bodies count over (Live b) new (guard.started_seat (entering_function b.entering))
  new_is b new is =
      subst (λ s. IsSeat t bodies count over (Live b) s (guard.started_seat (entering_function b.entering))) (sym is.1) (record {
        at_check_in = refl;
        pinned = refl;
        there = refl;
        lives = λ e. refl;
        idle = λ e. absurd (true≢false e);
        mark = λ going. ap (λ f. Some (Start f)) (entered t is.0 b.entering (is.2 going));
        version = λ going. tt;
      })

  -- another slot
  other_by : (before after : Slot) (old new : Seat) (own : guard.Seat)
      → ((th : Thread) → before ≡ Live th → after ≡ Live th) → IsSeat t bodies count false before old own
      → IsOther (is_live before) (is_live after) t over after old new
      → IsSeat t bodies count over after new (seat_after false leads before after own)
  other_by (Live a) after old new own stays h is =
      subst (λ x. IsSeat t bodies count over x new (seat_after false leads (Live a) x own)) (sym (stays a refl)) (still a old new own h is)
  other_by Free (Live b) old new own stays h is = new_is b new is
  other_by (Over n v) (Live b) old new own stays h is = new_is b new is
  other_by Free Free old new own stays h is = nothing Free new refl is
  other_by Free (Over m u) old new own stays h is = nothing (Over m u) new refl is
  other_by (Over n v) Free old new own stays h is = nothing Free new refl is
  other_by (Over n v) (Over m u) old new own stays h is = nothing (Over m u) new refl is

  -- a slot, by whether its thread moved
  pub after_is : (mover : Bool) (before after : Slot) (old new : Seat) (own : guard.Seat) → (mover ≡ true → is_live before ≡ true)
      → (mover ≡ false → (th : Thread) → before ≡ Live th → after ≡ Live th) → IsSeat t bodies count false before old own
      → IsAfter t over after mover leads old new → IsSeat t bodies count over after new (seat_after mover leads before after own)
  after_is true before after old new own lives stays h is = mine before after old new own (lives refl) h is
  after_is false before after old new own lives stays h is =
      other_by before after old new own (stays refl) h
      (subst (λ b. IsOther b (is_live after) t over after old new) h.there is)

-- ---- what is kept of a slot, as a move changes it

pub moved_dead : (alive : Slot) (leads : Bool) (old new : Seat) → is_live alive ≡ false → new ≡ empty → IsMoved alive leads old new
moved_dead alive leads old new dead is = record {
  kept = ap (λ (s : Seat). s.kept) is ∙ ap (λ b. if b then old.kept else Empty) (sym dead);
  at_check_in = ap (λ (s : Seat). s.at_check_in) is ∙ ap (λ b. b && leads) (sym dead);
  pinned = ap (λ (s : Seat). s.pinned) is ∙ ap (λ b. b && (old.pinned && in_transaction alive)) (sym dead);
}

pub moved_on : (alive : Slot) (leads pinned : Bool) (old : Seat) → is_live alive ≡ true → pinned ≡ (old.pinned && in_transaction alive)
    → IsMoved alive leads old (record { kept = old.kept; at_check_in = leads; pinned = pinned })
moved_on alive leads pinned old lives is = record {
  kept = ap (λ b. if b then old.kept else Empty) (sym lives);
  at_check_in = ap (λ b. b && leads) (sym lives);
  pinned = is ∙ ap (λ b. b && (old.pinned && in_transaction alive)) (sym lives);
}

pub other_as : (there lives a b : Bool) (t : Table) (over : Bool) (slot : Slot) (old new : Seat) → there ≡ a → lives ≡ b
    → IsOther a b t over slot old new → IsOther there lives t over slot old new
other_as there lives a b t over slot old new e f is =
    subst (λ x. IsOther x lives t over slot old new) (sym e) (subst (λ y. IsOther a y t over slot old new) (sym f) is)

pub after_as : (mover a : Bool) (t : Table) (over : Bool) (slot : Slot) (leads : Bool) (old new : Seat) → mover ≡ a
    → IsAfter t over slot a leads old new → IsAfter t over slot mover leads old new
after_as mover a t over slot leads old new e is = subst (λ x. IsAfter t over slot x leads old new) (sym e) is

pub differs : (n m : ℕ) → n ≢ m → (n == m) ≡ false
differs n m apart = grind (arith, nat_tests, apart)

-- ---- all slots

-- no thread is kept
unkept : (k : Kept) → is_there k ≡ false → k ≡ Empty
unkept Empty e = refl
unkept (Started function) e = absurd (true≢false e)
unkept (Passed frame) e = absurd (true≢false e)

off : (b : Bool) → (b ≡ true → ⊥) → b ≡ false
off true never = absurd (never refl)
off false never = refl

seat_is : (s : Seat) → s.kept ≡ Empty → s.at_check_in ≡ false → s.pinned ≡ false → s ≡ empty
seat_is s kept at pinned =
    ap (λ k. record s { kept = k }) kept
    ∙ ap (λ b. record empty { at_check_in = b; pinned = s.pinned }) at
    ∙ ap (λ b. record empty { pinned = b }) pinned

-- a slot where no thread is kept is an empty one
pub unkept_is : (t : Table) (bodies : List Body) (count : ℕ) (over : Bool) (alive : Slot) (kept : Seat) (own : guard.Seat)
    → IsSeat t bodies count over alive kept own → is_there kept.kept ≡ false → kept ≡ empty
unkept_is t bodies count over alive kept own h none =
    seat_is kept (unkept kept.kept none)
    (off kept.at_check_in (λ at. true≢false (sym (h.lives at) ∙ sym h.there ∙ none)))
    (h.idle none)

-- another slot that stays as it is
other_as_is : (t : Table) (w : World) (n : ℕ) (there lives : Bool) (s : Seat) → (there ≡ false → (lives ≡ false) × (s ≡ empty))
    → IsOther there lives t (is_over w) (in_slot w n) s s
other_as_is t w n true lives s e = refl
other_as_is t w n false true s e = absurd (true≢false (e refl).0)
other_as_is t w n false false s e = (e refl).1

-- what a list of them has after a move
after_at : (k mover : ℕ) (leads : Bool) (before after : World) (ss : List guard.Seat) (i n : ℕ) (now : guard.Seat) → k + i ≡ n
    → slice_get (seats_from k mover leads before after ss) i ≡ Some now
    → (own : guard.Seat) × (slice_get ss i ≡ Some own)
    × (now ≡ seat_after (n == mover) leads (alive_in before n) (alive_in after n) own)
after_at k mover leads before after [] i n now e at = absurd (none-some now at)
after_at k mover leads before after (s ∷ ss) zero n now e at =
    (s, refl, sym (same_Some _ now at) ∙ ap (λ m. seat_after (m == mover) leads (alive_in before m) (alive_in after m) s) same)
  where
    same : k ≡ n
    same = omega (arith, e)
after_at k mover leads before after (s ∷ ss) (suc i) n now e at =
    after_at (suc k) mover leads before after ss i n now (omega (arith, e)) at

pub length_after : (k mover : ℕ) (leads : Bool) (before after : World) (ss : List guard.Seat)
    → length (seats_from k mover leads before after ss) ≡ length ss
length_after k mover leads before after [] = refl
length_after k mover leads before after (s ∷ ss) = ap suc (length_after (suc k) mover leads before after ss)

-- a move is made in a run that isn't over, and a thread lives that makes it
pub mover : (w after : World) (t : ℕ) → move w t ≡ Some after → (is_over w ≡ false) × (is_live (in_slot w t) ≡ true)
mover w after t made = by (is_over w) (must_wait w t) (in_slot w t) made
  where
    by : (over waits : Bool) (s : Slot) → (if over || waits then None else move_of w t s) ≡ Some after
        → (over ≡ false) × (is_live s ≡ true)
    by true waits s e = absurd (none-some after e)
    by false true s e = absurd (none-some after e)
    by false false Free e = absurd (none-some after e)
    by false false (Over serial result) e = absurd (none-some after e)
    by false false (Live th) e = (refl, refl)

unfinished : (o : Option Finish) → is_some o ≡ false → is_finished o ≡ false
unfinished None e = refl
unfinished (Some f) e = absurd (true≢false e)

-- what is alive in a slot is all that is there, where the run goes on
pub alive_is : (w : World) (n : ℕ) → is_some w.finish ≡ false → alive_in w n ≡ in_slot w n
alive_is w n going = ap (λ b. if b then Free else in_slot w n) (unfinished w.finish going)

-- a run that goes on is one that isn't over, unless a definition was misused
pub goes_on : (w : World) → is_over w ≡ false → is_some w.finish ≡ false
goes_on w e = by w.misused (is_some w.finish) e
  where
    by : (a b : Bool) → (a || b) ≡ false → b ≡ false
    by false b e = e
    by true b e = absurd (true≢false e)

same_number : (i t : ℕ) → (i == t) ≡ true → i ≡ t
same_number i t e = grind (arith, nat_tests, e)

other_number : (n t : ℕ) → (n == t) ≡ false → n ≢ t
other_number n t test same = absurd (true≢false (sym (grind (arith, nat_tests, same)) ∙ test))

-- where the mover's seat alone is another, the slots are those after a move that started no thread
pub one_moved : (t : Table) (w : World) (mover : ℕ) (leads : Bool) (seats : List Seat) (old new : Seat) → slice_get seats mover ≡ Some old
    → IsMoved (in_slot w mover) leads old new → NoneNew w mover seats → AreAfter t w mover leads seats (slice_set seats mover new)
one_moved t w mover leads seats old new at_old is none n later at = by (n == mover) refl
  where
    by : (b : Bool) → (n == mover) ≡ b
        → (old : Seat) × (slice_get seats n ≡ Some old) × IsAfter t (is_over w) (in_slot w n) (n == mover) leads old later
    by true test =
        let same : n ≡ mover = same_number n mover test in (
          old,
          ap (slice_get seats) same ∙ at_old,
          after_as (n == mover) true t (is_over w) (in_slot w n) leads old later test
              (subst (λ m. IsMoved (in_slot w m) leads old later) (sym same)
              (subst (IsMoved (in_slot w mover) leads old)
              (set_here seats mover new later (ap (slice_get (slice_set seats mover new)) (sym same) ∙ at)) is)),
        )
    by false test =
        let was : slice_get seats n ≡ Some later = set_there seats mover n new later (other_number n mover test) at in (
          later,
          was,
          after_as (n == mover) false t (is_over w) (in_slot w n) leads later later test
              (other_as_is t w n (is_there later.kept) (is_live (in_slot w n)) later (none n later was test)),
        )

-- no slot has the mover's number
pub none_moved : (t : Table) (w : World) (mover : ℕ) (leads : Bool) (seats : List Seat) → length seats ≡ 16 → 16 ≤ mover
    → NoneNew w mover seats → AreAfter t w mover leads seats seats
none_moved t w mover leads seats many past none n later at =
    let within = slice_get_within seats n later at in
    let test = differs n mover (λ same. omega (arith, same, within, many, past)) in (
      later,
      at,
      after_as (n == mover) false t (is_over w) (in_slot w n) leads later later test
          (other_as_is t w n (is_there later.kept) (is_live (in_slot w n)) later (none n later at test)),
    )

pub from_zero : (n : ℕ) → 0 + n ≡ n
from_zero n = omega arith

-- a move that starts no thread makes none live where none is kept
pub none_new : (g : Guard) (slot : ℕ) (w : World) (old : Shown) (seats : List Seat) → AreSeats g old seats
    → length seats ≡ 16 → move g.world slot ≡ Some w → w.threads ≡ g.world.threads → NoneNew w slot seats
none_new g slot w old seats are many to same n kept at_kept test none =
    let going = goes_on g.world (mover g.world w slot to).0 in
    let own = seat_there g.seats n (let within = slice_get_within seats n kept at_kept in let long = are.many in omega (arith, within, long, many)) in
    let seat = are.each going n kept own.0 at_kept own.1 in (
      off (is_live (in_slot w n))
          (λ lives. true≢false
          (sym ((of_outcome (Keeps slot g.world) (move g.world slot) w to (move_keeps g.world slot)).settled same n (other_number n slot test) lives)
          ∙ sym seat.there
          ∙ none)),
      unkept_is old.words (bodies_of g) (length g.versions) (is_over g.world) (in_slot g.world n) kept own.0 seat none,
    )
  where
    seat_there : (ss : List guard.Seat) (n : ℕ) → n < length ss → (own : guard.Seat) × (slice_get ss n ≡ Some own)
    seat_there [] n below = absurd (omega (arith, below))
    seat_there (s ∷ ss) zero below = (s, refl)
    seat_there (s ∷ ss) (suc n) below = seat_there ss n (omega (arith, below))

pub slots_after : (g : Guard) (slot : ℕ) (w : World) (old new : Shown) (seats later : List Seat) (leads : Bool)
    → AreSeats g old seats → move g.world slot ≡ Some w → move_leads (in_slot g.world slot) ≡ leads → new.words ≡ old.words
    → AreAfter new.words w slot leads seats later → AreSeats (moved g slot w) new later
slots_after g slot w old new seats later leads are to leads_is words after = record {
  many = length_after 0 slot (move_leads (in_slot g.world slot)) g.world w g.seats ∙ are.many;
  each = λ going n kept own at_kept at_own.
      let was = after n kept at_kept in
      let from = after_at 0 slot (move_leads (in_slot g.world slot)) g.world w g.seats n n own (from_zero n) at_own in
      subst (IsSeat new.words (bodies_of g) (length g.versions) (is_over w) (in_slot w n) kept)
      (sym (from.2 ∙ here n from.0 going))
      (after_is new.words (bodies_of g) (length g.versions) (is_over w) leads (n == slot) (in_slot g.world n) (in_slot w n)
      was.0 kept from.0
      (λ test. ap (λ m. is_live (in_slot g.world m)) (same_number n slot test) ∙ mine.1)
      (λ test th lives. keeps.others n th (other_number n slot test) lives)
      (before n was.0 from.0 was.1 from.1) was.2);
}
  where
    mine : (is_over g.world ≡ false) × (is_live (in_slot g.world slot) ≡ true)
    mine = mover g.world w slot to

    keeps : Keeps slot g.world w
    keeps = of_outcome (Keeps slot g.world) (move g.world slot) w to (move_keeps g.world slot)

    before : (n : ℕ) (kept : Seat) (own : guard.Seat) → slice_get seats n ≡ Some kept → slice_get g.seats n ≡ Some own
        → IsSeat new.words (bodies_of g) (length g.versions) false (in_slot g.world n) kept own
    before n kept own at_kept at_own =
        subst (λ t. IsSeat t (bodies_of g) (length g.versions) false (in_slot g.world n) kept own) (sym words)
        (subst (λ b. IsSeat old.words (bodies_of g) (length g.versions) b (in_slot g.world n) kept own) mine.0
        (are.each (goes_on g.world mine.0) n kept own at_kept at_own))

    here : (n : ℕ) (own : guard.Seat) → is_some w.finish ≡ false
        → seat_after (n == slot) (move_leads (in_slot g.world slot)) (alive_in g.world n) (alive_in w n) own
        ≡ seat_after (n == slot) leads (in_slot g.world n) (in_slot w n) own
    here n own going =
        ap (λ b. seat_after (n == slot) b (alive_in g.world n) (alive_in w n) own) leads_is
        ∙ ap (λ s. seat_after (n == slot) leads s (alive_in w n) own) (alive_is g.world n (goes_on g.world mine.0))
        ∙ ap (λ s. seat_after (n == slot) leads (in_slot g.world n) s own) (alive_is w n going)
