-- Each seat fits its slot.
use Rattle.std.proofs.Common.{◌≡◌, ℕ, zero, suc, ◌+◌, ◌-◌, Bool, true, false, IsTrue, List, [], ◌∷◌, refl, sym, ◌∙◌, ap, subst, arith}
use Rattle.std.specs.Prelude.{◌≢◌, ◌==◌, ◌&&◌, ◌||◌, length, replicate, slice_index_or, slice_set, if◌then◌else◌}
use Rattle.std.proofs.lemmas.Bool.Decides.{nat_tests}
use Rattle.std.proofs.lemmas.List.{length-set}
use Rattle.run_types.specs.declared.run.Event.{Event}
use Rattle.c_semantics.specs.Threads.{Thread}
use Rattle.c_semantics.specs.Store.{Body}
use Rattle.con_freeness.specs.Rows.{Names}
use Rattle.source_model.specs.Worlds.{World, Slot, Free, Live, Over, in_slot, alive_in, is_finished}
use Rattle.source_model.specs.Moves.{move}
use Rattle.source_model.specs.Guards.{Guard, Seat, Setup, Rules, empty_seat, started_seat, first_guard, bodies_of, seat_of, in_transaction, move_leads, seat_after, seats_from, moved_seat, moved, mark_of, pinned_from, pinned_seat}
use Rattle.source_model.specs.JournalLaws.{Fits, SeatsFit, SeatsAlwaysFit}
use Rattle.source_model.proofs.Moved.{Keeps, move_keeps}
use Rattle.source_model.proofs.Moved as moved
use Rattle.source_model.proofs.Events.{Handles, in_each_guard, right_of}

not_so : false ≡ true → ⊥
not_so e = cc

-- an empty seat fits each slot, that of a start each live thread
empty_fits : (alive : Slot) → Fits alive empty_seat
empty_fits alive = record { at_check_in = λ h. absurd (not_so h); marked = λ h. absurd (not_so h); pinned = λ h. absurd (not_so h) }

started_fits : (name : List ℕ) (th : Thread) → Fits (Live th) (started_seat name)
started_fits name th = record { at_check_in = λ h. refl; marked = λ h. refl; pinned = λ h. absurd (not_so h) }

moved_fits : (leads : Bool) (th : Thread) (s : Seat) → Fits (Live th) (moved_seat leads (Live th) s)
moved_fits leads th s = record {
  at_check_in = λ h. refl;
  marked = λ h. refl;
  pinned = λ h. right_of s.pinned (in_transaction (Live th)) h;
}

-- the seat of the slot whose thread moved
own_fits : (leads : Bool) (before after : Slot) (s : Seat) → Fits after (seat_after true leads before after s)
own_fits leads (Live a) (Live b) s = moved_fits leads b s
own_fits leads Free (Live b) s = started_fits _ b
own_fits leads (Over n v) (Live b) s = started_fits _ b
own_fits leads before Free s = empty_fits Free
own_fits leads before (Over n v) s = empty_fits (Over n v)

-- that of another slot, whose thread stays or has ended with the run
still_fits : (leads finished : Bool) (th : Thread) (s : Seat) → Fits (Live th) s
    → Fits (if finished then Free else Live th) (seat_after false leads (Live th) (if finished then Free else Live th) s)
still_fits leads true th s h = empty_fits Free
still_fits leads false th s h = h

other_fits : (leads finished : Bool) (before after : Slot) (s : Seat) → Fits before s
    → ((th : Thread) → before ≡ Live th → after ≡ (if finished then Free else Live th))
    → Fits after (seat_after false leads before after s)
other_fits leads finished (Live th) after s h stays =
    subst (λ x. Fits x (seat_after false leads (Live th) x s)) (sym (stays th refl)) (still_fits leads finished th s h)
other_fits leads finished Free (Live b) s h stays = started_fits _ b
other_fits leads finished (Over n v) (Live b) s h stays = started_fits _ b
other_fits leads finished Free Free s h stays = empty_fits Free
other_fits leads finished (Over n v) Free s h stays = empty_fits Free
other_fits leads finished Free (Over m u) s h stays = empty_fits (Over m u)
other_fits leads finished (Over n v) (Over m u) s h stays = empty_fits (Over m u)

-- what lives in another slot after a move
unfinished_slot : (finished : Bool) (x : Slot) (th : Thread) → (if finished then Free else x) ≡ Live th → x ≡ Live th
unfinished_slot true x th e = absurd (no e)
  where
    no : Free ≡ Live th → ⊥
    no h = cc
unfinished_slot false x th e = e

stays_or_ends : (w after : World) (t k : ℕ) (th : Thread) → Keeps t w after → k ≢ t → alive_in w k ≡ Live th
    → alive_in after k ≡ (if is_finished after.finish then Free else Live th)
stays_or_ends w after t k th keeps other e =
    ap (λ x. if is_finished after.finish then Free else x) (keeps.others k th other (unfinished_slot (is_finished w.finish) (in_slot w k) th e))

other_number : (n t : ℕ) → (n == t) ≡ false → n ≢ t
other_number n t test same = absurd (not_so (sym test ∙ grind (arith, nat_tests, same)))

either_fits : (b : Bool) (w after : World) (t k : ℕ) (leads : Bool) (s : Seat) → Keeps t w after → (k == t) ≡ b
    → Fits (alive_in w k) s → Fits (alive_in after k) (seat_after b leads (alive_in w k) (alive_in after k) s)
either_fits true w after t k leads s keeps test h = own_fits leads (alive_in w k) (alive_in after k) s
either_fits false w after t k leads s keeps test h =
    other_fits leads (is_finished after.finish) (alive_in w k) (alive_in after k) s h
    (λ th e. stays_or_ends w after t k th keeps (other_number k t test) e)

from_zero : (n : ℕ) → n + 0 ≡ n
from_zero n = omega arith

one_further : (n i : ℕ) → n + suc i ≡ suc n + i
one_further n i = omega arith

-- the seats after a move, from slot n on
after_fit : (n t : ℕ) (leads : Bool) (w after : World) (ss : List Seat) → Keeps t w after
    → ((i : ℕ) → Fits (alive_in w (n + i)) (slice_index_or ss i empty_seat))
    → (i : ℕ) → Fits (alive_in after (n + i)) (slice_index_or (seats_from n t leads w after ss) i empty_seat)
after_fit n t leads w after [] keeps h i = empty_fits (alive_in after (n + i))
after_fit n t leads w after (s ∷ ss) keeps h zero =
    subst (λ k. Fits (alive_in after k) (seat_after (n == t) leads (alive_in w n) (alive_in after n) s)) (sym (from_zero n))
    (either_fits (n == t) w after t n leads s keeps refl (subst (λ k. Fits (alive_in w k) s) (from_zero n) (h 0)))
after_fit n t leads w after (s ∷ ss) keeps h (suc i) =
    subst (λ k. Fits (alive_in after k) (slice_index_or (seats_from (suc n) t leads w after ss) i empty_seat)) (sym (one_further n i))
    (after_fit (suc n) t leads w after ss keeps
    (λ j. subst (λ k. Fits (alive_in w k) (slice_index_or ss j empty_seat)) (one_further n j) (h (suc j))) i)

length_after : (n t : ℕ) (leads : Bool) (w after : World) (ss : List Seat) → length (seats_from n t leads w after ss) ≡ length ss
length_after n t leads w after [] = refl
length_after n t leads w after (s ∷ ss) = ap suc (length_after (suc n) t leads w after ss)

-- one seat set
set_fits : (alive : ℕ → Slot) (ss : List Seat) (t : ℕ) (new : Seat) → Fits (alive t) new
    → ((i : ℕ) → Fits (alive i) (slice_index_or ss i empty_seat))
    → (i : ℕ) → Fits (alive i) (slice_index_or (slice_set ss t new) i empty_seat)
set_fits alive [] t new own h i = empty_fits (alive i)
set_fits alive (s ∷ ss) zero new own h zero = own
set_fits alive (s ∷ ss) zero new own h (suc i) = h (suc i)
set_fits alive (s ∷ ss) (suc t) new own h zero = h 0
set_fits alive (s ∷ ss) (suc t) new own h (suc i) = set_fits (λ n. alive (suc n)) ss t new own (λ j. h (suc j)) i

-- the seats with the pins of an install
or_holds : (a b : Bool) (P : Type 0) → (a ≡ true → P) → (b ≡ true → P) → (a || b) ≡ true → P
or_holds true b P left right h = left refl
or_holds false b P left right h = right h

left_holds : (a b : Bool) → (a && b) ≡ true → a ≡ true
left_holds true b h = refl
left_holds false b h = h

pin_fits : (rules : Rules) (bodies : List Body) (names : Names) (alive : Slot) (s : Seat) → Fits alive s
    → Fits alive (pinned_seat rules bodies names alive s)
pin_fits rules bodies names alive s h = record {
  at_check_in = h.at_check_in;
  marked = h.marked;
  pinned = or_holds s.pinned _ (IsTrue (in_transaction alive)) h.pinned (λ both. left_holds (in_transaction alive) _ both);
}

pins_fit : (rules : Rules) (bodies : List Body) (names : Names) (w : World) (n : ℕ) (ss : List Seat)
    → ((i : ℕ) → Fits (alive_in w (n + i)) (slice_index_or ss i empty_seat))
    → (i : ℕ) → Fits (alive_in w (n + i)) (slice_index_or (pinned_from rules bodies names w n ss) i empty_seat)
pins_fit rules bodies names w n [] h i = empty_fits (alive_in w (n + i))
pins_fit rules bodies names w n (s ∷ ss) h zero =
    subst (λ k. Fits (alive_in w k) (pinned_seat rules bodies names (alive_in w n) s)) (sym (from_zero n))
    (pin_fits rules bodies names (alive_in w n) s (subst (λ k. Fits (alive_in w k) s) (from_zero n) (h 0)))
pins_fit rules bodies names w n (s ∷ ss) h (suc i) =
    subst (λ k. Fits (alive_in w k) (slice_index_or (pinned_from rules bodies names w (suc n) ss) i empty_seat)) (sym (one_further n i))
    (pins_fit rules bodies names w (suc n) ss
    (λ j. subst (λ k. Fits (alive_in w k) (slice_index_or ss j empty_seat)) (one_further n j) (h (suc j))) i)

length_pinned : (rules : Rules) (bodies : List Body) (names : Names) (w : World) (n : ℕ) (ss : List Seat)
    → length (pinned_from rules bodies names w n ss) ≡ length ss
length_pinned rules bodies names w n [] = refl
length_pinned rules bodies names w n (s ∷ ss) = ap suc (length_pinned rules bodies names w (suc n) ss)

-- the start of a run
all_empty : (n i : ℕ) (alive : Slot) → Fits alive (slice_index_or (replicate n empty_seat) i empty_seat)
all_empty zero i alive = empty_fits alive
all_empty (suc n) zero alive = empty_fits alive
all_empty (suc n) (suc i) alive = all_empty n i alive

first_fits : (setup : Setup) (t : ℕ) → Fits (alive_in (first_guard setup).world t) (seat_of (first_guard setup) t)
first_fits setup zero = started_fits _ _
first_fits setup (suc t) = all_empty (setup.limits.slots - 1) t (alive_in (first_guard setup).world (suc t))

same_length : (n : ℕ) → length (replicate n empty_seat) ≡ length (replicate n Free)
same_length zero = refl
same_length (suc n) = ap suc (same_length n)

with_zero : (i : ℕ) → i ≡ 0 + i
with_zero i = omega arith

moves_fit : (g : Guard) (t : ℕ) (w : World) → SeatsFit g → Keeps t g.world w → SeatsFit (moved g t w)
moves_fit g t w h keeps = record {
  count = length_after 0 t (move_leads (in_slot g.world t)) g.world w g.seats ∙ h.count ∙ sym keeps.count;
  fits = λ i.
      subst (λ k. Fits (alive_in w k) (slice_index_or (seats_from 0 t (move_leads (in_slot g.world t)) g.world w g.seats) i empty_seat)) (sym (with_zero i))
      (after_fit 0 t (move_leads (in_slot g.world t)) g.world w g.seats keeps
      (λ j. subst (λ k. Fits (alive_in g.world k) (slice_index_or g.seats j empty_seat)) (with_zero j) (h.fits j)) i);
}

checks_fit : (g : Guard) (t : ℕ) (bodies : List Body) → SeatsFit g → (seat_of g t).at_check_in ≡ true
    → (i : ℕ) → Fits (alive_in g.world i)
    (slice_index_or (slice_set g.seats t (record (seat_of g t) { mark = mark_of bodies (alive_in g.world t); at_check_in = false })) i empty_seat)
checks_fit g t bodies h test =
    set_fits (alive_in g.world) g.seats t _ (record {
      at_check_in = λ no. absurd (not_so no);
      marked = λ yes. (h.fits t).at_check_in test;
      pinned = (h.fits t).pinned;
    }) h.fits

handles : (rules : Rules) (setup : Setup) (e : Event) (g : Guard) → SeatsFit g → Handles rules setup e g SeatsFit
handles rules setup e g h = record {
  moves = λ none t w made. moves_fit g t w h (moved.of_outcome (Keeps t g.world) (move g.world t) w made (move_keeps g.world t));
  checks = λ none t test. record {
    count = length-set g.seats t _ ∙ h.count;
    fits = checks_fit g t (bodies_of g) h test;
  };
  opens = λ none k more reached. record { count = h.count; fits = h.fits };
  ends = λ k closes a is. record { count = h.count; fits = h.fits };
  installs = λ k closes o names is at. record {
    count = length_pinned rules (bodies_of g) names g.world 0 g.seats ∙ h.count;
    fits = λ i.
        subst (λ n. Fits (alive_in g.world n) (slice_index_or (pinned_from rules (bodies_of g) names g.world 0 g.seats) i empty_seat)) (sym (with_zero i))
        (pins_fit rules (bodies_of g) names g.world 0 g.seats
        (λ j. subst (λ n. Fits (alive_in g.world n) (slice_index_or g.seats j empty_seat)) (with_zero j) (h.fits j)) i);
  };
}

pub seats_always_fit : SeatsAlwaysFit
seats_always_fit rules setup events g legal =
    in_each_guard rules setup SeatsFit
    (record { count = ap suc (same_length (setup.limits.slots - 1)); fits = first_fits setup })
    (handles rules setup) events g legal
