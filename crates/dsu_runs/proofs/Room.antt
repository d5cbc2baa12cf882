-- How many events a run has room for: each check-in that stands is paid for by a move, and each offer is opened and closed once.
use Rattle.std.proofs.Common.{◌≡◌, ℕ, zero, suc, ◌+◌, ◌*◌, ◌<◌, ◌≤◌, Bool, true, false, List, [], ◌∷◌, Option, Some, None, refl, sym, ◌∙◌, ap, subst, arith}
use Rattle.std.specs.Prelude.{◌-◌, ◌&&◌, ◌==◌, not, cond, length, nat_lt, slice_get, if◌then◌else◌}
use Rattle.std.specs.Option.{is_none}
use Rattle.std.proofs.lemmas.Bool.{false≢true}
use Rattle.std.proofs.lemmas.Bool.Decides.{nat_tests}
use Rattle.std.proofs.lemmas.Option.{slice_get_within}
use Rattle.run_types.specs.declared.run.Event.{Event}
use Rattle.run_types.specs.declared.run.Event.TheVariants.{Move, CheckIn, Offer, Decide, Withdraw}
use Rattle.c_semantics.specs.Store.{Body}
use Rattle.con_freeness.specs.Rows.{Names}
use Rattle.source_model.specs.Worlds.{World, alive_in, in_slot}
use Rattle.source_model.specs.Guards.{Guard, Offer as Offered, Rules, Seat, Setup, bodies_of, can_open, first_guard, has_ended, is_reached, mark_of, move_leads, offer_at, pinned_from, pinned_seat, seat_of}
use Rattle.source_model.specs.Journals.{happens}
use Rattle.source_model.specs.Schedules.{due, move_count}
use Rattle.source_model.specs.Endings.{no_offer_waits}
use Rattle.source_model.proofs.Events.{Closes, ClosesNone, Handles, each_event, left_of, of_outcome, right_of}
use Rattle.dsu_runs.proofs.Happening.{check_in_made, move_made, passed}
use Rattle.dsu_runs.proofs.Seats.{after_check_in, after_move, check_ins, more}

-- how often an offer may still be opened or closed
abbrev pub to_close : Option ℕ → ℕ
to_close None = 0
to_close (Some k) = 1

abbrev pub offers_left : Setup → Guard → ℕ
offers_left setup g = 2 * (length setup.offers - g.greatest) + to_close g.open_offer

-- an event pays for what it leaves
pub record Paid (setup : Setup) (e : Event) (g after : Guard) : Type 0 where
  pub paid : check_ins after.seats + offers_left setup after + 1 ≤ check_ins g.seats + offers_left setup g + 2 * move_count (e ∷ [])

-- an offer that is reached is one of them
pub reached_within : (setup : Setup) (g : Guard) (k : ℕ) → is_reached g (offer_at setup k) ≡ true → (0 < k) × (k ≤ length setup.offers)
reached_within setup g zero h = absurd (false≢true h)
reached_within setup g (suc k) h = by (slice_get setup.offers k) refl h
  where
    by : (o : Option Offered) → slice_get setup.offers k ≡ o → is_reached g o ≡ true → (0 < suc k) × (suc k ≤ length setup.offers)
    by None is e = absurd (false≢true e)
    by (Some offer) is e = let below = slice_get_within setup.offers k offer is in (omega arith, omega (arith, below))

-- pins lead no thread to a check-in
after_pins : (rules : Rules) (bodies : List Body) (changed : Names) (w : World) (n : ℕ) (ss : List Seat)
    → check_ins (pinned_from rules bodies changed w n ss) ≡ check_ins ss
after_pins rules bodies changed w n [] = refl
after_pins rules bodies changed w n (s ∷ ss) =
    more (pinned_seat rules bodies changed (alive_in w n) s) (pinned_from rules bodies changed w (suc n) ss)
    ∙ ap (λ k. cond s.at_check_in 1 0 + k) (after_pins rules bodies changed w (suc n) ss)
    ∙ sym (more s ss)

-- the open offer was closed
record Closed (g after : Guard) : Type 0 where
  was_open : to_close g.open_offer ≡ 1
  none_open : after.open_offer ≡ None
  greatest : after.greatest ≡ g.greatest
  seats : check_ins after.seats ≡ check_ins g.seats

closing : (rules : Rules) (setup : Setup) (e : Event) (k : ℕ) (g : Guard) → Closes k e → Handles rules setup e g (Closed g)
closing rules setup e k g is = record {
  moves = λ none t w made. absurd (not_both none);
  checks = λ none t test. absurd (not_both none);
  opens = λ none n more_than reached. absurd (not_both none);
  ends = λ n closing_n a opened. record { was_open = ap to_close opened; none_open = refl; greatest = refl; seats = refl };
  installs = λ n closing_n o names opened at. record {
    was_open = ap to_close opened;
    none_open = refl;
    greatest = refl;
    seats = after_pins rules (bodies_of g) names g.world 0 g.seats;
  };
}
  where
    same : (n : ℕ) → (n == n) ≡ true
    same n = grind (arith, nat_tests)

    not_both : ClosesNone e → ⊥
    not_both none = false≢true (sym (none k) ∙ is k ∙ same k)

pays_closing : (setup : Setup) (e : Event) (g after : Guard) → Closed g after → Paid setup e g after
pays_closing setup e g after c = record {
  paid =
      let is = ap to_close c.none_open in
      let left = ap (λ n. 2 * (length setup.offers - n)) c.greatest in
      omega (arith, c.was_open, is, left, c.seats);
}

pays_opening : (setup : Setup) (g : Guard) (k : ℕ) → can_open setup g k ≡ true
    → Paid setup (Offer k) g (record g { open_offer = Some k; greatest = k })
pays_opening setup g k can = record {
  paid =
      let first = left_of (is_none g.open_offer && nat_lt g.greatest k) (is_reached g (offer_at setup k)) can in
      let none = left_of (is_none g.open_offer) (nat_lt g.greatest k) first in
      let later = right_of (is_none g.open_offer) (nat_lt g.greatest k) first in
      let within =
      reached_within setup g k (right_of (is_none g.open_offer && nat_lt g.greatest k) (is_reached g (offer_at setup k)) can) in
      omega (arith, was g.open_offer none, less g.greatest k later, within.1);
}
  where
    was : (o : Option ℕ) → is_none o ≡ true → to_close o ≡ 0
    was None e = refl
    was (Some n) e = absurd (false≢true e)

    less : (a b : ℕ) → nat_lt a b ≡ true → a < b
    less a b h = grind (arith, nat_tests, h)

pub pays : (rules : Rules) (setup : Setup) (e : Event) (g after : Guard) → happens rules setup e g ≡ Some after → Paid setup e g after
pays rules setup (Move t) g after made =
    let m = move_made rules setup t g after made in
    subst (Paid setup (Move t) g) m.is (record {
      paid = let count = after_move 0 t (move_leads (in_slot g.world t)) g.world m.world g.seats in omega (arith, count);
    })
pays rules setup (CheckIn t) g after made =
    let m = check_in_made rules setup t g after made in
    subst (Paid setup (CheckIn t) g) m.1 (record {
      paid =
          let count = after_check_in g.seats t (record (seat_of g t) { mark = mark_of (bodies_of g) (alive_in g.world t); at_check_in = false }) m.0 refl in
          omega (arith, count);
    })
pays rules setup (Offer k) g after made =
    let m = passed (not (has_ended g) && can_open setup g k) (record g { open_offer = Some k; greatest = k }) after made in
    subst (Paid setup (Offer k) g) m.1 (pays_opening setup g k (right_of (not (has_ended g)) (can_open setup g k) m.0))
pays rules setup (Decide k) g after made =
    pays_closing setup (Decide k) g after
    (of_outcome (Closed g) (happens rules setup (Decide k) g) after made
    (each_event rules setup (Decide k) g (Closed g) (closing rules setup (Decide k) k g (λ n. refl))))
pays rules setup (Withdraw k) g after made =
    pays_closing setup (Withdraw k) g after
    (of_outcome (Closed g) (happens rules setup (Withdraw k) g) after made
    (each_event rules setup (Withdraw k) g (Closed g) (closing rules setup (Withdraw k) k g (λ n. refl))))

-- so often at most
pub few_left : (setup : Setup) (g : Guard) → offers_left setup g ≤ 2 * length setup.offers + 1
few_left setup g = let one = at_most_one g.open_offer in omega (arith, one)
  where
    at_most_one : (o : Option ℕ) → to_close o ≤ 1
    at_most_one None = omega arith
    at_most_one (Some k) = omega arith

-- where none of it is left, no offer is open or due
pub none_wait : (setup : Setup) (g : Guard) → offers_left setup g ≤ 0 → no_offer_waits setup g ≡ true
none_wait setup g used =
    ap (λ b. b && is_none (due setup g)) (no_open g.open_offer (omega (arith, used)))
    ∙ no_due (g.closed == g.greatest) (is_reached g (offer_at setup (suc g.greatest))) refl
  where
    no_open : (o : Option ℕ) → to_close o ≤ 0 → is_none o ≡ true
    no_open None h = refl
    no_open (Some k) h = absurd (one_more h)
      where
        one_more : 1 ≤ 0 → ⊥
        one_more le = omega (arith, le)

    no_due : (a b : Bool) → is_reached g (offer_at setup (suc g.greatest)) ≡ b
        → is_none (if a && b then Some (suc g.greatest) else None) ≡ true
    no_due false b is = refl
    no_due true false is = refl
    no_due true true is = let within = reached_within setup g (suc g.greatest) is in absurd (omega (arith, within.1, used))
