-- A turn of the threads.
use Rattle.std.proofs.Common.{◌≡◌, ◌⊎◌, inl, inr, ℕ, ◌+◌, ◌-◌, ◌<◌, ◌≤◌, ◌==◌, Bool, true, false, List, [], ◌∷◌, ◌++◌, length, Option, Some, None, refl, sym, ◌∙◌, ap, subst, arith, length-append}
use Rattle.std.specs.Prelude.{IfOk, OnErr, Ok, Err, MatchOption, Result as Outcome, nat_lt, if◌then◌else◌}
use Rattle.std.specs.declared.alloc.AllocError.{AllocError}
use Rattle.std.specs.Option.{is_some, option_or}
use Rattle.std.specs.List.{range_with_len}
use Rattle.std.proofs.lemmas.Bool.{true≢false}
use Rattle.std.proofs.lemmas.Bool.Decides.{nat_tests}
use Rattle.std.proofs.lemmas.List.{append-nil}
use Rattle.std.proofs.lemmas.Option.{none-some, same_Some}
use Rattle.run_types.specs.declared.run.Event.{Event}
use Rattle.run_types.specs.declared.run.Event.TheVariants.{Move, CheckIn, Offer, Decide, Withdraw}
use Rattle.source_model.specs.Worlds.{World, in_slot}
use Rattle.source_model.specs.Moves.{move}
use Rattle.source_model.specs.Runs.{can_move}
use Rattle.source_model.specs.Guards.{Guard, Setup, has_ended, moved, seat_of}
use Rattle.source_model.specs.Journals.{happens}
use Rattle.source_model.specs.Schedules.{act_of, first_act, slots_after}
use Rattle.source_model.proofs.Moved.{Keeps, move_keeps, of_outcome}
use Rattle.run_machine.specs.Machines.{Shown}
use Rattle.dsu_runs.specs.declared.engine.Made.{Made}
use Rattle.dsu_runs.specs.declared.engine.Made.TheVariants as made
use Rattle.dsu_runs.specs.Engines.{Fails, Makes, MakesAt, MovesOn, Refuses, Rests, TurnsTo, first_after}
use Rattle.dsu_runs.specs.declared.engine.Turn.{Turn}
use Rattle.dsu_runs.specs.declared.engine.Turn.TheVariants as turn
use Rattle.dsu_runs.proofs.Happening.{any_are_rows, any_rules, move_made, no_move, refused}
use Rattle.dsu_runs.proofs.Slots.{act_at_check_in, act_going, acts_first, first_is}
use Rattle.plain_engine.specs.declared.seat.Seat.{Seat}
use Rattle.plain_engine.specs.Kept.{HasNoThreadFrom, IsFirstThreadFrom, has_thread}
use Rattle.plain_engine.specs.Plain.{AreSeats, IsTurnAfter}
use Rattle.plain_engine.proofs.Threads.{first_within, next_in_turn, none_left, none_past, passed_over}

-- a longer output of the same length is the same
as_before : (out more all : List ℕ) → all ≡ out ++ more → length all ≡ length out → all ≡ out
as_before out [] all is same = is ∙ append-nil out
as_before out (x ∷ more) all is same =
    let long = ap length is ∙ length-append out (x ∷ more) in absurd (omega (arith, long, same))

-- ---- the first slot in turn in which a thread lives

inside : (seats : List Seat) (from slot : ℕ) → length seats ≡ 16 → IsFirstThreadFrom seats from slot → slot < 16
inside seats from slot many first = by (nat_lt slot 16) refl
  where
    less : (a b : ℕ) → nat_lt a b ≡ true → a < b
    less a b e = grind (arith, nat_tests, e)

    not_less : (a b : ℕ) → nat_lt a b ≡ false → b ≤ a
    not_less a b e = grind (arith, nat_tests, e)

    by : (b : Bool) → nat_lt slot 16 ≡ b → slot < 16
    by true e = less slot 16 e
    by false e =
        let past = not_less slot 16 e in
        absurd (true≢false (sym first.there ∙ none_past seats slot (omega (arith, past, many))))

module _ (g : Guard) (run : Shown) (seats : List Seat) (last : Option ℕ) (first : ℕ) (are : AreSeats g run seats)
    (going : has_ended g ≡ false) (many : length seats ≡ 16) (same : length g.seats ≡ length g.world.slots)
    (is : first ≡ first_after 16 last) where
  within : first ≤ 16
  within = subst (λ n. n ≤ 16) (sym is) (first_within last)

  -- from the first slot in turn on
  pub from_first : (slot : ℕ) (act : Event) → IsFirstThreadFrom seats first slot → act_of g slot ≡ Some act
      → first_act g (slots_after (length g.seats) last) ≡ Some act
  from_first slot act at acts =
      let below = inside seats first slot many at in
      sym (next_in_turn g last first (Some act) (first_act g (range_with_len 0 (first - 0))) same are.many is
      (passed_over g run seats first slot 16 are going many (omega arith) at below ∙ acts_first g slot 16 act below acts) refl)

  -- or before it
  pub from_0 : (slot : ℕ) (act : Event) → HasNoThreadFrom seats first → IsFirstThreadFrom seats 0 slot → act_of g slot ≡ Some act
      → first_act g (slots_after (length g.seats) last) ≡ Some act
  from_0 slot act none at acts = by (nat_lt slot first) refl
    where
      less : (a b : ℕ) → nat_lt a b ≡ true → a < b
      less a b e = grind (arith, nat_tests, e)

      not_less : (a b : ℕ) → nat_lt a b ≡ false → b ≤ a
      not_less a b e = grind (arith, nat_tests, e)

      by : (b : Bool) → nat_lt slot first ≡ b → first_act g (slots_after (length g.seats) last) ≡ Some act
      by true e =
          let below = less slot first e in
          sym (next_in_turn g last first None (Some act) same are.many is
          (none_left g run seats first 16 are going many (omega arith) none)
          (passed_over g run seats 0 slot first are going many within at below ∙ acts_first g slot first act below acts))
      by false e = absurd (true≢false (sym at.there ∙ none slot (not_less slot first e)))

  pub in_none : HasNoThreadFrom seats first → HasNoThreadFrom seats 0 → first_act g (slots_after (length g.seats) last) ≡ None
  in_none none all =
      sym (next_in_turn g last first None None same are.many is
      (none_left g run seats first 16 are going many (omega arith) none)
      (none_left g run seats 0 first are going many within all))

  -- by the first from 0 on, where there is none from the first in turn on
  pub none_or_0 : HasNoThreadFrom seats first → (o : Option ℕ) → MatchOption o (HasNoThreadFrom seats 0) (IsFirstThreadFrom seats 0)
      → MatchOption o (first_act g (slots_after (length g.seats) last) ≡ None)
      (λ slot. (act : Event) → act_of g slot ≡ Some act → first_act g (slots_after (length g.seats) last) ≡ Some act)
  none_or_0 none None all = in_none none all
  none_or_0 none (Some slot) at = λ act acts. from_0 slot act none at acts

-- ---- one slot

module _ (at : Guard → Type 0) (setup : Setup) (g : Guard) (slot : ℕ) (told now : Option (List ℕ)) where
  -- a move that was made is what the thread could do
  could : (after : Guard) → (seat_of g slot).at_check_in ≡ false → happens any_rules setup (Move slot) g ≡ Some after
      → act_of g slot ≡ Some (Move slot)
  could after at_none h =
      act_going g slot true at_none (ap is_some (move_made any_rules setup slot g after h).to)

  -- a check-in that it was at was passed
  pub checked : (seat_of g slot).at_check_in ≡ true → Makes at setup (CheckIn slot) g told now
      → TurnsTo at setup (act_of g slot) g told now (turn.CheckedIn slot)
  checked at_one m = (act_at_check_in g slot at_one, m)

  pub not_refused : (seat_of g slot).at_check_in ≡ true → has_ended g ≡ false → g.open_offer ≡ None
      → Refuses at setup (CheckIn slot) g told now → ⊥
  not_refused at_one going none r = refused any_rules setup slot g going at_one none (r.never any_rules any_are_rows)

  -- a move was made
  pub went : (t : Turn) (printed : ℕ) → (seat_of g slot).at_check_in ≡ false → (m : Makes at setup (Move slot) g told now)
      → printed ≡ length g.world.output → IsTurnAfter slot m.after printed t → TurnsTo at setup (act_of g slot) g told now t
  went (turn.Moved t) printed at_none m from (same, going, output) =
      let made = move_made any_rules setup slot g m.after (m.happens any_rules any_are_rows) in
      let keeps = of_outcome (Keeps slot g.world) (move g.world slot) made.world made.to (move_keeps g.world slot) in
      let grew = ap (λ (x : Guard). x.world.output) (sym made.is) ∙ keeps.grows.1 in
      subst (λ n. TurnsTo at setup (act_of g slot) g told now (turn.Moved n)) (sym same) (
        could m.after at_none (m.happens any_rules any_are_rows),
        record {
          makes = m;
          going = going;
          silent = as_before g.world.output keeps.grows.0 m.after.world.output grew (output ∙ from);
        },
      )
  went (turn.Changed t) printed at_none m from same =
      subst (λ n. TurnsTo at setup (act_of g slot) g told now (turn.Changed n)) (sym same)
      (could m.after at_none (m.happens any_rules any_are_rows), m)
  went (turn.CheckedIn t) printed at_none m from is = absurd is
  went (turn.SinkFailed t) printed at_none m from is = absurd is
  went turn.NoneActs printed at_none m from is = absurd is

  -- one whose output couldn't all be written
  pub broke : (seat_of g slot).at_check_in ≡ false → Fails setup (Move slot) g told now
      → TurnsTo at setup (act_of g slot) g told now (turn.SinkFailed slot)
  broke at_none f = (could f.after at_none (f.happens any_rules any_are_rows), f)

  -- or it can't be made
  pub rested : (seat_of g slot).at_check_in ≡ false → has_ended g ≡ false → Refuses at setup (Move slot) g told now
      → TurnsTo at setup (act_of g slot) g told now turn.NoneActs
  rested at_none going r = (
    act_going g slot false at_none (no_move any_rules setup slot g (r.never any_rules any_are_rows) going at_none),
    record { stays = r.stays; silent = r.silent },
  )

-- ---- what is next

module _ (at : Guard → Type 0) (setup : Setup) (g : Guard) (a b : Option Event) (told now : Option (List ℕ)) where
  -- what the thread of a slot did is what was next, if it is next where the thread can do it
  pub turned : (t : Turn) → (t ≡ turn.NoneActs → ⊥) → ((e : Event) → a ≡ Some e → b ≡ Some e) → TurnsTo at setup a g told now t
      → TurnsTo at setup b g told now t
  turned (turn.Moved slot) acts next (is, m) = (next (Move slot) is, m)
  turned (turn.CheckedIn slot) acts next (is, m) = (next (CheckIn slot) is, m)
  turned (turn.Changed slot) acts next (is, m) = (next (Move slot) is, m)
  turned (turn.SinkFailed slot) acts next (is, m) = (next (Move slot) is, m)
  turned turn.NoneActs acts next m = absurd (acts refl)

-- the slot that comes first in turn is that of the event
pub first_does : (g : Guard) (slots : List ℕ) (e : Event) (slot : ℕ) → first_act g slots ≡ Some e → (e ≡ Move slot) ⊎ (e ≡ CheckIn slot)
    → act_of g slot ≡ Some e
first_does g slots e slot is which =
    let first = first_is g slots e is in
    by first.0 (seat_of g first.0).at_check_in (can_move g.world first.0) refl refl first.1 which
  where
    the_slot : (n : ℕ) → act_of g n ≡ Some e → n ≡ slot → act_of g slot ≡ Some e
    the_slot n acts same = ap (act_of g) (sym same) ∙ acts

    check_in_slot : (a b : ℕ) → Some (CheckIn a) ≡ Some e → (e ≡ Move b) ⊎ (e ≡ CheckIn b) → a ≡ b
    check_in_slot a b same (inl is) = cc
    check_in_slot a b same (inr is) = cc

    move_slot : (a b : ℕ) → Some (Move a) ≡ Some e → (e ≡ Move b) ⊎ (e ≡ CheckIn b) → a ≡ b
    move_slot a b same (inl is) = cc
    move_slot a b same (inr is) = cc

    by : (n : ℕ) (a b : Bool) → (seat_of g n).at_check_in ≡ a → can_move g.world n ≡ b → act_of g n ≡ Some e
        → (e ≡ Move slot) ⊎ (e ≡ CheckIn slot) → act_of g slot ≡ Some e
    by n true b at can acts which = the_slot n acts (check_in_slot n slot (sym (act_at_check_in g n at) ∙ acts) which)
    by n false true at can acts which = the_slot n acts (move_slot n slot (sym (act_going g n true at can) ∙ acts) which)
    by n false false at can acts which = absurd (none-some e (sym (act_going g n false at can) ∙ acts))

-- no thread opens, decides or withdraws an offer
pub no_offer : (g : Guard) (slots : List ℕ) (e : Event) (k n : ℕ) → first_act g slots ≡ Some e
    → (e ≡ Offer k) ⊎ ((e ≡ Decide k) ⊎ (e ≡ Withdraw k)) → act_of g n ≡ Some e
no_offer g slots e k n is which =
    let first = first_is g slots e is in
    absurd (by first.0 (seat_of g first.0).at_check_in (can_move g.world first.0) refl refl first.1)
  where
    not_check_in : (a : ℕ) → Some (CheckIn a) ≡ Some e → (e ≡ Offer k) ⊎ ((e ≡ Decide k) ⊎ (e ≡ Withdraw k)) → ⊥
    not_check_in a same (inl x) = cc
    not_check_in a same (inr (inl x)) = cc
    not_check_in a same (inr (inr x)) = cc

    not_move : (a : ℕ) → Some (Move a) ≡ Some e → (e ≡ Offer k) ⊎ ((e ≡ Decide k) ⊎ (e ≡ Withdraw k)) → ⊥
    not_move a same (inl x) = cc
    not_move a same (inr (inl x)) = cc
    not_move a same (inr (inr x)) = cc

    by : (m : ℕ) (a b : Bool) → (seat_of g m).at_check_in ≡ a → can_move g.world m ≡ b → act_of g m ≡ Some e → ⊥
    by m true b at can acts = not_check_in m (sym (act_at_check_in g m at) ∙ acts) which
    by m false true at can acts = not_move m (sym (act_going g m true at can) ∙ acts) which
    by m false false at can acts = none-some e (sym (act_going g m false at can) ∙ acts)

-- ---- answers

pub ok_is : {A : Type 0} (r : Outcome A AllocError) (P : A → Type 0) (a : A) → IfOk r P → r ≡ Ok a → P a
ok_is r P a holds is = subst (λ x. IfOk x P) is holds

module _ (at : Guard → Type 0) (setup : Setup) (g : Guard) (told now : Option (List ℕ)) where
  -- what was next has another name
  pub named : (r : Outcome Turn AllocError) (a b : Option Event) → a ≡ b → IfOk r (TurnsTo at setup a g told now)
      → IfOk r (TurnsTo at setup b g told now)
  named r a b same is = subst (λ o. IfOk r (TurnsTo at setup o g told now)) same is

  -- nothing was told before
  pub told_since : (r : Outcome Turn AllocError) (a : Option Event) (mid : Option (List ℕ)) → mid ≡ told
      → IfOk r (TurnsTo at setup a g mid now) → IfOk r (TurnsTo at setup a g told now)
  told_since r a mid same is = subst (λ m. IfOk r (TurnsTo at setup a g m now)) same is

-- a thread that is at a check-in was asked to pass it
pub check_in_turn : (at : Guard → Type 0) (setup : Setup) (g : Guard) (slot : ℕ) (told now : Option (List ℕ)) (r : Made) (t : Turn)
    → (seat_of g slot).at_check_in ≡ true → has_ended g ≡ false → g.open_offer ≡ None
    → MakesAt at setup (CheckIn slot) g told now r → (r ≡ made.SinkFailed → ⊥) → (r ≡ made.Done → t ≡ turn.CheckedIn slot)
    → TurnsTo at setup (act_of g slot) g told now t
check_in_turn at setup g slot told now made.Done t at_one going none makes written done =
    subst (TurnsTo at setup (act_of g slot) g told now) (sym (done refl)) (checked at setup g slot told now at_one makes)
check_in_turn at setup g slot told now made.CannotHappen t at_one going none makes written done =
    absurd (not_refused at setup g slot told now at_one going none makes)
check_in_turn at setup g slot told now made.SinkFailed t at_one going none makes written done = absurd (written refl)
