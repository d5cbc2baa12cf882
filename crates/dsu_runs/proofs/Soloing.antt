-- A run by the solo schedule from event to event.
use Rattle.std.proofs.Common.{◌≡◌, ◌⊎◌, inl, inr, ℕ, ◌+◌, ◌*◌, ◌≤◌, true, false, List, [], ◌∷◌, ◌++◌, Option, Some, None, refl, sym, ◌∙◌, ap, subst, arith, length-append, append_assoc}
use Rattle.std.specs.Prelude.{cond, length, reverse, if◌then◌else◌}
use Rattle.std.specs.Option.{option_or}
use Rattle.std.proofs.lemmas.List.{reverse-append}
use Rattle.std.proofs.lemmas.List.Sums.{sum_by-append}
use Rattle.std.proofs.lemmas.Option.{same_Some}
use Rattle.run_types.specs.declared.run.Event.{Event}
use Rattle.source_model.specs.Guards.{Guard, Rules, Setup}
use Rattle.source_model.specs.Journals.{guard_after, happens}
use Rattle.source_model.specs.Schedules.{MayStand, acted_by, makes_move, move_count}
use Rattle.source_model.specs.Endings.{ending, ends, int_ending, run_ending}
use Rattle.source_model.specs.ScheduleLaws.{NothingNext}
use Rattle.dsu_runs.specs.declared.running.Running.{Running}
use Rattle.dsu_runs.specs.declared.running.Step.{Step}
use Rattle.dsu_runs.specs.declared.running.Step.TheVariants as steps
use Rattle.dsu_runs.specs.declared.solo_run.SoloRun.{SoloRun}
use Rattle.dsu_runs.specs.declared.ran.StopCause.TheVariants.{Ended, SinkFailed, Memory}
use Rattle.effects.specs.Rows.{AreRows}
use Rattle.dsu_runs.specs.declared.live.Live.{Live}
use Rattle.dsu_runs.specs.Engines.{Grew}
use Rattle.dsu_runs.specs.Finishes.{EachBeforeItsEnd, Finishes, IsLive, SoloFrom, moves_of}
use Rattle.dsu_runs.specs.Turns.{IsQuiet, Keeps, Turned, next_within, ran_of}
use Rattle.dsu_runs.proofs.Acting.{rose_since}
use Rattle.dsu_runs.proofs.Coming.{Came, came_more, came_none, failed_from, failed_legal}
use Rattle.dsu_runs.proofs.Ends.{has_an_end, next_is, not_ended, used_up}
use Rattle.dsu_runs.proofs.Happening.{any_are_rows, any_rules}
use Rattle.dsu_runs.proofs.Room.{few_left, none_wait, offers_left, pays}
use Rattle.dsu_runs.proofs.Seats.{check_ins, few_check_ins}

trans_le : (x y z : ℕ) → x ≤ y → y ≤ z → x ≤ z
trans_le x y z p q = omega (arith, p, q)

-- the newest event first
newest : (es : List Event) (e : Event) → reverse (es ++ e ∷ []) ≡ e ∷ reverse es
newest es e = reverse-append es (e ∷ [])

count_more : (es : List Event) (e : Event) → move_count (es ++ e ∷ []) ≡ move_count es + move_count (e ∷ [])
count_more es e = sum_by-append (λ x. cond (makes_move x) 1 0) es (e ∷ [])

none_before : (es : List Event) (e : Event) (later : List Event) → [] ≡ es ++ e ∷ later → ⊥
none_before es e later is = let long = ap length is ∙ length-append es (e ∷ later) in omega (arith, long)

same_head : (a b : Event) (xs ys : List Event) → a ∷ xs ≡ b ∷ ys → a ≡ b
same_head a b xs ys eq = cc

same_tail : (a b : Event) (xs ys : List Event) → a ∷ xs ≡ b ∷ ys → xs ≡ ys
same_tail a b xs ys eq = cc

-- a part of some events is a part of the earlier ones, or all of these
split_last : (es : List Event) (e : Event) (fs : List Event) (f : Event) (later : List Event) → es ++ e ∷ [] ≡ fs ++ f ∷ later
    → (es ≡ fs) ⊎ ((rest : List Event) × (es ≡ fs ++ f ∷ rest))
split_last [] e [] f later is = inl refl
split_last [] e (x ∷ fs) f later is = absurd (none_before fs f later (no_more e x (fs ++ f ∷ later) is))
  where
    no_more : (a b : Event) (xs : List Event) → a ∷ [] ≡ b ∷ xs → [] ≡ xs
    no_more a b xs eq = cc
split_last (y ∷ es) e [] f later is = inr (es, ap (λ a. a ∷ es) (same_head y f (es ++ e ∷ []) later is))
split_last (y ∷ es) e (x ∷ fs) f later is =
    let rest = split_last es e fs f later (same_tail y x (es ++ e ∷ []) (fs ++ f ∷ later) is) in
    by (same_head y x (es ++ e ∷ []) (fs ++ f ∷ later) is) rest
  where
    by : y ≡ x → (es ≡ fs) ⊎ ((rest : List Event) × (es ≡ fs ++ f ∷ rest))
        → (y ∷ es ≡ x ∷ fs) ⊎ ((rest : List Event) × (y ∷ es ≡ (x ∷ fs) ++ f ∷ rest))
    by head (inl same) = inl (ap (λ a. a ∷ es) head ∙ ap (λ l. x ∷ l) same)
    by head (inr (rest, same)) = inr (rest, ap (λ a. a ∷ es) head ∙ ap (λ l. x ∷ l) same)

ending_here : (setup : Setup) (moves : ℕ) (es : List Event) (g : Guard) → ends setup moves es g ≡ true
    → run_ending setup moves es g ≡ Some (ending g)
ending_here setup moves es g is = ap (λ b. if b then Some (ending g) else None) is

count_parts : (es fs : List Event) → move_count (es ++ fs) ≡ move_count es + move_count fs
count_parts es fs = sum_by-append (λ x. cond (makes_move x) 1 0) es fs

none_more : (es : List Event) → es ≡ es ++ []
none_more [] = refl
none_more (e ∷ es) = ap (λ l. e ∷ l) (none_more es)

module _ {E : Type 0} (setup : Setup) (is_at : Guard → E → Type 0) (told : E → Option (List ℕ)) (faults : E → ℕ)
    (start : Guard) (live : Live E) where
  -- for so many further events there is room: each move pays for the check-in that it leads to
  abbrev pub most_events : ℕ
  most_events = 2 * live.left + 2 * length setup.offers + length start.seats + 1

  -- the further events so far are those of the solo schedule; the check-ins that stand, the offers that aren't closed and the
  -- moves that are left have room
  pub record Going (s : SoloRun E) : Type 0 where
    pub guard : Guard
    pub more : List Event
    pub grown : s.running.history.items ≡ live.history.items ++ more
    pub came : Came setup start (told live.engine) s.running.history.items guard (told s.running.engine)
    pub there : is_at guard s.running.engine
    pub later : faults live.engine ≤ faults s.running.engine
    pub solo : (rules : Rules) → AreRows rules.row → SoloFrom rules setup start live.last (reverse more) guard s.last
    pub begun : EachBeforeItsEnd setup (moves_of live) live.history.items more
    pub left : s.left + move_count more ≡ live.left
    pub quiet : s.quiet ≡ true → IsQuiet setup guard s.left
    pub room : length more + (check_ins guard.seats + offers_left setup guard) + 2 * s.left ≤ most_events

  -- the moves of the whole run
  all_moves : (s : SoloRun E) → (at : Going s) → s.left + move_count s.running.history.items ≡ moves_of live
  all_moves s at =
      let count = ap move_count at.grown ∙ count_parts live.history.items at.more in omega (arith, at.left, count)

  -- the run has ended where all the room is taken
  pub room_taken : (s : SoloRun E) → (at : Going s) → most_events ≤ length at.more
      → ends setup (moves_of live) s.running.history.items at.guard ≡ true
  room_taken s at full =
      used_up setup at.guard (moves_of live) s.running.history.items
      (none_wait setup at.guard (no_offer (offers_left setup at.guard) at.room))
      (no_move (offers_left setup at.guard) at.room (all_moves s at))
    where
      no_offer : (n : ℕ) → length at.more + (check_ins at.guard.seats + n) + 2 * s.left ≤ most_events → n ≤ 0
      no_offer n room = omega (arith, room, full)

      no_move : (n : ℕ) → length at.more + (check_ins at.guard.seats + n) + 2 * s.left ≤ most_events
          → s.left + move_count s.running.history.items ≡ moves_of live → move_count s.running.history.items ≡ moves_of live
      no_move n room all = omega (arith, room, full, all)

  -- so many events more than there were
  pub further : (s : SoloRun E) → (at : Going s) → (n : ℕ) → length s.running.history.items ≡ length live.history.items + n → length at.more ≡ n
  further s at n is =
      let long = ap length at.grown ∙ length-append live.history.items at.more in omega (arith, is, long)

  pub starts : (s : SoloRun E) → s.running.engine ≡ live.engine → s.running.history.items ≡ live.history.items → s.last ≡ live.last
      → s.left ≡ live.left → s.quiet ≡ false → IsLive setup is_at start live → Going s
  starts s same events last left unknown is = record {
    guard = start;
    more = [];
    grown = events ∙ none_more live.history.items;
    came =
        subst (λ es. Came setup start (told live.engine) es start (told s.running.engine)) (sym events)
        (subst (λ x. Came setup start (told live.engine) live.history.items start (told x)) (sym same)
        (came_none setup start (told live.engine) live.history.items is.legal));
    there = subst (λ x. is_at start x) (sym same) is.there;
    later = let eq = ap faults same in omega (arith, eq);
    solo = λ rules rows. (refl, last);
    begun = λ rules events more e before rows split legal. absurd (none_before events e more split);
    left = omega (arith, left);
    quiet = λ q. absurd (off (sym unknown ∙ q));
    room =
        let seats = few_check_ins start.seats in
        let offers = few_left setup start in
        omega (arith, seats, offers, left);
  }
    where
      off : false ≡ true → ⊥
      off e = cc

  -- a run for whose events there is no room
  pub no_room : (running : Running E) → running.engine ≡ live.engine → running.history.items ≡ live.history.items
      → IsLive setup is_at start live → Finishes setup is_at told faults start live (ran_of running Memory)
  no_room running same events is = record {
    guard = start;
    last = live.last;
    more = [];
    grown = events ∙ none_more live.history.items;
    legal = λ rules rows. ap (guard_after rules setup) events ∙ is.legal rules rows;
    solo = λ rules rows. (refl, refl);
    most = omega arith;
    begun = λ rules events more e before rows split legal. absurd (none_before events e more split);
    later = let eq = ap faults same in omega (arith, eq);
    stopped = λ bytes shown. ap told same ∙ shown;
  }

  -- a run that has ended here
  pub finished : (s : SoloRun E) → (at : Going s) → ends setup (moves_of live) s.running.history.items at.guard ≡ true
      → Finishes setup is_at told faults start live (ran_of s.running (Ended (int_ending (ending at.guard))))
  finished s at over = record {
    guard = at.guard;
    last = s.last;
    more = at.more;
    grown = at.grown;
    legal = at.came.legal;
    solo = at.solo;
    most = omega (arith, at.left);
    begun = at.begun;
    later = at.later;
    stopped = record {
      ends = ending_here setup (moves_of live) s.running.history.items at.guard over;
      ending = refl;
      there = at.there;
      printed = at.came.grew;
    };
  }

  -- it has where nothing is next
  pub none_next : (s : SoloRun E) → (at : Going s) → NothingNext → next_within setup at.guard s.last s.left ≡ None
      → ends setup (moves_of live) s.running.history.items at.guard ≡ true
  none_next s at law none =
      has_an_end setup at.guard s.last s.left (moves_of live) s.running.history.items
      (law any_rules setup s.running.history.items at.guard s.last (at.came.legal any_rules any_are_rows)) none (all_moves s at)

  module _ (old new : SoloRun E) (step : Step) (at : Going old) (keeps : Keeps faults old new step)
      (turned : Turned is_at told setup at.guard (next_within setup at.guard old.last old.left) old new step) where
    came_of : (s : Step) → step ≡ s → Turned is_at told setup at.guard (next_within setup at.guard old.last old.left) old new s
    came_of s is =
        subst (λ x. Turned is_at told setup at.guard (next_within setup at.guard old.last old.left) old new x) is turned

    grown_more : (e : Event) → new.running.history.items ≡ old.running.history.items ++ e ∷ []
        → new.running.history.items ≡ live.history.items ++ (at.more ++ e ∷ [])
    grown_more e history =
        history ∙ ap (λ es. es ++ e ∷ []) at.grown ∙ append_assoc live.history.items at.more (e ∷ [])

    solo_more : (wanted e : Event) (after : Guard) → next_within setup at.guard old.last old.left ≡ Some wanted → MayStand wanted e
        → ((rules : Rules) → AreRows rules.row → happens rules setup e at.guard ≡ Some after)
        → (rules : Rules) → AreRows rules.row
        → SoloFrom rules setup start live.last (reverse (at.more ++ e ∷ [])) after (option_or (acted_by e) old.last)
    solo_more wanted e after next stands made rules rows =
        subst (λ es. SoloFrom rules setup start live.last es after (option_or (acted_by e) old.last)) (sym (newest at.more e)) (
          at.guard,
          old.last,
          wanted,
          at.solo rules rows,
          next_is setup at.guard old.last old.left wanted next,
          stands,
          made rules rows,
          refl,
        )

    begun_more : (wanted e : Event) → next_within setup at.guard old.last old.left ≡ Some wanted
        → EachBeforeItsEnd setup (moves_of live) live.history.items (at.more ++ e ∷ [])
    begun_more wanted e next rules events more x before rows is legal = by (split_last at.more e events x more is)
      where
        all_of : at.more ≡ events → old.running.history.items ≡ live.history.items ++ events
        all_of same = at.grown ∙ ap (λ es. live.history.items ++ es) same

        here : at.more ≡ events → at.guard ≡ before
        here same =
            same_Some at.guard before (sym (at.came.legal rules rows) ∙ ap (guard_after rules setup) (all_of same) ∙ legal)

        by : (at.more ≡ events) ⊎ ((rest : List Event) × (at.more ≡ events ++ x ∷ rest))
            → run_ending setup (moves_of live) (live.history.items ++ events) before ≡ None
        by (inl same) =
            ap (λ g. run_ending setup (moves_of live) (live.history.items ++ events) g) (sym (here same))
            ∙ ap (λ es. run_ending setup (moves_of live) es at.guard) (sym (all_of same))
            ∙ not_ended setup at.guard old.last old.left (moves_of live) old.running.history.items wanted next (all_moves old at)
        by (inr (rest, same)) = at.begun rules events rest x before rows same legal

    later : faults live.engine ≤ faults new.running.engine
    later = trans_le (faults live.engine) (faults old.running.engine) (faults new.running.engine) at.later keeps.later

    -- the next event was made
    pub one_more : step ≡ steps.Done → Going new
    one_more is =
        let a = came_of steps.Done is in
        let m = a.makes in
        let paid = (pays any_rules setup a.event at.guard m.after (m.happens any_rules any_are_rows)).paid in
        let count = count_more at.more a.event in
        let long = length-append at.more (a.event ∷ []) in
        record {
          guard = m.after;
          more = at.more ++ a.event ∷ [];
          grown = grown_more a.event a.history;
          came =
              subst (λ es. Came setup start (told live.engine) es m.after (told new.running.engine)) (sym a.history)
              (came_more (λ x. is_at x new.running.engine) setup start (told live.engine) (told old.running.engine)
              (told new.running.engine) old.running.history.items at.guard a.event at.came m);
          there = m.there;
          later = later;
          solo = λ rules rows.
              subst (SoloFrom rules setup start live.last (reverse (at.more ++ a.event ∷ [])) m.after) (sym a.last)
              (solo_more a.wanted a.event m.after a.due a.stands m.happens rules rows);
          begun = begun_more a.wanted a.event a.due;
          left = omega (arith, at.left, a.left, count);
          quiet = a.quiet;
          room =
              room_more (length at.more) (length (at.more ++ a.event ∷ [])) (check_ins at.guard.seats)
              (check_ins m.after.seats) (offers_left setup at.guard) (offers_left setup m.after) (move_count (a.event ∷ [])) at.room paid long
              a.left;
        }
      where
        room_more : (old_length new_length old_check_ins new_check_ins old_offers new_offers n : ℕ)
            → old_length + (old_check_ins + old_offers) + 2 * old.left ≤ most_events
            → new_check_ins + new_offers + 1 ≤ old_check_ins + old_offers + 2 * n → new_length ≡ old_length + 1
            → new.left + n ≡ old.left
            → new_length + (new_check_ins + new_offers) + 2 * new.left ≤ most_events
        room_more old_length new_length old_check_ins new_check_ins old_offers new_offers n room paid long left =
            omega (arith, room, paid, long, left)

    pub failed : step ≡ steps.SinkFailed → Finishes setup is_at told faults start live (ran_of new.running SinkFailed)
    failed is =
        let a = came_of steps.SinkFailed is in
        let f = a.fails in
        let count = count_more at.more a.event in
        record {
          guard = f.after;
          last = option_or (acted_by a.event) old.last;
          more = at.more ++ a.event ∷ [];
          grown = grown_more a.event a.history;
          legal =
              failed_legal setup start (told live.engine) (told old.running.engine) (told new.running.engine)
              old.running.history.items new.running.history.items at.guard a.event at.came f a.history;
          solo = solo_more a.event a.event f.after a.due (inl refl) f.happens;
          most = omega (arith, at.left, a.left, count);
          begun = begun_more a.event a.event a.due;
          later = later;
          stopped =
              failed_from setup start (told live.engine) (told old.running.engine) (told new.running.engine)
              old.running.history.items new.running.history.items at.guard a.event (faults live.engine) (faults new.running.engine) at.came f a.moves
              (rose_since (faults live.engine) (faults old.running.engine) (faults new.running.engine) at.later (keeps.rose is)) a.history;
        }

    pub lacks : step ≡ steps.Memory → Finishes setup is_at told faults start live (ran_of new.running Memory)
    lacks is =
        let a = came_of steps.Memory is in
        record {
          guard = at.guard;
          last = old.last;
          more = at.more;
          grown = a.history ∙ at.grown;
          legal = λ rules rows. ap (guard_after rules setup) a.history ∙ at.came.legal rules rows;
          solo = at.solo;
          most = omega (arith, at.left);
          begun = at.begun;
          later = later;
          stopped = λ bytes shown. a.silent ∙ at.came.grew bytes shown;
        }

    -- a turn comes to nothing only where no event was next
    pub came_to_nothing : (step ≡ steps.CannotHappen) ⊎ ((step ≡ steps.Misused) ⊎ (step ≡ steps.UndefinedName)) → step ≡ steps.CannotHappen
    came_to_nothing (inl is) = is
    came_to_nothing (inr (inl is)) = absurd (came_of steps.Misused is)
    came_to_nothing (inr (inr is)) = absurd (came_of steps.UndefinedName is)

    -- nothing was next, so the run has ended
    pub ended : (is : step ≡ steps.CannotHappen) → NothingNext
        → is_at at.guard new.running.engine
        × Finishes setup is_at told faults start live (ran_of new.running (Ended (int_ending (ending at.guard))))
    ended is law =
        let a = came_of steps.CannotHappen is in
        let still = keeps.still is in (
          a.stays,
          record {
            guard = at.guard;
            last = old.last;
            more = at.more;
            grown = still.history ∙ at.grown;
            legal = λ rules rows. ap (guard_after rules setup) still.history ∙ at.came.legal rules rows;
            solo = at.solo;
            most = omega (arith, at.left);
            begun = at.begun;
            later = later;
            stopped = record {
              ends =
                  ap (λ es. run_ending setup (moves_of live) es at.guard) still.history
                  ∙ ending_here setup (moves_of live) old.running.history.items at.guard (none_next old at law a.none);
              ending = refl;
              there = a.stays;
              printed = λ bytes shown. a.silent ∙ at.came.grew bytes shown;
            };
          },
        )
