-- One turn in which a thread's event is next.
use Rattle.std.proofs.Common.{◌≡◌, ◌⊎◌, inl, inr, ℕ, suc, ◌+◌, ◌<◌, ◌≤◌, Bool, true, false, List, [], ◌∷◌, ◌++◌, Option, Some, None, refl, sym, ◌∙◌, ap, subst, arith, length-append}
use Rattle.std.specs.Prelude.{◌&&◌, ◌==◌, not, count_by, nat_le, length, option_map, vec_capacity, if◌then◌else◌}
use Rattle.std.specs.Option.{option_or}
use Rattle.std.specs.Prelude.{IfOk, Ok, Result as Outcome}
use Rattle.std.specs.declared.alloc.AllocError.{AllocError}
use Rattle.std.proofs.lemmas.Bool.Decides.{nat_tests}
use Rattle.run_types.specs.declared.run.Event.{Event}
use Rattle.run_types.specs.declared.run.Event.TheVariants.{Move, CheckIn, Decide, Offer as EventOffer}
use Rattle.source_model.specs.Worlds.{World}
use Rattle.source_model.specs.Guards.{Guard, Offer, Setup, bodies_of, checked_in, has_ended, is_reached, moved, offer_at}
use Rattle.source_model.specs.Schedules.{due, first_act, move_count, slots_after}
use Rattle.source_model.specs.Endings.{is_stuck}
use Rattle.dsu_runs.specs.declared.running.Step.{Step}
use Rattle.dsu_runs.specs.declared.running.Step.TheVariants.{Done, CannotHappen, SinkFailed, Memory, Misused, UndefinedName}
use Rattle.dsu_runs.specs.declared.solo_run.SoloRun.{SoloRun}
use Rattle.dsu_runs.specs.declared.engine.Turn.{Turn}
use Rattle.dsu_runs.specs.Engines.{GoesAt, Makes, MovesOn}
use Rattle.dsu_runs.specs.Turns.{Acts, IsQuiet, Turned, next_within, offer_or_act}
use Rattle.dsu_runs.proofs.Ends.{next_going}
use Rattle.dsu_runs.proofs.Offering.{act_left, act_within_moves}
use Rattle.dsu_runs.proofs.Happening.{any_are_rows, any_rules, check_in_made, move_made}

-- what holds of an answer holds of what it is
pub of_ok : (r : Outcome Turn AllocError) (P : Turn → Type 0) (t : Turn) → IfOk r P → r ≡ Ok t → P t
of_ok r P t holds is = subst (λ x. IfOk x P) is holds

-- no offer becomes due where nothing is printed
reached_still : (g : Guard) (w : World) (o : Option Offer) → w.output ≡ g.world.output
    → is_reached (record g { world = w }) o ≡ is_reached g o
reached_still g w None same = refl
reached_still g w (Some o) same = ap (λ out. nat_le o.lines (count_by (λ c. c == 10) out)) same

due_still : (setup : Setup) (g : Guard) (t : ℕ) (w : World) → w.output ≡ g.world.output → due setup (moved g t w) ≡ due setup g
due_still setup g t w same =
    ap (λ b. if g.closed == g.greatest && b then Some (suc g.greatest) else None)
    (reached_moved (offer_at setup (suc g.greatest)) ∙ reached_still g w (offer_at setup (suc g.greatest)) same)
  where
    reached_moved : (o : Option Offer) → is_reached (moved g t w) o ≡ is_reached (record g { world = w }) o
    reached_moved None = refl
    reached_moved (Some o) = refl

module _ {E : Type 0} (is_at : Guard → E → Type 0) (told : E → Option (List ℕ)) (setup : Setup) (g : Guard) (old new : SoloRun E) where
  -- a move was made: what is next after it is known where it printed nothing and the run goes on
  pub moved_on : (slot : ℕ) (next : Option Event) → GoesAt is_at g old.running.engine → due setup g ≡ None → next ≡ Some (Move slot)
      → MovesOn (λ x. is_at x new.running.engine) setup slot g (told old.running.engine) (told new.running.engine)
      → new.running.history.items ≡ old.running.history.items ++ Move slot ∷ [] → new.last ≡ Some slot
      → new.left + 1 ≡ old.left → (new.quiet ≡ true → 0 < new.left) → Acts is_at told setup g next old new
  moved_on slot next goes none is m history last left some =
      let made = move_made any_rules setup slot g m.makes.after (m.makes.happens any_rules any_are_rows) in
      record {
        wanted = Move slot;
        event = Move slot;
        due = is;
        stands = inl refl;
        makes = m.makes;
        history = history;
        last = last;
        left = left;
        quiet = λ q. record {
          going = m.going;
          none_open = ap (λ (x : Guard). x.open_offer) (sym made.is) ∙ goes.none_open;
          none_due =
              ap (due setup) (sym made.is)
              ∙ due_still setup g slot made.world (ap (λ (x : Guard). x.world.output) made.is ∙ m.silent)
              ∙ none;
          some_left = some q;
        };
      }

  -- a check-in was passed
  pub passed_on : (slot : ℕ) (next : Option Event) → GoesAt is_at g old.running.engine → due setup g ≡ None
      → next ≡ Some (CheckIn slot)
      → Makes (λ x. is_at x new.running.engine) setup (CheckIn slot) g (told old.running.engine) (told new.running.engine)
      → new.running.history.items ≡ old.running.history.items ++ CheckIn slot ∷ [] → new.last ≡ Some slot
      → new.left ≡ old.left → 0 < old.left → Acts is_at told setup g next old new
  passed_on slot next goes none is m history last left some =
      let made = check_in_made any_rules setup slot g m.after (m.happens any_rules any_are_rows) in
      record {
        wanted = CheckIn slot;
        event = CheckIn slot;
        due = is;
        stands = inl refl;
        makes = m;
        history = history;
        last = last;
        left = omega (arith, left);
        quiet = λ q.
            subst (λ x. IsQuiet setup x new.left) made.1 (record {
              going = goes.going;
              none_open = goes.none_open;
              none_due = none;
              some_left = omega (arith, left, some);
            });
      }

not_zero : (n : ℕ) → 0 < n → (n == 0) ≡ false
not_zero n some = grind (arith, nat_tests, some)

-- where only a thread's event can be next, it is
pub quiet_next : (setup : Setup) (g : Guard) (last : Option ℕ) (left : ℕ) → IsQuiet setup g left
    → next_within setup g last left ≡ first_act g (slots_after (length g.seats) last)
quiet_next setup g last left q =
    next_going setup g last left q.going (some_moves left (is_stuck g) q.some_left)
    ∙ ap (λ o. option_or (option_map Decide o) (offer_or_act setup g last left)) q.none_open
    ∙ ap (λ o. option_or (option_map EventOffer o) (act_left g last left)) q.none_due
    ∙ act_within_moves g last left (positive left q.some_left)
  where
    some_moves : (n : ℕ) (b : Bool) → 0 < n → (n == 0 && not b) ≡ false
    some_moves n b some = ap (λ x. x && not b) (not_zero n some)

    positive : (n : ℕ) → 0 < n → n ≡ 0 → ⊥
    positive n some none = omega (arith, some, none)

-- a turn begun by a run that only knew less
pub turned_after : {E : Type 0} (is_at : Guard → E → Type 0) (told : E → Option (List ℕ)) (setup : Setup) (g : Guard) (next : Option Event)
    (old mid new : SoloRun E) (step : Step) → mid ≡ record old { quiet = true } → Turned is_at told setup g next mid new step
    → Turned is_at told setup g next old new step
turned_after is_at told setup g next old mid new step same turned =
    as_old step (subst (λ m. Turned is_at told setup g next m new step) same turned)
  where
    as_old : (s : Step) → Turned is_at told setup g next (record old { quiet = true }) new s → Turned is_at told setup g next old new s
    as_old Done a = record {
      wanted = a.wanted;
      event = a.event;
      due = a.due;
      stands = a.stands;
      makes = a.makes;
      history = a.history;
      last = a.last;
      left = a.left;
      quiet = a.quiet;
    }
    as_old CannotHappen a = record { none = a.none; stays = a.stays; silent = a.silent }
    as_old SinkFailed a = record {
      event = a.event;
      due = a.due;
      fails = a.fails;
      moves = a.moves;
      history = a.history;
      left = a.left;
    }
    as_old Memory a = record { silent = a.silent; history = a.history }
    as_old Misused a = absurd a
    as_old UndefinedName a = absurd a
