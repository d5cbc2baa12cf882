-- One turn in which an offer is opened, decided or withdrawn.
use Rattle.std.proofs.Common.{◌≡◌, ◌⊎◌, inl, inr, ℕ, zero, suc, ◌+◌, ◌≤◌, false, List, [], ◌∷◌, ◌++◌, Option, Some, None, refl, sym, ◌∙◌, ap, arith}
use Rattle.std.specs.Prelude.{◌==◌, length, vec_capacity, if◌then◌else◌}
use Rattle.std.proofs.lemmas.Bool.{false≢true}
use Rattle.std.proofs.lemmas.Bool.Decides.{nat_tests}
use Rattle.dsu_io.specs.Causes.{Rose}
use Rattle.run_types.specs.declared.run.Event.{Event}
use Rattle.run_types.specs.declared.run.Event.TheVariants.{Decide, Offer, Withdraw}
use Rattle.source_model.specs.Guards.{Guard, Setup, has_ended}
use Rattle.source_model.specs.Schedules.{due, first_act, slots_after}
use Rattle.dsu_runs.specs.declared.running.Running.{Running}
use Rattle.dsu_runs.specs.declared.running.Step.{Step}
use Rattle.dsu_runs.specs.declared.running.Step.TheVariants.{Done, CannotHappen, SinkFailed, Memory, Misused, UndefinedName}
use Rattle.dsu_runs.specs.declared.solo_run.SoloRun.{SoloRun}
use Rattle.dsu_runs.specs.Engines.{GoesAt}
use Rattle.dsu_runs.specs.Turns.{Keeps, Turned, history_after}
use Rattle.dsu_runs.proofs.Acting.{Tried, keeps_then, kept, with_running}
use Rattle.dsu_runs.proofs.Happening.{any_are_rows, any_rules, opens, withdraws}

-- what a thread can do where so many moves are left
abbrev pub act_left : Guard → Option ℕ → ℕ → Option Event
act_left g last left = if left == 0 then None else first_act g (slots_after (length g.seats) last)

pub act_within_moves : (g : Guard) (last : Option ℕ) (left : ℕ) → (left ≡ 0 → ⊥)
    → act_left g last left ≡ first_act g (slots_after (length g.seats) last)
act_within_moves g last zero some = absurd (some refl)
act_within_moves g last (suc n) some =
    ap (λ b. if b then None else first_act g (slots_after (length g.seats) last)) (positive n)
  where
    positive : (m : ℕ) → (suc m == 0) ≡ false
    positive m = grind (arith, nat_tests)

-- an event that is no move leaves as many moves
none_made : (n : ℕ) → n + 0 ≡ n
none_made n = omega arith

module _ {E : Type 0} (is_at : Guard → E → Type 0) (told : E → Option (List ℕ)) (setup : Setup) (g : Guard) where
  -- what opens an offer, or withdraws it, decides none
  opens_only : (k offer : ℕ) → Offer k ≡ Decide offer → ⊥
  opens_only k offer e = cc

  withdraws_only : (k offer : ℕ) → Withdraw k ≡ Decide offer → ⊥
  withdraws_only k offer e = cc

  -- an offer that is due is opened
  pub opened : (old : SoloRun E) (new : Running E) (k : ℕ) (step : Step) → old.quiet ≡ false → GoesAt is_at g old.running.engine → due setup g ≡ Some k
      → Tried is_at told setup g old new (Offer k) step → Turned is_at told setup g (Some (Offer k)) old (with_running old new) step
  opened old new k Done unknown goes is tried = record {
    wanted = Offer k;
    event = Offer k;
    due = refl;
    stands = inl refl;
    makes = tried.0;
    history = tried.1;
    last = refl;
    left = none_made old.left;
    quiet = λ is. absurd (false≢true (sym unknown ∙ is));
  }
  opened old new k CannotHappen unknown goes is tried =
      let can = opens any_rules setup g k goes.going goes.none_open is in absurd (never can.0 (tried.0.never any_rules any_are_rows) can.1)
    where
      never : {A : Type 0} {o : Option A} (a : A) → o ≡ None → o ≡ Some a → ⊥
      never a none some = cc
  opened old new k SinkFailed unknown goes is tried = absurd (false≢true (tried.2 refl))
  opened old new k Memory unknown goes is tried = record { silent = tried.0; history = tried.1 }
  opened old new k Misused unknown goes is tried = absurd (opens_only k tried.0.offer tried.0.decides)
  opened old new k UndefinedName unknown goes is tried = absurd (opens_only k tried.0.offer tried.0.decides)

  -- a decision that was made
  pub decided : (old : SoloRun E) (new : Running E) (k : ℕ) (step : Step) → old.quiet ≡ false → (step ≡ CannotHappen → ⊥) → (step ≡ Memory → ⊥)
      → (step ≡ Misused → ⊥) → (step ≡ UndefinedName → ⊥) → Tried is_at told setup g old new (Decide k) step → Turned is_at told setup g (Some (Decide k)) old (with_running old new) step
  decided old new k Done unknown can room used has tried = record {
    wanted = Decide k;
    event = Decide k;
    due = refl;
    stands = inl refl;
    makes = tried.0;
    history = tried.1;
    last = refl;
    left = none_made old.left;
    quiet = λ is. absurd (false≢true (sym unknown ∙ is));
  }
  decided old new k CannotHappen unknown can room used has tried = absurd (can refl)
  decided old new k SinkFailed unknown can room used has tried = absurd (false≢true (tried.2 refl))
  decided old new k Memory unknown can room used has tried = absurd (room refl)
  decided old new k Misused unknown can room used has tried = absurd (used refl)
  decided old new k UndefinedName unknown can room used has tried = absurd (has refl)

  -- one that wasn't leaves the run as it was
  pub record Still (old : SoloRun E) (mid : Running E) : Type 0 where
    pub there : is_at g mid.engine
    pub silent : told mid.engine ≡ told old.running.engine
    pub history : mid.history.items ≡ old.running.history.items

  pub undecided : (old : SoloRun E) (mid : Running E) (k : ℕ) (step : Step)
      → (step ≡ CannotHappen) ⊎ ((step ≡ Memory) ⊎ ((step ≡ Misused) ⊎ (step ≡ UndefinedName)))
      → Tried is_at told setup g old mid (Decide k) step → (step ≡ Memory → is_at g mid.engine) → Still old mid
  undecided old mid k Done (inl why) tried stays = absurd (made why)
    where
      made : Done ≡ CannotHappen → ⊥
      made e = cc
  undecided old mid k Done (inr (inl why)) tried stays = absurd (made why)
    where
      made : Done ≡ Memory → ⊥
      made e = cc
  undecided old mid k Done (inr (inr (inl why))) tried stays = absurd (made why)
    where
      made : Done ≡ Misused → ⊥
      made e = cc
  undecided old mid k Done (inr (inr (inr why))) tried stays = absurd (made why)
    where
      made : Done ≡ UndefinedName → ⊥
      made e = cc
  undecided old mid k SinkFailed why tried stays = absurd (false≢true (tried.2 refl))
  undecided old mid k CannotHappen why tried stays = record { there = tried.0.stays; silent = tried.0.silent; history = tried.1 }
  undecided old mid k Memory why tried stays = record { there = stays refl; silent = tried.0; history = tried.1 }
  undecided old mid k Misused why tried stays = record { there = tried.0.stays; silent = tried.0.silent; history = tried.1 }
  undecided old mid k UndefinedName why tried stays = record { there = tried.0.stays; silent = tried.0.silent; history = tried.1 }

  -- and then the offer is withdrawn
  pub withdrawn : (old : SoloRun E) (mid new : Running E) (k : ℕ) (step : Step) → old.quiet ≡ false → Still old mid → has_ended g ≡ false
      → g.open_offer ≡ Some k → Tried is_at told setup g (with_running old mid) new (Withdraw k) step
      → Turned is_at told setup g (Some (Decide k)) old (with_running old new) step
  withdrawn old mid new k Done unknown still going is tried = record {
    wanted = Decide k;
    event = Withdraw k;
    due = refl;
    stands = inr (k, refl, refl);
    makes = record {
      after = tried.0.after;
      happens = tried.0.happens;
      there = tried.0.there;
      grew = λ before grown. tried.0.grew before (still.silent ∙ grown);
    };
    history = tried.1 ∙ ap (λ es. es ++ Withdraw k ∷ []) still.history;
    last = refl;
    left = none_made old.left;
    quiet = λ is. absurd (false≢true (sym unknown ∙ is));
  }
  withdrawn old mid new k CannotHappen unknown still going is tried =
      let can = withdraws any_rules setup g k going is in absurd (never can.0 (tried.0.never any_rules any_are_rows) can.1)
    where
      never : {A : Type 0} {o : Option A} (a : A) → o ≡ None → o ≡ Some a → ⊥
      never a none some = cc
  withdrawn old mid new k SinkFailed unknown still going is tried = absurd (false≢true (tried.2 refl))
  withdrawn old mid new k Memory unknown still going is tried =
      record { silent = tried.0 ∙ still.silent; history = tried.1 ∙ still.history }
  withdrawn old mid new k Misused unknown still going is tried = absurd (withdraws_only k tried.0.offer tried.0.decides)
  withdrawn old mid new k UndefinedName unknown still going is tried = absurd (withdraws_only k tried.0.offer tried.0.decides)

module _ {E : Type 0} (faults : E → ℕ) where
  -- an event tried where none was made before
  pub kept_still : (old : SoloRun E) (mid new : Running E) (e : Event) (step : Step)
      → vec_capacity old.running.history ≤ vec_capacity mid.history → faults old.running.engine ≤ faults mid.engine
      → mid.history.items ≡ old.running.history.items
      → vec_capacity mid.history ≤ vec_capacity new.history → faults mid.engine ≤ faults new.engine
      → (step ≡ SinkFailed → Rose (faults mid.engine) (faults new.engine))
      → new.history.items ≡ history_after e mid.history.items step → Keeps faults old (with_running old new) step
  kept_still old mid new e step room later same more_room more_later rose history =
      keeps_then faults old (with_running old mid) (with_running old new) step (record {
        room = room;
        later = later;
        rose = λ is. absurd (no_failure is);
        still = λ is. record { history = same; last = refl; left = refl };
        longer = λ is. absurd (not_made is);
      })
      (kept faults (with_running old mid) new e step more_room more_later rose history)
    where
      no_failure : CannotHappen ≡ SinkFailed → ⊥
      no_failure e = cc

      not_made : CannotHappen ≡ Done → ⊥
      not_made e = cc
