-- How a turn finds that the run is over.
use Rattle.std.proofs.Common.{◌≡◌, ℕ, Bool, true, false, List, Option, Some, None, refl, sym, ◌∙◌, ap, eq-eqb}
use Rattle.std.specs.Prelude.{◌&&◌, ◌||◌, ◌==◌, if◌then◌else◌}
use Rattle.std.specs.Option.{is_none, is_some}
use Rattle.std.proofs.lemmas.Bool.{false≢true}
use Rattle.std.proofs.lemmas.Option.{none-some, same_Some}
use Rattle.run_types.specs.declared.run.Event.{Event}
use Rattle.run_types.specs.declared.run.Ending.{Ending}
use Rattle.run_types.specs.declared.run.Ending.TheVariants.{Cut, Deadlock}
use Rattle.source_model.specs.Worlds.{Finish}
use Rattle.source_model.specs.Worlds as world
use Rattle.source_model.specs.Guards.{Guard, Setup, has_ended}
use Rattle.source_model.specs.Schedules.{due, move_count}
use Rattle.source_model.specs.Endings.{ending, ending_by, ends, int_ending, is_stuck, no_offer_waits, run_ending}
use Rattle.dsu_runs.specs.Engines.{finish_of}

finish_by : (b : Bool) (o : Option Finish) (e : Ending) → Some e ≡ finish_of o → (is_some o ≡ true) × (e ≡ int_ending (ending_by b o))
finish_by b None e is = absurd (none-some e (sym is))
finish_by b (Some (world.Finished r)) e is = (refl, same_Some e (int_ending (ending_by b (Some (world.Finished r)))) is)
finish_by b (Some (world.Trapped kind t)) e is = (refl, same_Some e (int_ending (ending_by b (Some (world.Trapped kind t)))) is)

-- the run has finished or trapped
pub finishes : (g : Guard) (e : Ending) → Some e ≡ finish_of g.world.finish → (has_ended g ≡ true) × (e ≡ int_ending (ending g))
finishes g e is = finish_by (is_stuck g) g.world.finish e is

pub goes : (g : Guard) → None ≡ finish_of g.world.finish → has_ended g ≡ false
goes g is = by g.world.finish is
  where
    by : (o : Option Finish) → None ≡ finish_of o → is_some o ≡ false
    by None is = refl
    by (Some (world.Finished r)) is = absurd (none-some (int_ending (ending_by false (Some (world.Finished r)))) is)
    by (Some (world.Trapped kind t)) is = absurd (none-some (int_ending (ending_by false (Some (world.Trapped kind t)))) is)

-- an ending where a run ends
ended_by : (over stuck waits made : Bool) → (over || (if stuck then waits else made)) ≡ true → (e : Ending)
    → (if over || (if stuck then waits else made) then Some e else None) ≡ Some e
ended_by over stuck waits made is e = ap (λ b. if b then Some e else None) is

pub ended_there : (setup : Setup) (n : ℕ) (events : List Event) (g : Guard) → ends setup n events g ≡ true
    → run_ending setup n events g ≡ Some (ending g)
ended_there setup n events g is = ap (λ b. if b then Some (ending g) else None) is

pub ends_finished : (setup : Setup) (n : ℕ) (events : List Event) (g : Guard) → has_ended g ≡ true → ends setup n events g ≡ true
ends_finished setup n events g is = ap (λ b. b || (if is_stuck g then no_offer_waits setup g else move_count events == n)) is

-- no move is left, and the run isn't stuck
pub ends_cut : (setup : Setup) (n : ℕ) (events : List Event) (g : Guard) → is_stuck g ≡ false → move_count events ≡ n → ends setup n events g ≡ true
ends_cut setup n events g goes made =
    ap (λ b. has_ended g || (if b then no_offer_waits setup g else move_count events == n)) goes
    ∙ ap (λ b. has_ended g || b) (eq-eqb (move_count events) n made)
    ∙ or_true (has_ended g)
  where
    or_true : (b : Bool) → (b || true) ≡ true
    or_true true = refl
    or_true false = refl

-- it is stuck, and no offer is open or due
pub ends_stuck : (setup : Setup) (n : ℕ) (events : List Event) (g : Guard) → is_stuck g ≡ true → g.open_offer ≡ None → due setup g ≡ None
    → ends setup n events g ≡ true
ends_stuck setup n events g stuck open_none due_none =
    ap (λ b. has_ended g || (if b then no_offer_waits setup g else move_count events == n)) stuck
    ∙ (λ i. has_ended g || (is_none (open_none i) && is_none (due_none i)))
    ∙ or_true (has_ended g)
  where
    or_true : (b : Bool) → (b || true) ≡ true
    or_true true = refl
    or_true false = refl

-- how a run ends that hasn't finished
unfinished : (b : Bool) (o : Option Finish) → is_some o ≡ false → ending_by b o ≡ (if b then Deadlock else Cut)
unfinished b None is = refl
unfinished b (Some f) is = absurd (false≢true (sym is))

pub is_deadlock : (g : Guard) → has_ended g ≡ false → is_stuck g ≡ true → Deadlock ≡ int_ending (ending g)
is_deadlock g going stuck = sym (ap int_ending (unfinished (is_stuck g) g.world.finish going ∙ ap (λ b. if b then Deadlock else Cut) stuck))

pub is_cut : (g : Guard) → has_ended g ≡ false → is_stuck g ≡ false → Cut ≡ int_ending (ending g)
is_cut g going goes = sym (ap int_ending (unfinished (is_stuck g) g.world.finish going ∙ ap (λ b. if b then Deadlock else Cut) goes))
