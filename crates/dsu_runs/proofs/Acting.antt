-- One turn: what holds of each.
use Rattle.std.proofs.Common.{◌≡◌, ◌⊎◌, inl, inr, ℕ, ◌+◌, ◌-◌, ◌<◌, ◌≤◌, Bool, true, false, List, [], ◌∷◌, Option, Some, None, refl, sym, ◌∙◌, ap, subst, arith, length-append}
use Rattle.std.specs.Prelude.{◌^◌, length, min, vec_capacity, if◌then◌else◌}
use Rattle.std.proofs.Math.Nat.{le-min, min-le_left, min-le_right}
use Rattle.std.proofs.lemmas.Bool.{true≢false}
use Rattle.std.proofs.lemmas.Option.{none-some, same_Some}
use Rattle.dsu_io.specs.Causes.{Rose}
use Rattle.run_types.specs.declared.run.Event.{Event}
use Rattle.source_model.specs.Guards.{Guard, Setup}
use Rattle.source_model.specs.Schedules.{makes_move}
use Rattle.dsu_runs.specs.declared.running.Running.{Running}
use Rattle.dsu_runs.specs.declared.running.Step.{Step}
use Rattle.dsu_runs.specs.declared.running.Step.TheVariants.{Done, CannotHappen, SinkFailed, Memory, Misused, UndefinedName}
use Rattle.dsu_runs.specs.declared.solo_run.SoloRun.{SoloRun}
use Rattle.dsu_runs.specs.Turns.{Keeps, Steps, Turned, history_after}

-- a count that rose since a later moment rose since an earlier one
pub rose_since : (a b c : ℕ) → a ≤ b → Rose b c → Rose a c
rose_since a b c later rose =
    let left = min-le_left (a + 1) (2 ^ 64 - 1) in
    let within : min (a + 1) (2 ^ 64 - 1) ≤ min (b + 1) (2 ^ 64 - 1) =
    le-min (trans_le (min (a + 1) (2 ^ 64 - 1)) (a + 1) (b + 1) left (omega (arith, later))) (min-le_right (a + 1) (2 ^ 64 - 1)) in
    trans_le (min (a + 1) (2 ^ 64 - 1)) (min (b + 1) (2 ^ 64 - 1)) c within rose
  where
    trans_le : (x y z : ℕ) → x ≤ y → y ≤ z → x ≤ z
    trans_le x y z p q = omega (arith, p, q)

-- a run with another engine and history
abbrev pub with_running : {E : Type 0} → SoloRun E → Running E → SoloRun E
with_running old running = record { running = running; last = old.last; left = old.left; quiet = old.quiet }

module _ {E : Type 0} (faults : E → ℕ) where
  -- a turn after turns in which nothing was next
  pub keeps_then : (old mid new : SoloRun E) (step : Step) → Keeps faults old mid CannotHappen → Keeps faults mid new step
      → Keeps faults old new step
  keeps_then old mid new step before after = record {
    room = trans_le (vec_capacity old.running.history) (vec_capacity mid.running.history) (vec_capacity new.running.history) before.room after.room;
    later = trans_le (faults old.running.engine) (faults mid.running.engine) (faults new.running.engine) before.later after.later;
    rose = λ is.
        rose_since (faults old.running.engine) (faults mid.running.engine) (faults new.running.engine) before.later (after.rose is);
    still = λ is.
        let first = before.still refl in
        let second = after.still is in
        record {
          history = second.history ∙ first.history;
          last = second.last ∙ first.last;
          left = second.left ∙ first.left;
        };
    longer = λ is.
        let long = ap length (before.still refl).history in
        let one = after.longer is in
        omega (arith, long, one);
  }
    where
      trans_le : (x y z : ℕ) → x ≤ y → y ≤ z → x ≤ z
      trans_le x y z p q = omega (arith, p, q)

  -- an event that was made, or wasn't
  pub kept : (old : SoloRun E) (new : Running E) (e : Event) (step : Step)
      → vec_capacity old.running.history ≤ vec_capacity new.history → faults old.running.engine ≤ faults new.engine
      → (step ≡ SinkFailed → Rose (faults old.running.engine) (faults new.engine))
      → new.history.items ≡ history_after e old.running.history.items step
      → Keeps faults old (with_running old new) step
  kept old new e step room later rose history = record {
    room = room;
    later = later;
    rose = rose;
    still = λ is.
        record { history = history ∙ ap (history_after e old.running.history.items) is; last = refl; left = refl };
    longer = λ is.
        ap length (history ∙ ap (history_after e old.running.history.items) is)
        ∙ length-append old.running.history.items (e ∷ []);
  }

module _ {E : Type 0} (is_at : Guard → E → Type 0) (told : E → Option (List ℕ)) (setup : Setup) (g : Guard) where
  -- what comes of a turn is what comes of the same with its event named otherwise
  pub turned_by : (a b : Option Event) (old new : SoloRun E) (step : Step) → a ≡ b → Turned is_at told setup g a old new step
      → Turned is_at told setup g b old new step
  turned_by a b old new step is turned = subst (λ o. Turned is_at told setup g o old new step) is turned

  -- the same run with an event tried
  abbrev pub Tried : SoloRun E → Running E → Event → Step → Type 0
  Tried old new e step =
      Steps (λ x. is_at x new.engine) setup e g (told old.running.engine) (told new.engine) step
      × (new.history.items ≡ history_after e old.running.history.items step)
      × (step ≡ SinkFailed → makes_move e ≡ true)
