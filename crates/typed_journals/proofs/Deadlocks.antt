-- In a deadlock each thread that lives waits.
use Rattle.std.proofs.Common.{◌≡◌, ℕ, ◌+◌, ◌<◌, ◌≤◌, ◌&&◌, ◌||◌, ◌⊎◌, inl, inr, not, Bool, true, false, length, Option, Some, None, is_some, get_or, refl, sym, ap, ◌∙◌, arith}
use Rattle.std.proofs.lemmas.Bool.{cases_lt}
use Rattle.std.proofs.lemmas.List.{get_or_past}
use Rattle.std.proofs.lemmas.List.Folds.{list_any_at}
use Rattle.std.proofs.lemmas.List.FromFn.{get_or-range_with_len, length-range_with_len}
use Rattle.run_types.specs.declared.run.Ending.TheVariants.{Deadlock}
use Rattle.c_semantics.specs.Threads.{Thread}
use Rattle.source_model.specs.Worlds.{World, Free, Live, Finish, in_slot, is_over}
use Rattle.source_model.specs.Worlds as world
use Rattle.source_model.specs.Waits.{Waiting, waits_for}
use Rattle.source_model.specs.Runs.{all_slots, can_move, some_can_move}
use Rattle.source_model.specs.Guards.{Guard, has_ended}
use Rattle.source_model.specs.Endings.{ending_by, is_stuck, seats_wait}
use Rattle.accepted_runs.specs.AcceptedRuns.{NoRunMisuses}
use Rattle.progress_laws.specs.ProgressLaws.{GoesOn, moves, waits}
use Rattle.typed_journals.specs.TypedJournals.{DeadlockedThreadsWait, ThreadsOfJournalsGoOn}

-- a run that ends so is stuck, and hasn't ended
pub deadlocked : (stuck : Bool) (f : Option Finish) → ending_by stuck f ≡ Deadlock → (stuck ≡ true) × (f ≡ None)
deadlocked stuck (Some (world.Finished r)) e = cc
deadlocked stuck (Some (world.Trapped kind t)) e = cc
deadlocked true None e = (refl, refl)
deadlocked false None e = cc

-- so no thread of it can move
none_moves : (a b c : Bool) → (a && (b && not c)) ≡ true → c ≡ false
none_moves a b false e = refl
none_moves true true true e = sym e
none_moves true false true e = cc
none_moves false b true e = cc

never : true ≡ false → ⊥
never e = cc

-- a slot with a thread is there
pub within : (w : World) (t : ℕ) (th : Thread) → in_slot w t ≡ Live th → t < length w.slots
within w t th there = by (cases_lt t (length w.slots))
  where
    no : Free ≡ Live th → ⊥
    no e = cc

    by : (t < length w.slots) ⊎ (length w.slots ≤ t) → t < length w.slots
    by (inl h) = h
    by (inr past) = absurd (no (sym (get_or_past w.slots t Free past) ∙ there))

-- one thread that can move is enough
some_moves : (w : World) (t : ℕ) → t < length w.slots → can_move w t ≡ true → some_can_move w ≡ true
some_moves w t h can =
    let count = length-range_with_len 0 (length w.slots) in
    let from_zero : 0 + t ≡ t = omega arith in
    list_any_at (can_move w) (all_slots w) t 0 (omega (arith, h, count))
    (ap (can_move w) (get_or-range_with_len 0 (length w.slots) t 0 h ∙ from_zero) ∙ can)

pub not_over : (w : World) → w.misused ≡ false → w.finish ≡ None → is_over w ≡ false
not_over w right going = ap (λ m. m || is_some w.finish) right ∙ ap is_some going

pub deadlocked_threads_wait : NoRunMisuses → ThreadsOfJournalsGoOn → DeadlockedThreadsWait
deadlocked_threads_wait right goes_on rules setup events g t th rows accepted legal is there =
    let stuck = deadlocked (is_stuck g) g.world.finish is in
    let none = none_moves (not (has_ended g)) (seats_wait g.seats) (some_can_move g.world) stuck.0 in
    by none
    (goes_on rules setup events g t th accepted legal
    (not_over g.world (right rules setup events g rows accepted legal) stuck.1) there)
  where
    by : some_can_move g.world ≡ false → GoesOn g.world t → (what : Waiting) × (waits_for g.world t ≡ Some what)
    by none (waits what e) = (what, e)
    by none (moves after e) =
        absurd (never (sym (some_moves g.world t (within g.world t th there) (ap is_some e)) ∙ none))
