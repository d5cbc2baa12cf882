-- What the schedules hand back is what a plan has.
use Rattle.std.proofs.Common.{◌≡◌, ◌⊎◌, inl, inr, ℕ, ◌≤◌, List, Option, IsTrue, subst, arith}
use Rattle.std.specs.Prelude.{reverse}
use Rattle.std.proofs.lemmas.List.{reverse-reverse}
use Rattle.dsu_io.specs.Causes.{Rose}
use Rattle.run_types.specs.declared.run.Event.{Event}
use Rattle.source_model.specs.Guards.{Guard, Setup}
use Rattle.source_model.specs.Schedules.{is_prompt}
use Rattle.source_model.specs.ScheduleLaws.{SoloIsPrompt}
use Rattle.dsu_runs.specs.declared.ran.Ran.{Ran}
use Rattle.dsu_runs.specs.declared.ran.StopCause.{StopCause}
use Rattle.dsu_runs.specs.declared.ran.StopCause.TheVariants.{Ended, SinkFailed, CannotHappen, Memory, Misused, UndefinedName}
use Rattle.dsu_runs.specs.Replays.{Replayed, StoppedReplay}
use Rattle.dsu_runs.specs.Solo.{RanSolo, StoppedSolo}
use Rattle.job_answers.specs.Plans.{BySchedule, ByJournal}
use Rattle.reported_runs.specs.Schedules.{RanBy, StoppedBy}

module _ {T : Type 0} (setup : Setup) (is_at : Guard → T → Type 0) (told : T → Option (List ℕ)) (faults : T → ℕ) (engine : T) where
  solo_stopped : (moves : ℕ) (ran : Ran T) (g : Guard) (cause : StopCause) → StoppedSolo setup is_at told faults engine moves ran g cause
      → StoppedBy (BySchedule moves) setup is_at told faults engine ran g cause
  solo_stopped moves ran g (Ended end) s = record { ends = s.ends; ending = s.ending; there = s.there; printed = s.printed }
  solo_stopped moves ran g SinkFailed s = s
  solo_stopped moves ran g (CannotHappen line) s = absurd s
  solo_stopped moves ran g Memory s = s
  solo_stopped moves ran g (Misused line) s = absurd s
  solo_stopped moves ran g (UndefinedName line) s = absurd s

  pub ran_by_schedule : SoloIsPrompt → (moves : ℕ) (ran : Ran T) → RanSolo setup is_at told faults engine moves ran
      → RanBy (BySchedule moves) setup is_at told faults engine ran
  ran_by_schedule prompt moves ran at = record {
    guard = at.guard;
    legal = at.legal;
    follows = record {
      last = at.last;
      solo = at.solo;
      prompt = λ rules are.
          subst {A = List Event} (λ es. IsTrue (is_prompt rules setup es)) (reverse-reverse ran.history.items)
          (prompt rules setup (reverse ran.history.items) at.guard at.last (at.solo rules are));
      most = at.most;
      begun = at.begun;
    };
    stopped = solo_stopped moves ran at.guard ran.cause at.stopped;
  }

  solo_stops : (moves : ℕ) (ran : Ran T) (cause : StopCause) → ran.cause ≡ cause → (at : RanSolo setup is_at told faults engine moves ran)
      → StoppedSolo setup is_at told faults engine moves ran at.guard cause
  solo_stops moves ran cause is at = subst (StoppedSolo setup is_at told faults engine moves ran at.guard) is at.stopped

  -- no print fails where the sink counts no fault
  pub no_print_fails : (moves : ℕ) (ran : Ran T) → ((e : T) → faults e ≡ 0) → RanSolo setup is_at told faults engine moves ran
      → ran.cause ≡ SinkFailed → ⊥
  no_print_fails moves ran none at is =
      let failed = solo_stops moves ran SinkFailed is at in
      never (subst {A = ℕ} (λ now. Rose 0 now) (none ran.engine) (subst {A = ℕ} (λ before. Rose before (faults ran.engine)) (none engine) failed.rose))
    where
      never : 1 ≤ 0 → ⊥
      never rose = omega (arith, rose)

  -- the schedule stops at no event
  pub stops_at_no_event : (moves : ℕ) (ran : Ran T) (line : ℕ) → RanSolo setup is_at told faults engine moves ran
      → (ran.cause ≡ CannotHappen line) ⊎ ((ran.cause ≡ Misused line) ⊎ (ran.cause ≡ UndefinedName line)) → ⊥
  stops_at_no_event moves ran line at (inl is) = solo_stops moves ran (CannotHappen line) is at
  stops_at_no_event moves ran line at (inr (inl is)) = solo_stops moves ran (Misused line) is at
  stops_at_no_event moves ran line at (inr (inr is)) = solo_stops moves ran (UndefinedName line) is at

  replay_stopped : (lines : List (ℕ × Event)) (ran : Ran T) (g : Guard) (cause : StopCause)
      → StoppedReplay setup is_at told faults engine lines ran g cause
      → StoppedBy (ByJournal lines) setup is_at told faults engine ran g cause
  replay_stopped lines ran g (Ended end) s = record { ends = s.all; ending = s.ending; there = s.there; printed = s.printed }
  replay_stopped lines ran g SinkFailed s = s
  replay_stopped lines ran g (CannotHappen line) s =
      record { impossible = record { event = s.event; next = s.next; never = s.never }; printed = s.printed }
  replay_stopped lines ran g Memory s = s
  replay_stopped lines ran g (Misused line) s = s.misused
  replay_stopped lines ran g (UndefinedName line) s = (s.offer, s.undefined)

  pub ran_by_journal : (lines : List (ℕ × Event)) (ran : Ran T) → Replayed setup is_at told faults engine lines ran
      → RanBy (ByJournal lines) setup is_at told faults engine ran
  ran_by_journal lines ran at = record {
    guard = at.guard;
    legal = at.legal;
    follows = at.made;
    stopped = replay_stopped lines ran at.guard ran.cause at.stopped;
  }
