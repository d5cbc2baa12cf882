-- Types along legal journals: whatever is offered and decided, moved and installed.
use Rattle.std.specs.Prelude.{◌≡◌, ℕ, false, List, Some}
use Rattle.run_types.specs.declared.run.Event.{Event}
use Rattle.run_types.specs.declared.run.Ending.TheVariants.{Deadlock}
use Rattle.c_semantics.specs.Threads.{Thread}
use Rattle.effects.specs.Rows.{AreRows}
use Rattle.source_model.specs.Worlds.{Live, in_slot, is_over}
use Rattle.source_model.specs.Waits.{Waiting, waits_for}
use Rattle.source_model.specs.Guards.{Guard, Rules, Setup}
use Rattle.source_model.specs.Journals.{guard_after}
use Rattle.source_model.specs.Endings.{ending, int_ending}
use Rattle.frame_bodies.specs.AcceptedTexts.{definitions_of}
use Rattle.accepted_runs.specs.AcceptedRuns.{TextsAreAccepted}
use Rattle.typed_runs.specs.TypedWorlds.{WorldTyped}
use Rattle.progress_laws.specs.ProgressLaws.{GoesOn}

-- the world of each guard that a legal journal comes to is typed by the versions so far, where the first text and those of the
-- offers are accepted. A text whose transformers have a fault is no patch, so none is installed
abbrev pub JournalsAreTyped : Type 0
JournalsAreTyped =
    (rules : Rules) (setup : Setup) (events : List Event) (g : Guard)
    → TextsAreAccepted setup → guard_after rules setup events ≡ Some g → WorldTyped (definitions_of g.versions) g.world

-- what main returned is an int: the conversion to one leaves the ending as it is
abbrev pub MainsResultIsAnInt : Type 0
MainsResultIsAnInt =
    (rules : Rules) (setup : Setup) (events : List Event) (g : Guard)
    → TextsAreAccepted setup → guard_after rules setup events ≡ Some g → int_ending (ending g) ≡ ending g

-- as long as it isn't over, each thread that lives makes its next move or waits. A check-in that holds up a thread is no part of
-- its moves
abbrev pub ThreadsOfJournalsGoOn : Type 0
ThreadsOfJournalsGoOn =
    (rules : Rules) (setup : Setup) (events : List Event) (g : Guard) (t : ℕ) (th : Thread)
    → TextsAreAccepted setup → guard_after rules setup events ≡ Some g → is_over g.world ≡ false → in_slot g.world t ≡ Live th
    → GoesOn g.world t

-- in a deadlock each thread that lives waits, for a mutex that another thread holds or for a thread that it joins, over rules
-- whose rows are those of the definitions of effects
abbrev pub DeadlockedThreadsWait : Type 0
DeadlockedThreadsWait =
    (rules : Rules) (setup : Setup) (events : List Event) (g : Guard) (t : ℕ) (th : Thread)
    → AreRows rules.row → TextsAreAccepted setup → guard_after rules setup events ≡ Some g
    → ending g ≡ Deadlock → in_slot g.world t ≡ Live th
    → (what : Waiting) × (waits_for g.world t ≡ Some what)
