-- When the plain engine is at a guard, and what it hands to its sink.
use Rattle.std.specs.Prelude.{◌≡◌, ℕ, ◌<◌, ◌≤◌, ◌==◌, List, [], ◌∷◌, ◌++◌, map, length, take, drop, count_by, slice_get, Option, Some, false}
use Rattle.std.specs.Io.KnownBytes.{Appends}
use Rattle.c_tree.specs.declared.def.Program.{Program}
use Rattle.c_semantics.specs.SourceTexts.{Text, text_of}
use Rattle.source_model.specs.Worlds.{in_slot, is_over}
use Rattle.source_model.specs.Runs.{SourceMove}
use Rattle.source_model.specs.Guards.{Guard, Setup, bodies_of, has_ended, lines_written}
use Rattle.source_model.specs.Guards as guard
use Rattle.source_model.specs.JournalLaws.{texts_of}
use Rattle.version_laws.specs.Histories.{versions_by}
use Rattle.source_runner.specs.SourceRuns.{world_after}
use Rattle.run_machine.specs.Machines.{Shown}
use Rattle.installed_versions.specs.Installed.{HasItsRows, IsInstalled}
use Rattle.installed_versions.specs.declared.installed.Installed.{Installed}
use Rattle.dsu_runs.specs.Books.{Entries, IsBook}
use Rattle.dsu_runs.specs.declared.engine.Turn.{Turn}
use Rattle.dsu_runs.specs.declared.engine.Turn.TheVariants as turn
use Rattle.dsu_runs.specs.declared.engine.Made.{Made}
use Rattle.dsu_runs.specs.declared.engine.Made.TheVariants.{Done, CannotHappen, SinkFailed}
use Rattle.plain_engine.specs.declared.seat.Seat.{Seat}
use Rattle.plain_engine.specs.declared.state.State.{State}
use Rattle.plain_engine.specs.Kept.{IsSeat}
use Rattle.plain_engine.specs.Needs.{IsReached, MeetsNeeds}

-- a run has the texts of a setup, and is that of the moves that come to the guard's world
pub record IsRunAt (setup : Setup) (g : Guard) (r : Shown) : Type 0 where
  pub moves : List SourceMove
  pub run : r.is_run (texts_of setup) setup.limits moves
  pub world : world_after (texts_of setup) setup.limits moves ≡ Some g.world
  pub trees : map text_of r.trees ≡ setup.first ∷ map (λ o. o.text) setup.offers
  pub versions : versions_by (texts_of setup) moves ≡ map (λ t. t.definitions) g.versions

-- what is kept of the slots is what a guard has of them, as long as the run goes on
pub record AreSeats (g : Guard) (r : Shown) (seats : List Seat) : Type 0 where
  pub many : length g.seats ≡ 16
  pub each : has_ended g ≡ false → (n : ℕ) (kept : Seat) (own : guard.Seat) → slice_get seats n ≡ Some kept
      → slice_get g.seats n ≡ Some own
      → IsSeat r.words (bodies_of g) (length g.versions) (is_over g.world) (in_slot g.world n) kept own

-- the versions are those of a guard, the last of them is the run's text with this number, and rows that are kept are theirs
pub record AreInstalled (g : Guard) (r : Shown) (i : Installed) (last : ℕ) : Type 0 where
  pub installed : IsInstalled g.versions i.count i.names i.store
  pub before : List Text
  pub tree : Program
  pub numbered : slice_get r.trees last ≡ Some tree
  pub last_is : g.versions ≡ before ++ text_of tree ∷ []
  pub rows : HasItsRows i

-- what is said of a state: what is said of its machine, and what is kept beside it
pub record ShownState : Type 1 where
  pub run : Shown
  pub seats : List Seat
  pub installed : Installed
  pub last : ℕ
  pub book : Entries

abbrev pub state_shown : {M : Type 0} → (M → Shown) → State M → ShownState
state_shown shown s = record { run = shown s.run; seats = s.seats; installed = s.installed; last = s.last; book = s.book }

-- the state is at a guard that a legal journal comes to, and the runs of the setup have what its machine needs
pub record IsStateAt (setup : Setup) (g : Guard) (s : ShownState) : Type 0 where
  pub run : IsRunAt setup g s.run
  pub seats : AreSeats g s.run s.seats
  pub versions : AreInstalled g s.run s.installed s.last
  pub book : IsBook setup g s.installed.names s.book
  pub reached : IsReached setup g
  pub meets : MeetsNeeds s.run.needs setup

-- and so many bytes and lines were printed as the sink has; the machine has the text of what the sink hasn't
pub record IsEngineAt (setup : Setup) (g : Guard) (s : ShownState) (sent lines : ℕ) : Type 0 where
  pub state : IsStateAt setup g s
  pub kept : s.run.kept ≤ sent
  pub printed : sent ≡ length g.world.output
  pub written : lines ≡ lines_written g.world

-- the same of an engine over a machine of which this is said
abbrev pub IsAt : {M : Type 0} → (M → Shown) → Setup → Guard → State M → ℕ → ℕ → Type 0
IsAt shown setup g s sent lines = IsEngineAt setup g (state_shown shown s) sent lines

-- what came of handing to a sink what is after so many bytes of an output: all of it was appended, or a shorter prefix
abbrev pub Wrote : List ℕ → ℕ → Option (List ℕ) → Option (List ℕ) → ℕ → Made → Type 0
Wrote output printed told now new Done = (new ≡ length output) × Appends told now (drop printed output)
Wrote output printed told now new SinkFailed =
    (n : ℕ) × (n < length (drop printed output)) × Appends told now (take n (drop printed output))
Wrote output printed told now new CannotHappen = ⊥

-- how many lines end in some bytes
abbrev pub lines_among : List ℕ → ℕ
lines_among bytes = count_by (λ c. c == 10) bytes

-- what a turn came to in which the thread in a slot moved, to a guard, where so many bytes were printed before
abbrev pub IsTurnAfter : ℕ → Guard → ℕ → Turn → Type 0
IsTurnAfter slot g printed (turn.Moved t) = (t ≡ slot) × (has_ended g ≡ false) × (length g.world.output ≡ printed)
IsTurnAfter slot g printed (turn.Changed t) = t ≡ slot
IsTurnAfter slot g printed (turn.CheckedIn t) = ⊥
IsTurnAfter slot g printed (turn.SinkFailed t) = ⊥
IsTurnAfter slot g printed turn.NoneActs = ⊥
