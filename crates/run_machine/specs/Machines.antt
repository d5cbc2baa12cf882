-- What is said of a machine that runs texts.
use Rattle.std.specs.Prelude.{◌≡◌, ℕ, [], ◌∷◌, ◌++◌, false, List, length, option_map, Some, None}
use Rattle.c_tree.specs.BareDef.{BareDef}
use Rattle.c_tree.specs.declared.def.Program.{Program}
use Rattle.source_model.specs.Versions.{current}
use Rattle.source_model.specs.Worlds.{World, Limits, in_slot, is_over}
use Rattle.source_model.specs.Runs.{SourceMove, Move, source_run}
use Rattle.source_model.specs.Guards.{move_leads}
use Rattle.version_laws.specs.Histories.{versions_by}
use Rattle.resolved_tree.specs.Nodes.{Table}
use Rattle.source_runner.specs.SourceRuns.{world_after}
use Rattle.source_runner.specs.declared.run.Stepped.{Stepped}
use Rattle.source_runner.specs.declared.run.Stepped.TheVariants.{Done, CannotMove}
use Rattle.run_machine.specs.declared.machine.MoveMade.{MoveMade}
use Rattle.run_machine.specs.declared.machine.Moved.{Moved}
use Rattle.run_machine.specs.declared.machine.Moved.TheVariants as moved

-- of which runs a machine is the one: of these texts within these limits, after these moves. The trees of its texts and the
-- table of its words don't change while it runs. Of so many bytes of its output it has no text any more
pub record Shown : Type 1 where
  pub is_run : List (List BareDef) → Limits → List SourceMove → Type 0
  -- what must hold of the run over these moves, so that a machine that makes the last of them is that run
  pub needs : List (List BareDef) → Limits → List SourceMove → Type 0
  pub trees : List Program
  pub words : Table
  pub kept : ℕ
  -- such a run comes to a world
  pub reached : (texts : List (List BareDef)) (limits : Limits) (moves : List SourceMove) → is_run texts limits moves
      → (w : World) × (world_after texts limits moves ≡ Some w)
  -- whose current version is the last one that was installed
  pub counted : (texts : List (List BareDef)) (limits : Limits) (moves : List SourceMove) (w : World) → is_run texts limits moves
      → world_after texts limits moves ≡ Some w → current w.table ≡ length (versions_by texts moves)

-- what a machine needs of the run over these moves holds, if they can be made
abbrev pub NeedsHold : Shown → List (List BareDef) → Limits → List SourceMove → Type 0
NeedsHold s texts limits moves = (w : World) → world_after texts limits moves ≡ Some w → s.needs texts limits moves

-- what an install came to: it was made, or it can't be made and the run is what it was
abbrev pub CameBy : List (List BareDef) → Limits → List SourceMove → SourceMove → Shown → Stepped → Type 0
CameBy texts limits moves m new Done = new.is_run texts limits (moves ++ m ∷ [])
CameBy texts limits moves m new CannotMove =
    new.is_run texts limits moves × (world_after texts limits (moves ++ m ∷ []) ≡ None)

-- the move of the thread in a slot was made: whether it led to a check-in, and whether it started a thread, is what was answered
pub record HasMoved (texts : List (List BareDef)) (limits : Limits) (moves : List SourceMove) (slot : ℕ) (new : Shown) (made : MoveMade)
    : Type 0 where
  pub run : new.is_run texts limits (moves ++ Move slot ∷ [])
  pub leads : option_map (λ x. is_over x.world) (source_run texts limits moves) ≡ Some false
      → option_map (λ x. move_leads (in_slot x.world slot)) (source_run texts limits moves) ≡ Some made.leads
  pub starts : made.starts ≡ false → option_map (λ x. x.world.threads) (source_run texts limits (moves ++ Move slot ∷ []))
      ≡ option_map (λ x. x.world.threads) (source_run texts limits moves)

-- what the move of the thread in a slot came to: it was made, or it can't be made and the run is what it was
abbrev pub MovedBy : List (List BareDef) → Limits → List SourceMove → ℕ → Shown → Moved → Type 0
MovedBy texts limits moves slot new (moved.Done made) = HasMoved texts limits moves slot new made
MovedBy texts limits moves slot new moved.CannotMove =
    new.is_run texts limits moves × (world_after texts limits (moves ++ Move slot ∷ []) ≡ None)

-- what was enough for a machine still is
abbrev pub NeedsNoMore : Shown → Shown → Type 0
NeedsNoMore old new =
    (texts : List (List BareDef)) (limits : Limits) (moves : List SourceMove) → old.needs texts limits moves
    → new.needs texts limits moves

-- nothing changed of the texts and of the words, and nothing more is needed
abbrev pub KeepsTexts : Shown → Shown → Type 0
KeepsTexts old new = (new.trees ≡ old.trees) × (new.words ≡ old.words) × NeedsNoMore old new

-- a machine is each run that it was, and nothing that is said of it changed
pub record IsSameRun (old new : Shown) : Type 0 where
  pub run : (texts : List (List BareDef)) (limits : Limits) (moves : List SourceMove) → old.is_run texts limits moves
      → new.is_run texts limits moves
  pub texts : KeepsTexts old new
  pub kept : new.kept ≡ old.kept
