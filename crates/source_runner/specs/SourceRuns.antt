-- What contracts see of a run, and when it is the run of the definitions.
use Rattle.std.specs.Prelude.{◌≡◌, ◌++◌, [], ◌∷◌, List, Option, Some, None, Result, IfOk}
use Rattle.std.specs.Option.{option_and_then}
use Rattle.std.specs.declared.alloc.AllocError.{AllocError}
use Rattle.c_tree.specs.BareDef.{BareDef}
use Rattle.c_tree.specs.declared.def.Program.{Program as Tree}
use Rattle.source_model.specs.Worlds.{World, Limits}
use Rattle.source_model.specs.Runs.{SourceMove, run, start}
use Rattle.source_model.specs.Runs as source
use Rattle.version_laws.specs.Histories.{versions_by}
use Rattle.resolved_tree.specs.Nodes.{Table}
use Rattle.source_programs.specs.Programs as programs
use Rattle.source_programs.specs.Programs.{table_of, texts_of, versions_of}
use Rattle.source_runner.specs.declared.run.SourceMove.{SourceMove as Code}
use Rattle.source_runner.specs.declared.run.SourceMove.TheVariants.{Move}
use Rattle.source_runner.specs.declared.run.Stepped.{Stepped}
use Rattle.source_runner.specs.declared.run.Stepped.TheVariants.{Done, CannotMove}
use Rattle.source_runner.specs.declared.run.SourceRun.{SourceRun}
use Rattle.source_runner.specs.Machines.{Stands}

-- the trees of a run's texts, and the table of its words; neither changes while it runs
abbrev pub trees_of : SourceRun → List Tree
trees_of r = programs.trees_of r.machine.program

abbrev pub words_of : SourceRun → Table
words_of r = table_of r.machine.program

-- a move
abbrev pub move_of : Code → SourceMove
move_of (Move slot) = source.Move slot

-- the world after moves of a run that starts with the first of the texts; none where one can't be made
abbrev pub world_after : List (List BareDef) → Limits → List SourceMove → Option World
world_after texts limits moves = option_and_then (run texts moves) (start texts limits)

-- a run is that of some texts within limits after moves
pub record IsRun (texts : List (List BareDef)) (limits : Limits) (moves : List SourceMove) (r : SourceRun) : Type 0 where
  pub world : World
  pub ran : world_after texts limits moves ≡ Some world
  pub stands : Stands r.machine world
  pub loaded : texts_of r.machine.program ≡ texts
  pub versions : versions_of r.machine.program ≡ versions_by texts moves

-- what a step by a move came to: the move was made, or it can't be made and the run is what it was
abbrev pub CameBy : List (List BareDef) → Limits → List SourceMove → SourceMove → SourceRun → Stepped → Type 0
CameBy texts limits moves m new Done = IsRun texts limits (moves ++ m ∷ []) new
CameBy texts limits moves m new CannotMove =
    IsRun texts limits moves new × (world_after texts limits (moves ++ m ∷ []) ≡ None)

-- the same of an answer to a thread's move, which may also be that memory ran out
pub record Steps (texts : List (List BareDef)) (limits : Limits) (moves : List SourceMove) (m : Code) (new : SourceRun) (r : Result Stepped AllocError) : Type 0 where
  pub came : IfOk r (CameBy texts limits moves (move_of m) new)

-- nothing changed of the texts and of the words
abbrev pub KeepsTexts : SourceRun → SourceRun → Type 0
KeepsTexts old new = (trees_of new ≡ trees_of old) × (words_of new ≡ words_of old)
