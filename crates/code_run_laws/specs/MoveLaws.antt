-- What ties moves of code to those of the source machine.
use Rattle.std.specs.Prelude.{◌≡◌, ℕ, ◌≤◌, ◌-◌, false, List, [], ◌∷◌, ◌++◌, map, length, replicate, All, Contains, Option, Some, None, codes}
use Rattle.std.specs.FinMap.{empty}
use Rattle.c_tree.specs.BareExpr.{Bytes}
use Rattle.c_tree.specs.BareDef.{BareDef}
use Rattle.c_semantics.specs.SourceTexts.{Text}
use Rattle.c_semantics.specs.Texts.{definition, parameters_of, result_type}
use Rattle.c_semantics.specs.Resolution.{resolved_body}
use Rattle.source_model.specs.Worlds.{World, Limits, cells_of, first_world}
use Rattle.source_model.specs.Moves.{move}
use Rattle.source_model.specs.Installs.{installed}
use Rattle.source_model.specs.Waits.{Waiting, waits_for}
use Rattle.frame_bodies.specs.AcceptedTexts.{AreAccepted, definitions_of}
use Rattle.typed_trees.specs.StatementTypes.{BodyTyped}
use Rattle.typed_runs.specs.TypedWorlds.{WorldTyped}
use Rattle.typed_runs.specs.TypedRunLaws.{IsWorldOf}
use Rattle.bytecode.specs.Words.{Naming, word_of}
use Rattle.tree_code.specs.Code.{HaveRoom, body_code}
use Rattle.tree_code.specs.CodeLaws.{HasWords}
use Rattle.code_kinds.specs.WellFormed.{most_variables}
use Rattle.code_runs.specs.CodeData.{Names, number_of, row}
use Rattle.code_runs.specs.CodeThreads.{CodeThread, CodeWorld, Free, Live, starting}
use Rattle.code_runs.specs.CodeMoves.{Moves}
use Rattle.code_runs.specs.CodeWaits.{Stays, Waits, WaitsNext, in_slot}
use Rattle.code_runs.specs.CodeInstalls.{Installs}
use Rattle.code_run_laws.specs.WorldMatches.{Numbers, WorldMatches}

-- the functions of a text have typed bodies, code whose constants are words, and few variables
pub record IsCoded (text : List BareDef) : Type 0 where
  pub typed : (f : Bytes) → let look = definition text in
      BodyTyped look (result_type (look f)) (parameters_of (look f)) (resolved_body look (look f))
  pub room : (f : Bytes) → let look = definition text in
      HaveRoom most_variables (parameters_of (look f) ∷ []) (resolved_body look (look f))
  pub words : (f : Bytes) → let look = definition text in
      HasWords (body_code look (parameters_of (look f)) (result_type (look f)) (resolved_body look (look f)))
  pub few : (f : Bytes) → length (parameters_of (definition text f)) ≤ most_variables

-- a run of accepted texts, by their definitions, is at a world, and so is its code
pub record Stands (texts : List Text) (names : Names) (w : World) (own : CodeWorld) : Type 0 where
  pub accepted : AreAccepted texts
  pub coded : All IsCoded (definitions_of texts)
  pub numbers : All (Numbers names) (definitions_of texts)
  pub of : IsWorldOf texts w
  pub typed : WorldTyped (definitions_of texts) w
  pub matches : WorldMatches (definitions_of texts) names w own

-- no move misuses a definition
abbrev pub UsesWell : World → ℕ → Type 0
UsesWell w t = (after : World) → move w t ≡ Some after → after.misused ≡ false

-- the source machine makes the same move: it prints the same, and the code stands for the world after it
pub record MovesAlike (texts : List Text) (names : Names) (w : World) (t : ℕ) (new : CodeWorld) (printed : List ℕ) : Type 0 where
  pub after : World
  pub moves : move w t ≡ Some after
  pub output : after.output ≡ w.output ++ printed
  pub matches : WorldMatches (definitions_of texts) names after new

-- a move of code is one of the source machine
abbrev pub CodeMovesAlike : Type 0
CodeMovesAlike =
    (texts : List Text) (names : Names) (w : World) (own : CodeWorld) (t : ℕ) (th : CodeThread) (new : CodeWorld) (printed : List ℕ)
    → Stands texts names w own → UsesWell w t → own.finish ≡ None → in_slot own t ≡ Live th
    → WaitsNext (definitions_of texts) names own t th.next None → Moves (definitions_of texts) names own t th new printed
    → MovesAlike texts names w t new printed

-- what a thread of code waits for is what the source machine's thread waits for
abbrev pub CodeWaitsAlike : Type 0
CodeWaitsAlike =
    (texts : List Text) (names : Names) (w : World) (own : CodeWorld) (t : ℕ) (what : Option Waiting)
    → Stands texts names w own → own.finish ≡ None → Waits (definitions_of texts) names own t (in_slot own t) what
    → waits_for w t ≡ what

-- where no move of code can be made, none of the source machine can
abbrev pub CodeStaysAlike : Type 0
CodeStaysAlike =
    (texts : List Text) (names : Names) (w : World) (own : CodeWorld) (t : ℕ)
    → Stands texts names w own → Stays (definitions_of texts) names own t → move w t ≡ None

-- the start of a run of code: each global and array has the words of its first cells, there are no objects, no mutex is held, and
-- main's thread is in the first slot
pub record Starts (text : List BareDef) (limits : Limits) (names : Names) (own : CodeWorld) : Type 0 where
  pub rows : length own.shared.cells ≡ length names.cells
  pub cells : (naming : Naming) (name : Bytes) → Contains names.cells name
      → row own.shared (number_of names.cells name) ≡ map (word_of naming) (cells_of (first_world text limits) name)
  pub objects : own.shared.objects ≡ record { capacity = limits.objects; created = 0; live = empty }
  pub holders : own.shared.holders ≡ replicate (length names.mutexes) None
  pub slots : own.slots
      ≡ Live (starting 0 (record { function = codes "main"; arguments = []; version = 1 })) ∷ replicate (limits.slots - 1) Free
  pub version : own.shared.version ≡ 0
  pub threads : own.threads ≡ 1
  pub finish : own.finish ≡ None

-- it stands for the first world
abbrev pub CodeStartsAlike : Type 0
CodeStartsAlike =
    (text : Text) (limits : Limits) (names : Names) (own : CodeWorld)
    → AreAccepted (text ∷ []) → Numbers names text.definitions → Starts text.definitions limits names own
    → WorldMatches (text.definitions ∷ []) names (first_world text.definitions limits) own

-- the install of a newer text, whatever that is, leaves code that stands for the world after it
abbrev pub CodeInstallsAlike : Type 0
CodeInstallsAlike =
    (texts : List Text) (q : Text) (names : Names) (w : World) (own new : CodeWorld)
    → Stands texts names w own → Installs (definitions_of texts) names q.definitions own new
    → WorldMatches (definitions_of (texts ++ q ∷ [])) names (installed q.definitions w) new
