-- Laws of typed worlds: the first one of a run is typed, and moves, installs and runs keep it so.
use Rattle.std.specs.Prelude.{◌≡◌, ℕ, List, [], ◌∷◌, ◌++◌, slice_get, Some, None}
use Rattle.std.specs.Option.{option_and_then, option_map_or}
use Rattle.c_tree.specs.declared.def.Def.{Def}
use Rattle.c_semantics.specs.SourceTexts.{Text}
use Rattle.patch_faults.specs.TransformFaults.{first_transform_fault}
use Rattle.source_model.specs.Worlds.{World, Limits, first_world}
use Rattle.source_model.specs.Moves.{move}
use Rattle.source_model.specs.Installs.{installed}
use Rattle.source_model.specs.Runs.{SourceMove, Move, Install, run, start}
use Rattle.version_laws.specs.Histories.{IsHistory, last_text, versions_by}
use Rattle.frame_bodies.specs.AcceptedTexts.{AreAccepted, IsAccepted, definitions_of}
use Rattle.world_laws.specs.Holdings.{HoldsGlobals}
use Rattle.typed_transformers.specs.TransformerTypes.{Follows}
use Rattle.typed_runs.specs.TypedWorlds.{WorldTyped}

-- a world whose versions are those of some texts, and which holds the globals of the last of them
pub record IsWorldOf (texts : List Text) (w : World) : Type 0 where
  pub history : IsHistory (definitions_of texts) w.table
  pub last : w.text ≡ last_text (definitions_of texts)
  pub holds : HoldsGlobals w

-- the first world of an accepted text is typed
abbrev pub FirstWorldTyped : Type 0
FirstWorldTyped =
    (text : Text) (limits : Limits) → IsAccepted text → WorldTyped (text.definitions ∷ []) (first_world text.definitions limits)

-- each move of a typed world of accepted texts leaves a typed world
abbrev pub MovesKeepTypes : Type 0
MovesKeepTypes =
    (texts : List Text) (w after : World) (t : ℕ)
    → AreAccepted texts → IsWorldOf texts w → WorldTyped (definitions_of texts) w → move w t ≡ Some after
    → WorldTyped (definitions_of texts) after

-- so does an install of an accepted text whose transformers have no fault after the last text
abbrev pub InstallsKeepTypes : Type 0
InstallsKeepTypes =
    (texts : List Text) (p q : Text) (w : World)
    → Follows p q → IsWorldOf (texts ++ p ∷ []) w → WorldTyped (definitions_of (texts ++ p ∷ [])) w
    → WorldTyped (definitions_of ((texts ++ p ∷ []) ++ q ∷ [])) (installed q.definitions w)

-- the tree of the text with a number
abbrev pub tree_at : List Text → ℕ → List Def
tree_at texts k = option_map_or (λ t. t.tree.definitions) (slice_get texts k) []

-- the transformers of each text that some moves install have no fault after the text before it; the first follows that of the
-- tree p
abbrev pub FitAfter : List Text → List Def → List SourceMove → Type 0
FitAfter texts p [] = Unit {0}
FitAfter texts p (Move t ∷ ms) = FitAfter texts p ms
FitAfter texts p (Install k ∷ ms) =
    (first_transform_fault p (tree_at texts k) ≡ None) × FitAfter texts (tree_at texts k) ms

-- each world that a run of accepted texts comes to is typed, where the transformers of what it installs have no fault. A text
-- with one may bring the handle of an object of another struct
abbrev pub RunsAreTyped : Type 0
RunsAreTyped =
    (texts : List Text) (limits : Limits) (ms : List SourceMove) (w : World)
    → AreAccepted texts → FitAfter texts (tree_at texts 0) ms
    → option_and_then (run (definitions_of texts) ms) (start (definitions_of texts) limits) ≡ Some w
    → WorldTyped (versions_by (definitions_of texts) ms) w
