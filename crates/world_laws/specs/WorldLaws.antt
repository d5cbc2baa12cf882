-- Laws of what worlds hold.
use Rattle.std.specs.Prelude.{◌≡◌, ◌≢◌, List, map, AllPairs, Some}
use Rattle.std.specs.Option.{option_and_then}
use Rattle.c_tree.specs.BareDef.{BareDef}
use Rattle.c_semantics.specs.SourceTexts.{Text}
use Rattle.source_model.specs.Worlds.{World, Limits, first_world}
use Rattle.source_model.specs.Installs.{installed}
use Rattle.source_model.specs.Runs.{SourceMove, run, start}
use Rattle.frame_bodies.specs.AcceptedTexts.{IsAccepted, AreAccepted, definitions_of}
use Rattle.world_laws.specs.Holdings.{names_with_cells, HoldsGlobals, NamesEachOnce, HoldsMutexes}

-- in each world that a run comes to, the globals and arrays are named as in the text, whatever the texts are
abbrev pub NamesAreOfTexts : Type 0
NamesAreOfTexts =
    (texts : List (List BareDef)) (limits : Limits) (ms : List SourceMove) (w : World)
    → option_and_then (run texts ms) (start texts limits) ≡ Some w → map (λ g. g.name) w.globals ≡ names_with_cells w.text

-- an accepted text names each of them once
abbrev pub NamedOnce : Type 0
NamedOnce = (text : Text) → IsAccepted text → AllPairs (λ a b. a ≢ b) (names_with_cells text.definitions)

-- the first world holds what its text says, whatever the text is
abbrev pub FirstWorldHolds : Type 0
FirstWorldHolds = (text : List BareDef) (limits : Limits) → HoldsGlobals (first_world text limits) × HoldsMutexes (first_world text limits)

-- and so does the world after an install, where the world before held what its own text says
abbrev pub InstallsHold : Type 0
InstallsHold =
    (q : List BareDef) (w : World)
    → (HoldsGlobals w → HoldsGlobals (installed q w)) × (HoldsMutexes w → HoldsMutexes (installed q w))

-- each world that a run of accepted texts comes to holds what its text says; that is the text of the last version. The texts
-- are accepted, since a move keeps to the text only where the body that it is of types: in others `v = 1` leaves one cell of an
-- array v, `thrd_create(&g, ..)` a thread in an int g, and `mtx_lock(&g)` holds a g that is no mutex
abbrev pub WorldsHold : Type 0
WorldsHold =
    (texts : List Text) (limits : Limits) (ms : List SourceMove) (w : World)
    → AreAccepted texts → option_and_then (run (definitions_of texts) ms) (start (definitions_of texts) limits) ≡ Some w
    → HoldsGlobals w × NamesEachOnce w × HoldsMutexes w
