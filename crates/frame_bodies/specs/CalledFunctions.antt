-- In an accepted text each name that is called or spawned is a function.
use Rattle.std.specs.Prelude.{◌≡◌, ℕ, true, Some}
use Rattle.run_types.specs.Skeleton.{Skeleton, IsCall, Spawn, kind_at}
use Rattle.c_tree.specs.BareExpr.{Bytes}
use Rattle.c_semantics.specs.Skeletons.{skeleton_of}
use Rattle.c_semantics.specs.SourceTexts.{Text}
use Rattle.frame_bodies.specs.AcceptedTexts.{IsAccepted, is_function, looked_up}

-- the skeleton of a function under the definitions of its text
abbrev pub skeleton_in : Text → Bytes → Skeleton
skeleton_in text function = skeleton_of (looked_up text) (looked_up text function)

abbrev pub CalledAreFunctions : Type 0
CalledAreFunctions =
    (text : Text) (function name : Bytes) (n : ℕ)
    → IsAccepted text → IsCall (skeleton_in text function) n name → is_function (looked_up text name) ≡ true

abbrev pub SpawnedAreFunctions : Type 0
SpawnedAreFunctions =
    (text : Text) (function name : Bytes) (n : ℕ)
    → IsAccepted text → kind_at (skeleton_in text function) n ≡ Some (Spawn name) → is_function (looked_up text name) ≡ true
