-- Frames and threads that go on well, by the texts of a run's versions: the values and variables of each frame have the types
-- from which its pending pieces go on well to the end of its function.
use Rattle.std.specs.Prelude.{◌≡◌, ℕ, ◌≤◌, List, [], ◌∷◌, length, Option, Some, None}
use Rattle.c_tree.specs.BareExpr.{Bytes, BareType}
use Rattle.c_tree.specs.BareDef.{BareDef}
use Rattle.c_semantics.specs.Texts.{Definitions, definition, int, result_type}
use Rattle.c_semantics.specs.Threads.{Enter, Frame, Thread}
use Rattle.version_laws.specs.Histories.{text_in}
use Rattle.typed_trees.specs.ValueTypes.{Environment, HaveTypes, ScopesHave}
use Rattle.typed_trees.specs.ExpressionTypes.{IsFunction, parameter_types}
use Rattle.typed_trees.specs.PieceTypes.{GoesOn, Stack, going}

-- the definitions of a version, and the type of a function's result in it; version 1 is the first text
abbrev pub version_in : List (List BareDef) → ℕ → Definitions
version_in texts n = definition (text_in texts n)

abbrev pub result_in : List (List BareDef) → ℕ → Bytes → BareType
result_in texts n function = result_type (version_in texts n function)

-- a frame goes on well under the definitions of its version, to a result of its function's type. The list has the struct tags
-- of all objects so far, by number
pub record FrameTyped (texts : List (List BareDef)) (tags : List Bytes) (f : Frame) : Type 0 where
  pub known : f.version ≤ length texts
  pub goes_on : GoesOn (version_in texts f.version) (result_in texts f.version f.function) tags f.pieces f.values f.scopes

-- a frame that called goes on well once a value of that type is the newest
pub record FrameWaits (texts : List (List BareDef)) (tags : List Bytes) (type : BareType) (f : Frame) : Type 0 where
  pub known : f.version ≤ length texts
  pub stack : Stack
  pub env : Environment
  pub typed : (going (version_in texts f.version) (result_in texts f.version f.function) f.pieces).on (type ∷ stack) env
  pub values_have : HaveTypes tags stack f.values
  pub scopes_have : ScopesHave tags env f.scopes

-- the frames under one that gives a value of a type: each waits for the result of the one above it. The last one gives an int,
-- since it is that of main or of a thread's function
abbrev pub Below : List (List BareDef) → List Bytes → BareType → List Frame → Type 0
Below texts tags type [] = type ≡ int
Below texts tags type (f ∷ below) =
    FrameWaits texts tags type f × Below texts tags (result_in texts f.version f.function) below

-- an enter that is due: in the version that called or spawned it is one of a function, whose parameters the arguments fit
pub record EnterTyped (texts : List (List BareDef)) (tags : List Bytes) (e : Enter) : Type 0 where
  pub known : e.version ≤ length texts
  pub function : IsFunction (version_in texts e.version e.function)
  pub arguments : HaveTypes tags (parameter_types (version_in texts e.version e.function)) e.arguments

-- the frames of a thread, the innermost first, under the enter that is due, where one is
abbrev pub FramesTyped : List (List BareDef) → List Bytes → Option Enter → List Frame → Type 0
FramesTyped texts tags (Some e) frames =
    EnterTyped texts tags e × Below texts tags (result_in texts e.version e.function) frames
FramesTyped texts tags None [] = ⊥
FramesTyped texts tags None (f ∷ below) =
    FrameTyped texts tags f × Below texts tags (result_in texts f.version f.function) below

abbrev pub ThreadTyped : List (List BareDef) → List Bytes → Thread → Type 0
ThreadTyped texts tags th = FramesTyped texts tags th.entering th.frames
