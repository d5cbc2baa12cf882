-- When frames of words stand for the frames of a thread of the source machine, by the texts of a run's versions.
use Rattle.std.specs.Prelude.{◌≡◌, ℕ, ◌≤◌, List, [], ◌∷◌, map, length, Option, Some, None}
use Rattle.c_tree.specs.BareExpr.{Bytes, BareType}
use Rattle.c_tree.specs.BareDef.{BareDef}
use Rattle.c_semantics.specs.Texts.{Definitions, int}
use Rattle.c_semantics.specs.Values.{Value}
use Rattle.c_semantics.specs.Pieces.{Piece, Scopes, Halt, Stopped, Trapped, Nothing, At as StopAt}
use Rattle.c_semantics.specs.Threads.{Enter, Frame, Thread, next_of}
use Rattle.source_model.specs.Worlds.{Slot}
use Rattle.source_model.specs.Worlds as world
use Rattle.typed_trees.specs.ValueTypes.{Environment, HasType, HaveTypes, ScopesHave}
use Rattle.typed_trees.specs.PieceTypes.{Stack}
use Rattle.typed_runs.specs.TypedFrames.{EnterTyped, result_in, version_in}
use Rattle.bytecode.specs.Words.{Naming, word_of}
use Rattle.bytecode.specs.Meaning.{State, step, Traps}
use Rattle.tree_code.specs.Ranges.{Ranged, AllRanged}
use Rattle.tree_code.specs.Code.{Code}
use Rattle.tree_code.specs.CodedPieces.{At, Stops, coding}
use Rattle.tree_code.specs.CodeLaws.{Holds, Matches, variables_in}
use Rattle.code_kinds.specs.WellFormed.{most_variables}
use Rattle.code_runs.specs.CodeThreads.{CodeFrame, CodeEnter, CodeNext, CodeThread, CodeSlot, Enters, Rests, Free, Live, Over}
use Rattle.code_runs.specs.CodeMoves.{code_in}

-- a frame that called: it matches once a value of that type is the newest
pub record Awaits (code : Code) (look : Definitions) (result : BareType) (tags : List Bytes) (naming : Naming) (type : BareType)
    (ps : List Piece) (values : List Value) (scopes : Scopes) (s : State) : Type 0 where
  pub stack : Stack
  pub env : Environment
  pub coded : (coding code most_variables look result ps).on (type ∷ stack) env (At s.place)
  pub values_have : HaveTypes tags stack values
  pub scopes_have : ScopesHave tags env scopes
  pub ranged : AllRanged values
  pub words : s.stack ≡ map (word_of naming) values
  pub variables : Holds naming (variables_in scopes) s.locals
  pub room : length s.locals ≡ most_variables

-- a frame whose private instructions were executed rests where local evaluation ends: at the same stop with the same values and
-- variables, or at the same trap
abbrev pub RestsSo : Code → Definitions → BareType → List Bytes → Naming → Halt → State → Type 0
RestsSo code look result tags naming (Stopped s n rest values scopes) at =
    (after : ℕ) × (Stops code s n at.place after
    × Matches code most_variables look result tags naming (StopAt s n ∷ rest) values scopes at)
RestsSo code look result tags naming (Trapped kind) at = step code at ≡ Traps kind
RestsSo code look result tags naming Nothing at = ⊥

-- slots are alike in what lives or ended there: the number of the thread, and in how many transactions it is
abbrev pub SlotStands : Slot → CodeSlot → Type 0
SlotStands world.Free Free = Unit {0}
SlotStands (world.Live th) (Live own) = (own.serial ≡ th.serial) × (own.depth ≡ th.depth)
SlotStands (world.Over serial v) (Over own w) = own ≡ serial
SlotStands _ _ = ⊥

abbrev pub SlotsStand : List Slot → List CodeSlot → Type 0
SlotsStand [] [] = Unit {0}
SlotsStand (s ∷ ss) (own ∷ owns) = SlotStands s own × SlotsStand ss owns
SlotsStand _ _ = ⊥

module _ (texts : List (List BareDef)) (tags : List Bytes) (naming : Naming) where
  -- the frames are of one function, entered under one version, and last stopped at one point
  pub record IsSame (f : Frame) (own : CodeFrame) : Type 0 where
    pub function : own.function ≡ f.function
    pub version : own.version ≡ f.version
    pub standing : own.standing ≡ f.standing
    pub known : f.version ≤ length texts

  abbrev code_of : Frame → Code
  code_of f = code_in texts f.version f.function

  -- the innermost frame, and a frame that waits
  abbrev pub FrameRests : Frame → CodeFrame → Type 0
  FrameRests f own =
      IsSame f own
      × RestsSo (code_of f) (version_in texts f.version) (result_in texts f.version f.function) tags naming (next_of f) own.state

  abbrev pub FrameAwaits : BareType → Frame → CodeFrame → Type 0
  FrameAwaits type f own =
      IsSame f own
      × Awaits (code_of f) (version_in texts f.version) (result_in texts f.version f.function) tags naming type f.pieces f.values f.scopes own.state

  -- the frames under one that gives a value of a type
  abbrev pub BelowMatch : BareType → List Frame → List CodeFrame → Type 0
  BelowMatch type [] [] = type ≡ int
  BelowMatch type (f ∷ fs) (own ∷ owns) = FrameAwaits type f own × BelowMatch (result_in texts f.version f.function) fs owns
  BelowMatch type _ _ = ⊥

  -- an enter that is due
  pub record EnterMatches (e : Enter) (own : CodeEnter) : Type 0 where
    pub function : own.function ≡ e.function
    pub version : own.version ≡ e.version
    pub typed : EnterTyped texts tags e
    pub arguments : own.arguments ≡ map (word_of naming) e.arguments
    pub ranged : AllRanged e.arguments

  -- what a thread does next, over its frames that wait
  abbrev pub NextMatches : Option Enter → List Frame → CodeNext → List CodeFrame → Type 0
  NextMatches (Some e) fs (Enters own) owns = EnterMatches e own × BelowMatch (result_in texts e.version e.function) fs owns
  NextMatches None (f ∷ fs) (Rests own) owns = FrameRests f own × BelowMatch (result_in texts f.version f.function) fs owns
  NextMatches _ fs own owns = ⊥

  pub record ThreadMatches (th : Thread) (own : CodeThread) : Type 0 where
    pub serial : own.serial ≡ th.serial
    pub depth : own.depth ≡ th.depth
    pub next : NextMatches th.entering th.frames own.next own.below

  -- what is in a slot
  abbrev pub SlotMatches : Slot → CodeSlot → Type 0
  SlotMatches world.Free Free = Unit {0}
  SlotMatches (world.Live th) (Live own) = ThreadMatches th own
  SlotMatches (world.Over serial v) (Over own w) = (own ≡ serial) × ((w ≡ word_of naming v) × (Ranged v × HasType tags int v))
  SlotMatches _ _ = ⊥

  abbrev pub SlotsMatch : List Slot → List CodeSlot → Type 0
  SlotsMatch [] [] = Unit {0}
  SlotsMatch (s ∷ ss) (own ∷ owns) = SlotMatches s own × SlotsMatch ss owns
  SlotsMatch _ _ = ⊥
