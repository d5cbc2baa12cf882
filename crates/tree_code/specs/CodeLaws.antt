-- What ties code to local evaluation: code does what the tree does that it was made of.
use Rattle.std.specs.Prelude.{◌≡◌, ℕ, ◌^◌, ◌<◌, List, [], ◌∷◌, ◌++◌, map, length, slice_get, Some}
use Rattle.run_types.specs.declared.trap.TrapKind.{TrapKind}
use Rattle.c_tree.specs.BareExpr.{Bytes, BareType}
use Rattle.c_tree.specs.BareDef.{BareBinding}
use Rattle.c_semantics.specs.Texts.{Definitions}
use Rattle.c_semantics.specs.Values.{Value}
use Rattle.c_semantics.specs.Resolved.{Statements}
use Rattle.c_semantics.specs.Stops.{Stop}
use Rattle.c_semantics.specs.Pieces.{Piece, Variable, Scopes, Halt, At as StopAt, Stopped, Trapped, Nothing}
use Rattle.c_semantics.specs.Evaluation.{local}
use Rattle.c_semantics.specs.Threads.{body_pieces}
use Rattle.typed_trees.specs.ValueTypes.{Environment, HaveTypes, ScopeHas, ScopesHave}
use Rattle.typed_trees.specs.StatementTypes.{BodyTyped}
use Rattle.typed_trees.specs.PieceTypes.{Stack, StopTyped}
use Rattle.bytecode.specs.declared.kind.ValueKind.{ValueKind}
use Rattle.bytecode.specs.Words.{Naming, Distinguishes, word_of}
use Rattle.bytecode.specs.Instructions.{Constant}
use Rattle.bytecode.specs.Meaning.{State, Runs, step, Traps}
use Rattle.tree_code.specs.Ranges.{Ranged, AllRanged}
use Rattle.tree_code.specs.Code.{Code, HaveRoom, body_code}
use Rattle.tree_code.specs.CodedPieces.{At, Stops, coding}

-- each constant of some code is a word
abbrev pub HasWords : Code → Type 0
HasWords code = (p : ℕ) (kind : ValueKind) (w : ℕ) → slice_get code p ≡ Some (Constant kind w) → w < 2 ^ 64

-- the words of variables: that of the first one declared is the first, and so on
abbrev pub Holds : Naming → List Variable → List ℕ → Type 0
Holds names [] locals = Unit {0}
Holds names (v ∷ vs) locals = (slice_get locals (length vs) ≡ Some (word_of names v.value)) × Ranged v.value × Holds names vs locals

-- the variables of all scopes, the innermost first
abbrev pub variables_in : Scopes → List Variable
variables_in [] = []
variables_in (variables ∷ scopes) = variables ++ variables_in scopes

-- a frame of code matches one of the source machine, with what it has still to evaluate, its values and its variables. The
-- code is that of a function with a result of that type, which has so many variables at most, under the definitions of its
-- version; the tags are those of the structs of all objects so far
pub record Matches (code : Code) (most : ℕ) (look : Definitions) (result : BareType) (tags : List Bytes) (names : Naming)
    (ps : List Piece) (values : List Value) (scopes : Scopes) (s : State) : Type 0 where
  pub stack : Stack
  pub env : Environment
  pub coded : (coding code most look result ps).on stack env (At s.place)
  pub values_have : HaveTypes tags stack values
  pub scopes_have : ScopesHave tags env scopes
  pub ranged : AllRanged values
  pub words : s.stack ≡ map (word_of names) values
  pub variables : Holds names (variables_in scopes) s.locals
  pub room : length s.locals ≡ most

-- private instructions come to a stop, after which control goes on at a place; the frame matches there
pub record ComesToStop (code : Code) (most : ℕ) (look : Definitions) (result : BareType) (tags : List Bytes) (names : Naming)
    (s : Stop) (n : ℕ) (rest : List Piece) (values : List Value) (scopes : Scopes) (from : State) : Type 0 where
  pub to : State
  pub after : ℕ
  pub runs : Runs code from to
  pub stands : Stops code s n to.place after
  pub matches : Matches code most look result tags names (StopAt s n ∷ rest) values scopes to

-- private instructions come to an operator's trap
pub record ComesToTrap (code : Code) (kind : TrapKind) (from : State) : Type 0 where
  pub to : State
  pub runs : Runs code from to
  pub traps : step code to ≡ Traps kind

-- code ends as local evaluation does
abbrev pub EndsSo : Code → ℕ → Definitions → BareType → List Bytes → Naming → Halt → State → Type 0
EndsSo code most look result tags names (Stopped s n rest values scopes) from =
    ComesToStop code most look result tags names s n rest values scopes from
EndsSo code most look result tags names (Trapped kind) from = ComesToTrap code kind from
EndsSo code most look result tags names Nothing from = ⊥

-- a frame that matches comes to the same stop, with the same operands and variables, or to the same trap
abbrev pub CodeDoesLocalEvaluation : Type 0
CodeDoesLocalEvaluation =
    (code : Code) (most : ℕ) (look : Definitions) (result : BareType) (tags : List Bytes) (names : Naming)
    (ps : List Piece) (values : List Value) (scopes : Scopes) (s : State)
    → HasWords code → Distinguishes (length tags) names → Matches code most look result tags names ps values scopes s
    → EndsSo code most look result tags names (local ps values scopes) s

-- where a frame rests at a stop, the code after it goes on from the types of what the stop leaves
abbrev pub CodeGoesOnAfterStops : Type 0
CodeGoesOnAfterStops =
    (code : Code) (most : ℕ) (look : Definitions) (result : BareType) (s : Stop) (n : ℕ) (rest : List Piece)
    (stack : Stack) (env : Environment) (place after : ℕ)
    → (coding code most look result (StopAt s n ∷ rest)).on stack env (At place) → Stops code s n place after
    → StopTyped look result s stack (λ under. (coding code most look result rest).on under env (At after))

-- a function that is entered matches after its entry check-in, where its variables hold the arguments
abbrev pub EnteredFramesMatch : Type 0
EnteredFramesMatch =
    (most : ℕ) (look : Definitions) (result : BareType) (tags : List Bytes) (names : Naming) (parameters : List BareBinding)
    (body : Statements) (arguments : List Variable) (locals : List ℕ)
    → BodyTyped look result parameters body → HaveRoom most (parameters ∷ []) body → ScopeHas tags parameters arguments
    → Holds names arguments locals → length locals ≡ most
    → Matches (body_code look parameters result body) most look result tags names (body_pieces body result) []
    (arguments ∷ []) (record { place = 1; stack = []; locals = locals })
