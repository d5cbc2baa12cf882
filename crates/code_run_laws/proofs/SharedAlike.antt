-- What is to be shown of a stop that changes no other thread: what it does to words is what it does to values.
use Rattle.std.specs.Prelude.{◌≡◌, ℕ, suc, ◌<◌, List, [], ◌++◌, map, length, All, Some, None}
use Rattle.std.specs.FinMap.{get}
use Rattle.run_types.specs.declared.trap.TrapKind.{TrapKind}
use Rattle.c_tree.specs.BareExpr.{Bytes}
use Rattle.c_tree.specs.BareDef.{BareDef}
use Rattle.c_semantics.specs.Texts.{definition}
use Rattle.c_semantics.specs.Values.{ThreadRef, Value}
use Rattle.c_semantics.specs.Stops.{Stop}
use Rattle.source_model.specs.Worlds.{World}
use Rattle.source_model.specs.Uses.{use_at}
use Rattle.source_model.specs.Waits.{at_stop}
use Rattle.source_model.specs.Moves.{Standing, goes_on, perform, traps}
use Rattle.version_laws.specs.Histories.{last_text}
use Rattle.typed_trees.specs.ValueTypes.{HaveTypes}
use Rattle.typed_trees.specs.PieceTypes.{Stack, StopTyped}
use Rattle.typed_runs.specs.TypedFrames.{result_in, version_in}
use Rattle.typed_runs.specs.TypedWorlds.{tags_of}
use Rattle.typed_runs.proofs.MoreObjects.{Grows}
use Rattle.typed_runs.proofs.SameUses.{SameUse}
use Rattle.typed_runs.proofs.Stops.{Ready}
use Rattle.bytecode.specs.Words.{Naming, Distinguishes, word_of}
use Rattle.tree_code.specs.Ranges.{AllRanged}
use Rattle.object_store.specs.declared.object.Object.{Object}
use Rattle.object_store.specs.Naming.{Objects}
use Rattle.code_runs.specs.CodeData.{Data, Names}
use Rattle.code_runs.specs.SharedStops.{Came, Done, Does, On, Traps}
use Rattle.code_runs.specs.Layouts.{Freshens, used_object}
use Rattle.code_run_laws.specs.DataMatches.{DataMatches}
use Rattle.code_run_laws.proofs.NumberedTexts.{Numbered}

-- a naming has the words of another for the first n objects, and for all threads
pub record MoreNamed (n : ℕ) (old new : Naming) : Type 0 where
  pub objects : (o : ℕ) → o < n → new.object o ≡ old.object o
  pub threads : (t : ThreadRef) → new.thread t ≡ old.thread t

-- the object whose field a stop uses has the layout of the text in force
abbrev pub IsFresh : List (List BareDef) → Stop → List ℕ → Data → Type 0
IsFresh texts x stack d =
    (tag : Bytes) (h : ℕ) (own : Object) → used_object x stack ≡ Some (tag, h) → 0 < h → get d.objects.live h ≡ Some own
    → suc own.layout ≡ length texts

module _ (texts : List (List BareDef)) (names : Names) (s : Standing) (naming : Naming) (then_are : Stack → Type 0) (x : Stop) (values : List Value)
    (done : Done) where
  -- the stop is made: the frame goes on with other values, of which its words are the words
  pub record GoesAlike (stack : List ℕ) : Type 0 where
    pub world : World
    pub values_after : List Value
    pub naming_after : Naming
    pub objects_after : Objects
    pub types_after : Stack
    pub performs : perform x s values ≡ goes_on s world values_after
    pub shared : DataMatches texts names naming_after objects_after world done.shared
    pub goes : then_are types_after
    pub have : HaveTypes (tags_of world.objects) types_after values_after
    pub ranged : AllRanged values_after
    pub words : stack ≡ map (word_of naming_after) values_after
    pub output : world.output ≡ s.world.output ++ done.printed
    pub slots : world.slots ≡ s.world.slots
    pub threads : world.threads ≡ s.world.threads
    pub finish : world.finish ≡ s.world.finish
    pub misused : world.misused ≡ s.world.misused
    pub grows : Grows (tags_of s.world.objects) (tags_of world.objects)
    pub more : MoreNamed (length s.world.objects) naming naming_after

  -- or it traps, and nothing changes, but that the object that it uses has newer words
  pub record TrapsAlike (kind : TrapKind) : Type 0 where
    pub objects_after : Objects
    pub performs : perform x s values ≡ traps s kind
    pub shared : DataMatches texts names naming objects_after s.world done.shared
    pub silent : done.printed ≡ []

  abbrev pub ComesAlike : Came → Type 0
  ComesAlike (On stack) = GoesAlike stack
  ComesAlike (Traps kind) = TrapsAlike kind

-- the name that a stop uses is defined as it is now
abbrev pub IsSameNow : List (List BareDef) → Standing → Stop → Type 0
IsSameNow texts s x = (name : Bytes) → use_at x ≡ Some name → SameUse (version_in texts s.frame.version name) (definition (last_text texts) name)

abbrev pub SharedStopsAlike : Type 1
SharedStopsAlike =
    (texts : List (List BareDef)) (names : Names) (s : Standing) (naming : Naming) (objects : Objects) (d fresh : Data) (x : Stop)
    (values : List Value) (types : Stack) (then_are : Stack → Type 0) (stack : List ℕ) (done : Done)
    → Ready texts s → All (Numbered names) texts → Distinguishes (length (tags_of s.world.objects)) naming
    → DataMatches texts names naming objects s.world d
    → StopTyped (version_in texts s.frame.version) (result_in texts s.frame.version s.frame.function) x types then_are
    → HaveTypes (tags_of s.world.objects) types values → AllRanged values → stack ≡ map (word_of naming) values
    → IsSameNow texts s x → at_stop x s.world s.slot values ≡ None → Freshens texts names x stack d fresh
    → Does names (last_text texts) s.slot x fresh stack done
    → ComesAlike texts names s naming then_are x values done done.came
