-- When a state of a run of code stands for a world of the source machine.
use Rattle.std.specs.Prelude.{◌≡◌, false, List, Contains, length, None}
use Rattle.c_tree.specs.BareExpr.{Bytes}
use Rattle.c_tree.specs.BareDef.{BareDef}
use Rattle.c_semantics.specs.Names.{struct_name}
use Rattle.c_semantics.specs.Texts.{definition}
use Rattle.c_semantics.specs.Values.{ThreadRef}
use Rattle.source_model.specs.Worlds.{World}
use Rattle.typed_transformers.specs.TransformerTypes.{HasCells}
use Rattle.typed_trees.specs.ExpressionTypes.{IsMutex, IsStruct}
use Rattle.typed_runs.specs.TypedWorlds.{tags_of}
use Rattle.bytecode.specs.Words.{Naming}
use Rattle.object_store.specs.Naming.{Objects}
use Rattle.code_runs.specs.CodeData.{Names, thread_word}
use Rattle.code_runs.specs.CodeThreads.{CodeWorld}
use Rattle.code_run_laws.specs.DataMatches.{DataMatches}
use Rattle.code_run_laws.specs.ThreadMatches.{SlotsMatch, SlotsStand}

-- each text has its globals, arrays, mutexes and structs among the numbered names
pub record Numbers (names : Names) (text : List BareDef) : Type 0 where
  pub cells : (name : Bytes) → HasCells (definition text name) → Contains names.cells name
  pub mutexes : (name : Bytes) → IsMutex (definition text name) → Contains names.mutexes name
  pub tags : (tag : Bytes) → IsStruct (definition text (struct_name tag)) → Contains names.tags tag

-- it stands for a world, by the definitions of the versions so far. Once the run has ended, what threads would do next is no matter,
-- but the same threads are in its slots
pub record WorldMatches (texts : List (List BareDef)) (names : Names) (w : World) (own : CodeWorld) : Type 0 where
  pub naming : Naming
  pub threads_named : (r : ThreadRef) → naming.thread r ≡ thread_word r
  pub objects : Objects
  pub shared : DataMatches texts names naming objects w own.shared
  pub count : length own.slots ≡ length w.slots
  pub slots : w.finish ≡ None → SlotsMatch texts (tags_of w.objects) naming w.slots own.slots
  pub standing : SlotsStand w.slots own.slots
  pub threads : own.threads ≡ w.threads
  pub finish : own.finish ≡ w.finish
  pub used_well : w.misused ≡ false
