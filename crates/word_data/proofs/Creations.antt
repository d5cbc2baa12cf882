-- The creation of an object by the number of its struct's tag, as the stop of the definitions that it stands for.
use Rattle.std.proofs.Common.{◌≡◌, ℕ, List, [], ◌∷◌, Option, subst}
use Rattle.c_tree.specs.BareDef.{BareDef}
use Rattle.c_semantics.specs.Stops.{Stop}
use Rattle.c_semantics.specs.Stops as stop
use Rattle.object_store.specs.Stores.{Creates, Store}
use Rattle.resolved_tree.specs.Nodes.{Table}
use Rattle.code_runs.specs.CodeData.{Data, Names, new_object}
use Rattle.code_runs.specs.SharedStops.{Does, Done, goes, handle_word, with_objects}
use Rattle.word_data.specs.declared.stop.Stack.{Stack}
use Rattle.word_data.specs.declared.stop.Did.{Did}
use Rattle.word_data.specs.declared.stop.Did.TheVariants.{On, Trap, Waits}
use Rattle.word_data.specs.declared.stop.SharedStop.TheVariants.{New}
use Rattle.word_data.specs.Stacks.{stack_of}
use Rattle.word_data.specs.Resolved.{Resolves}
use Rattle.word_data.specs.Performing.{Made, Performs}

module _ (t : Table) (names : Names) (text : List BareDef) (slot : ℕ) (stack : Stack) (old new : Data) (words after : List ℕ) where
  -- a stop that was made
  performs : (seen : Stop) (did : Did) → Made new after stack [] did (Does names text slot seen old (stack_of words stack))
      → Performs names text slot seen stack old words did new after []
  performs seen (On height) made = made
  performs seen (Trap kind) made = made
  performs seen (Waits holder) made = absurd made

  -- what the creation of an object of a tag comes to
  abbrev pub Allocates : ℕ → Done → Type 0
  Allocates tag x =
      (handle : Option ℕ) × ((s : Store) × (Creates old.objects (new_object tag old.version) handle s
      × (x ≡ goes (with_objects old s) (handle_word handle ∷ stack_of words stack))))

  pub allocates : (did : Did) (seen : Stop) (tag : ℕ) → Resolves t names text seen (New tag)
      → Made new after stack [] did (Allocates tag) → Performs names text slot seen stack old words did new after []
  allocates did (stop.New name) tag e made =
      performs (stop.New name) did (subst (λ (k : ℕ). Made new after stack [] did (Allocates k)) e made)
  allocates did _ tag e made = absurd e
