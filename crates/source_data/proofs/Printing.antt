-- A print of the newest values.
use Rattle.std.proofs.Common.{◌≡◌, ℕ, List, ◌∷◌, ◌++◌, drop, refl}
use Rattle.c_tree.specs.BareExpr.{Bytes}
use Rattle.c_tree.specs.BareDef.{BareDef}
use Rattle.c_semantics.specs.Stops.{Print}
use Rattle.c_semantics.specs.Values.{int_of}
use Rattle.source_model.specs.Worlds.{World}
use Rattle.source_model.specs.Moves.{arguments_of}
use Rattle.source_model.specs.Printing.{printed}
use Rattle.local_evaluation.specs.declared.value.Value.{Value}
use Rattle.source_data.specs.declared.store.Store.{Store}
use Rattle.source_data.specs.declared.shared_stops.Did.TheVariants.{On}
use Rattle.resolved_tree.specs.Nodes.{Table}
use Rattle.source_data.specs.Stores.{Performs, with_store}
use Rattle.local_evaluation.specs.Work.{newest}
use Rattle.source_data.proofs.Performing.{goes}

pub prints : (t : Table) (text : List BareDef) (slot : ℕ) (old new : Store) (format : Bytes) (n : ℕ) (values after : List Value)
    → ((w : World) → with_store t new w ≡ record (with_store t old w) { output = old.output.items ++ printed format (arguments_of n (newest values)) })
    → newest after ≡ int_of 0 ∷ drop n (newest values)
    → Performs t text slot (Print format n) old values On new after
prints t text slot old new format n values after changed left =
    goes t text slot (Print format n) old new values after
    (λ w. record w { output = w.output ++ printed format (arguments_of n (newest values)) }) (int_of 0 ∷ drop n (newest values))
    (λ s at defined. refl) (λ w defined. changed w) left
