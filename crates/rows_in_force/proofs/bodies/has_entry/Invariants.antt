use Rattle.std.proofs.Common.{◌≡◌, ℕ, ◌<◌}
use Rattle.std.specs.Prelude.{slice_get, Some, None}
use Rattle.code_store.specs.declared.body.StoredBody.{StoredBody}
use Rattle.rows_in_force.proofs.bodies.has_entry.Given as goal

-- none of the bodies so far has an entry
abbrev pub invariant-loop-body : goal.invariant-loop-body
invariant-loop-body l =
    (i : ℕ) (b : StoredBody) → i < l.body-index → slice_get l.bodies i ≡ Some b → b.function ≡ l.fn.function
    → slice_get b.skeleton.points.items 0 ≡ None
