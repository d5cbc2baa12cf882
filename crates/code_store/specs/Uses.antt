-- What functions use directly, by ids.
use Rattle.std.specs.Prelude.{ℕ, ◌==◌, List, [], filter_map, flat_map, if◌then◌else◌}
use Rattle.skeletons.specs.declared.point.Point.{Point}
use Rattle.skeletons.specs.Meaning.{used_at}
use Rattle.code_store.specs.declared.body.StoredBody.{StoredBody}

-- the ids of the names that some points use
abbrev pub used_ids : List Point → List ℕ
used_ids = filter_map (λ p. used_at p.kind)

-- the ids that a body uses, if it is one of the function
abbrev pub ids_used_if : ℕ → StoredBody → List ℕ
ids_used_if function b = if b.function == function then used_ids b.skeleton.points.items else []

-- the ids that the bodies of a function use
abbrev pub ids_used_by : ℕ → List StoredBody → List ℕ
ids_used_by function = flat_map (ids_used_if function)
