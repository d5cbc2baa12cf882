-- The reached names are the least sets that contain the seeds and meet each edge.
use Rattle.std.proofs.Common.{ℕ, List, get_or}
use Rattle.std.specs.List.{Contains}
use Rattle.name_sets.specs.IdSet.{Holds}
use Rattle.set_constraints.specs.Constraints.{Reaches, seeded, along}
use Rattle.set_constraints.specs.declared.constraint.Edge.{Edge}

-- a family of sets, given by any relation, that contains the seeds and meets each edge contains the reached names
pub reached_in : (seeds : List ℕ) (edges : List Edge) (Family : ℕ → ℕ → Type 0)
    → ((n id : ℕ) → Holds (get_or seeds n 0) id → Family n id)
    → ((e : Edge) (id : ℕ) → Contains edges e → Family e.from id → Family e.to id)
    → (n id : ℕ) → Reaches seeds edges n id → Family n id
reached_in seeds edges Family first meets _ _ (seeded n id held) = first n id held
reached_in seeds edges Family first meets _ _ (along e id among before) = meets e id among (reached_in seeds edges Family first meets e.from id before)
