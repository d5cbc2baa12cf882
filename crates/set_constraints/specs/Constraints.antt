-- Inclusion constraints between sets of names. A set is a number (name_sets), a node is its place in a list of sets.
use Rattle.std.specs.Prelude.{ℕ, ◌<◌, List, Contains, slice_index}
use Rattle.std.specs.List.{All}
use Rattle.name_sets.specs.IdSet.{Holds}
use Rattle.set_constraints.specs.declared.constraint.Edge.{Edge}

-- each edge leads from a node to a node
abbrev pub Fit : ℕ → List Edge → Type 0
Fit nodes edges = All (λ e. (e.from < nodes) × (e.to < nodes)) edges

-- a name comes to a node: from the node's own seed, or over an edge
pub data Reaches (seeds : List ℕ) (edges : List Edge) : ℕ → ℕ → Type 0 where
  seeded : (n id : ℕ) → Holds (slice_index seeds n) id → Reaches seeds edges n id
  along : (e : Edge) (id : ℕ) → Contains edges e → Reaches seeds edges e.from id → Reaches seeds edges e.to id
