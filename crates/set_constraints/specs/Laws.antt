-- Laws of constraints: the names that reach the nodes are the least sets that contain the seeds and meet each edge.
use Rattle.std.specs.Prelude.{ℕ, List, Contains, slice_index, Bool, IsTrue}
use Rattle.name_sets.specs.IdSet.{Holds}
use Rattle.set_constraints.specs.Constraints.{Reaches}
use Rattle.set_constraints.specs.declared.constraint.Edge.{Edge}

-- the reached names contain the seeds
abbrev pub ContainsSeeds : Type 0
ContainsSeeds = (seeds : List ℕ) (edges : List Edge) (n id : ℕ) → Holds (slice_index seeds n) id → Reaches seeds edges n id

-- the reached names of an edge's end contain those of its beginning
abbrev pub MeetsEdges : Type 0
MeetsEdges = (seeds : List ℕ) (edges : List Edge) (e : Edge) (id : ℕ) → Contains edges e → Reaches seeds edges e.from id → Reaches seeds edges e.to id

-- a family of sets, given by a test, that contains the seeds and meets each edge contains the reached names; `reached_in`
-- in proofs/ says it of a family that is given by any relation, of which a clause can't speak
abbrev pub IsLeast : Type 0
IsLeast =
    (seeds : List ℕ) (edges : List Edge) (family : ℕ → ℕ → Bool)
    → ((n id : ℕ) → Holds (slice_index seeds n) id → IsTrue (family n id))
    → ((e : Edge) (id : ℕ) → Contains edges e → IsTrue (family e.from id) → IsTrue (family e.to id))
    → (n id : ℕ) → Reaches seeds edges n id → IsTrue (family n id)
