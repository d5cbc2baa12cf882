-- What it is to pass the set of a node on along its edges. A set is a number, `waits` says which nodes wait.
use Rattle.std.specs.Prelude.{◌≡◌, ◌≢◌, ℕ, ◌<◌, ◌⊎◌, ◌↔◌, List, Bool, false, length, slice_index, slice_index_or}
use Rattle.std.specs.List.{sum_by}
use Rattle.name_sets.specs.IdSet.{Holds}
use Rattle.name_sets.proofs.SetLemmas.{room}
use Rattle.set_constraints.specs.declared.constraint.Edge.{Edge}
use Rattle.set_constraints.specs.Chains.{source, target}

-- how much the sets can still grow
abbrev pub room_of : List ℕ → ℕ
room_of sets = sum_by room sets

-- the node doesn't wait
abbrev pub Rests : List Bool → ℕ → Type 0
Rests waits n = slice_index_or waits n false ≡ false

-- one set contains another
abbrev pub Within : ℕ → ℕ → Type 0
Within part whole = (id : ℕ) → Holds part id → Holds whole id

-- a node that rests has rested before, and its set is as it was
abbrev pub WaitsIfGrown : List ℕ → List Bool → List ℕ → List Bool → Type 0
WaitsIfGrown old waited new waits = (n : ℕ) → Rests waits n → Rests waited n × (slice_index new n ≡ slice_index old n)

-- the set is added to that of the node, and the other sets are as they were
pub record Adds (set node : ℕ) (old : List ℕ) (waited : List Bool) (new : List ℕ) (waits : List Bool) : Type 0 where
  pub added : (id : ℕ) → Holds (slice_index new node) id ↔ (Holds (slice_index old node) id ⊎ Holds set id)
  pub others : (n : ℕ) → n ≢ node → slice_index new n ≡ slice_index old n
  pub waits_if_grown : WaitsIfGrown old waited new waits
  pub same_nodes : length waits ≡ length waited

-- a name that a node gets is in the set of the other one, and an edge leads from there
abbrev pub ComesOver : List Edge → ℕ → List ℕ → ℕ → ℕ → Type 0
ComesOver edges node old n id = (k : ℕ) × (k < length edges) × (source edges k ≡ node) × (target edges k ≡ n) × Holds (slice_index old node) id

-- the set of the node is added to that of each node to which it has an edge
pub record PassesOn (edges : List Edge) (node : ℕ) (old : List ℕ) (waited : List Bool) (new : List ℕ) (waits : List Bool) : Type 0 where
  pub kept : (n : ℕ) → Within (slice_index old n) (slice_index new n)
  pub only : (n id : ℕ) → Holds (slice_index new n) id → Holds (slice_index old n) id ⊎ ComesOver edges node old n id
  pub passed : (k : ℕ) → k < length edges → source edges k ≡ node → Within (slice_index old node) (slice_index new (target edges k))
  pub waits_if_grown : WaitsIfGrown old waited new waits
  pub same_nodes : length waits ≡ length waited
