-- Chains through the edges that leave the same node. A place in a chain is the number of edges up to and with that one; 0
-- is the end of a chain.
use Rattle.std.specs.Prelude.{◌≡◌, ◌≢◌, ℕ, ◌+◌, ◌<◌, ◌≤◌, List, length, map, slice_index}
use Rattle.set_constraints.specs.declared.constraint.Edge.{Edge}

-- the node that edge k leaves
abbrev pub source : List Edge → ℕ → ℕ
source edges k = slice_index (map (λ e. e.from) edges) k

-- the node to which edge k leads
abbrev pub target : List Edge → ℕ → ℕ
target edges k = slice_index (map (λ e. e.to) edges) k

-- the place is the end, or that of an edge below the limit that leaves the node
abbrev pub IsUpTo : List Edge → ℕ → ℕ → ℕ → Type 0
IsUpTo edges node limit place = (k : ℕ) → place ≡ k + 1 → (k < limit) × (source edges k ≡ node)

-- no edge from the place on, but below the limit, leaves the node
abbrev pub SkipsNone : List Edge → ℕ → ℕ → ℕ → Type 0
SkipsNone edges node limit place = (k : ℕ) → place ≤ k → k < limit → source edges k ≢ node

-- the first `count` edges are linked: `last` has for each node the place of the last one that leaves it, and `previous`
-- has for each edge the place of the one before it that leaves the same node
pub record AreLinked (edges : List Edge) (last previous : List ℕ) (count : ℕ) : Type 0 where
  pub many : length previous ≡ count
  pub last_own : (n : ℕ) → n < length last → IsUpTo edges n count (slice_index last n)
  pub last_skips : (n : ℕ) → n < length last → SkipsNone edges n count (slice_index last n)
  pub previous_own : (k : ℕ) → k < count → IsUpTo edges (source edges k) k (slice_index previous k)
  pub previous_skips : (k : ℕ) → k < count → SkipsNone edges (source edges k) k (slice_index previous k)
