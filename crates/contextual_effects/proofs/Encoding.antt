-- A system of constraints whose nodes and names go by numbers has the least sets of the system that it stands for.
use Rattle.std.proofs.Common.{◌≡◌, ◌↔◌, ℕ, List, Some, subst, sym, ◌∙◌}
use Rattle.std.specs.Prelude.{Contains, slice_get, slice_index}
use Rattle.name_sets.specs.IdSet.{Holds}
use Rattle.c_tree.specs.BareExpr.{Bytes}
use Rattle.set_constraints.specs.declared.constraint.Edge.{Edge as NumberedEdge}
use Rattle.set_constraints.specs.Constraints.{Reaches}
use Rattle.set_constraints.specs.Constraints as numbered
use Rattle.effects.proofs.Systems.{Flows, seeded, along}

-- the id of a name in a table
abbrev pub IsNamed : List Bytes → ℕ → Bytes → Type 0
IsNamed names id z = slice_get names id ≡ Some z

-- seeds and edges between numbers stand for those between nodes; `Code` says which number a node has, if it has one
pub record Encodes {N : Type 0} (Code : N → ℕ → Type 0) (Seed : N → Bytes → Type 0) (Edge : N → N → Type 0)
    (names : List Bytes) (seeds : List ℕ) (edges : List NumberedEdge) : Type 0 where
  -- a number is that of one node, and no text is in the table twice
  pub one_node : (a b : N) (n : ℕ) → Code a n → Code b n → a ≡ b
  pub one_id : (i j : ℕ) (z : Bytes) → IsNamed names i z → IsNamed names j z → i ≡ j
  -- each seed of a number is one of its node, and the other way round
  pub seeds_stand : (n id : ℕ) → Holds (slice_index seeds n) id → (a : N) × (z : Bytes) × Code a n × IsNamed names id z × Seed a z
  pub seeds_taken : (a : N) (n : ℕ) (z : Bytes) → Code a n → Seed a z → (id : ℕ) × IsNamed names id z × Holds (slice_index seeds n) id
  -- each edge between numbers is one between their nodes; and over each edge to a node that has a number something comes
  -- only from a node that has one, and there is that edge between numbers
  pub edges_stand : (e : NumberedEdge) → Contains edges e → (a b : N) × Code a e.from × Code b e.to × Edge a b
  pub edges_taken : (a b : N) (n : ℕ) (z : Bytes) → Code b n → Edge a b → Flows Seed Edge a z
      → (m : ℕ) × Code a m × Contains edges (record { from = m; to = n })

-- what comes to a number comes to its node
pub stands : {N : Type 0} {Code : N → ℕ → Type 0} {Seed : N → Bytes → Type 0} {Edge : N → N → Type 0}
    {names : List Bytes} {seeds : List ℕ} {edges : List NumberedEdge}
    → Encodes Code Seed Edge names seeds edges → (n id : ℕ) → Reaches seeds edges n id
    → (a : N) × (z : Bytes) × Code a n × IsNamed names id z × Flows Seed Edge a z
stands k _ _ (numbered.seeded n id holds) =
    let s = k.seeds_stand n id holds in (s.0, s.1, s.2, s.3, seeded s.0 s.1 s.4)
stands {Seed} {Edge} k _ _ (numbered.along e id has more) =
    let x = stands k e.from id more in
    let y = k.edges_stand e has in (
      y.1,
      x.1,
      y.3,
      x.3,
      along y.0 y.1 x.1 y.4 (subst (λ a. Flows Seed Edge a x.1) (k.one_node x.0 y.0 e.from x.2 y.2) x.4),
    )

-- what comes to the number of a node comes to the node
pub stands_at : {N : Type 0} {Code : N → ℕ → Type 0} {Seed : N → Bytes → Type 0} {Edge : N → N → Type 0}
    {names : List Bytes} {seeds : List ℕ} {edges : List NumberedEdge}
    → Encodes Code Seed Edge names seeds edges → (a : N) (n id : ℕ) → Code a n → Reaches seeds edges n id
    → (z : Bytes) × IsNamed names id z × Flows Seed Edge a z
stands_at {Seed} {Edge} k a n id code r =
    let x = stands k n id r in
    (x.1, x.3, subst (λ b. Flows Seed Edge b x.1) (k.one_node x.0 a n x.2 code) x.4)

-- what comes to a node that has a number has an id, and comes to the number
pub taken : {N : Type 0} {Code : N → ℕ → Type 0} {Seed : N → Bytes → Type 0} {Edge : N → N → Type 0}
    {names : List Bytes} {seeds : List ℕ} {edges : List NumberedEdge}
    → Encodes Code Seed Edge names seeds edges → (a : N) (n : ℕ) (z : Bytes) → Code a n → Flows Seed Edge a z
    → (id : ℕ) × IsNamed names id z × Reaches seeds edges n id
taken k _ n _ code (seeded a z s) = let h = k.seeds_taken a n z code s in (h.0, h.1, numbered.seeded n h.0 h.2)
taken k _ n _ code (along a b z e more) =
    let m = k.edges_taken a b n z code e more in
    let r = taken k a m.0 z m.1 more in
    (r.0, r.1, numbered.along (record { from = m.0; to = n }) r.0 m.2 r.2)

-- an id comes to the number of a node exactly if its name comes to the node
pub reaches_flows : {N : Type 0} {Code : N → ℕ → Type 0} {Seed : N → Bytes → Type 0} {Edge : N → N → Type 0}
    {names : List Bytes} {seeds : List ℕ} {edges : List NumberedEdge}
    → Encodes Code Seed Edge names seeds edges → (a : N) (n id : ℕ) (z : Bytes) → Code a n → IsNamed names id z
    → Reaches seeds edges n id ↔ Flows Seed Edge a z
reaches_flows {Seed} {Edge} {seeds} {edges} k a n id z code named = (
  λ r. let x = stands_at k a n id code r in subst (Flows Seed Edge a) (item x.0 z (sym x.1 ∙ named)) x.2,
  λ x. let r = taken k a n z code x in subst (Reaches seeds edges n) (k.one_id r.0 id z r.1 named) r.2,
)
  where
    item : (u v : Bytes) → Some u ≡ Some v → u ≡ v
    item u v e = cc

-- and so exactly if the name is in what the node is known to have
pub reaches_family : {N : Type 0} {Code : N → ℕ → Type 0} {Seed : N → Bytes → Type 0} {Edge : N → N → Type 0}
    {names : List Bytes} {seeds : List ℕ} {edges : List NumberedEdge} {In : Type 0}
    → Encodes Code Seed Edge names seeds edges → (a : N) (n id : ℕ) (z : Bytes) → Code a n → IsNamed names id z
    → Flows Seed Edge a z ↔ In → Reaches seeds edges n id ↔ In
reaches_family k a n id z code named same =
    let both = reaches_flows k a n id z code named in (λ r. same.0 (both.0 r), λ x. both.1 (same.1 x))
