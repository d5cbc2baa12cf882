-- Edges between numbers, and edges between the nodes that have these numbers.
use Rattle.std.proofs.Common.{◌≡◌, ◌↔◌, ℕ, ◌+◌, List, Some, subst, sym, ◌∙◌, arith}
use Rattle.std.specs.Prelude.{Contains, slice_index}
use Rattle.name_sets.specs.IdSet.{Holds}
use Rattle.name_sets.specs.Texts.{IsTable}
use Rattle.c_tree.specs.BareExpr.{Bytes}
use Rattle.c_semantics.specs.Store.{Body}
use Rattle.effect_flow.specs.Parts.{Contents}
use Rattle.set_constraints.specs.declared.constraint.Edge.{Edge}
use Rattle.set_constraints.specs.Constraints.{Reaches}
use Rattle.contextual_effects.specs.Effects.{HasNames}
use Rattle.effects.proofs.Systems.{Node, Flows}
use Rattle.contextual_effects.proofs.Encoding.{Encodes, IsNamed}
use Rattle.contextual_effects.proofs.Encoding as encoding
use Rattle.contextual_effects.proofs.Numbering.{ArePlaces, InBlock, NodeCode, of_point, of_calls, of_name, one_node}
use Rattle.contextual_effects.proofs.Numbering as code
use Rattle.contextual_effects.proofs.EdgeLists.{edge}
use Rattle.contextual_effects.proofs.NodesOfPoints.{Place, Setting, places}

-- the number of a node
abbrev pub Code : List Body → List Bytes → ℕ → ℕ → Node → ℕ → Type 0
Code bodies names points ids = NodeCode (Place bodies) names points ids

-- an edge between numbers is one between their nodes
pub record EdgeStands (bodies : List Body) (names : List Bytes) (points ids : ℕ) (IsEdge : Node → Node → Type 0) (e : Edge) : Type 0 where
  pub a : Node
  pub b : Node
  pub from : Code bodies names points ids a e.from
  pub to : Code bodies names points ids b e.to
  pub is_edge : IsEdge a b

pub edge_stands : {bodies : List Body} {names : List Bytes} {points ids : ℕ} {IsEdge : Node → Node → Type 0} {e : Edge} (a b : Node)
    → Code bodies names points ids a e.from → Code bodies names points ids b e.to → IsEdge a b → EdgeStands bodies names points ids IsEdge e
edge_stands a b from to is = record { a = a; b = b; from = from; to = to; is_edge = is }

-- an edge between nodes is one between numbers of these
pub record EdgeTaken (bodies : List Body) (names : List Bytes) (points ids : ℕ) (edges : List Edge) (a b : Node) : Type 0 where
  pub m : ℕ
  pub n : ℕ
  pub from : Code bodies names points ids a m
  pub to : Code bodies names points ids b n
  pub contains : Contains edges (edge m n)

-- a node has one number
pub one_in_block : {names : List Bytes} {ids start : ℕ} {z : Bytes} {m n : ℕ} → IsTable names
    → InBlock names ids start z m → InBlock names ids start z n → m ≡ n
one_in_block {start = start} {z = z} {m = m} {n = n} table x y =
    by x.id y.id (table.distinct x.id y.id z x.named y.named) x.number y.number
  where
    by : (i j : ℕ) → i ≡ j → m ≡ start + i → n ≡ start + j → m ≡ n
    by i j same e f = omega arith

one_number : (bodies : List Body) {names : List Bytes} {points ids : ℕ} → IsTable names → (a : Node) (m n : ℕ)
    → Code bodies names points ids a m → Code bodies names points ids a n → m ≡ n
one_number bodies table _ m n (of_point p _ x) (of_point _ _ y) = item m n (sym x ∙ y)
  where
    item : (m n : ℕ) → Some m ≡ Some n → m ≡ n
    item m n e = cc
one_number bodies table _ m n (of_calls f _ x) (of_calls _ _ y) = one_in_block table x y
one_number bodies table _ m n (code.NodeCode.of_function f _ x) (code.NodeCode.of_function _ _ y) = one_in_block table x y
one_number bodies table _ m n (of_name u _ x) (of_name _ _ y) = one_in_block table x y

pub edge_from : {bodies : List Body} {names : List Bytes} {points ids : ℕ} {edges : List Edge} {a b : Node} (n : ℕ) → IsTable names
    → Code bodies names points ids b n → EdgeTaken bodies names points ids edges a b
    → (m : ℕ) × Code bodies names points ids a m × Contains edges (edge m n)
edge_from {bodies = bodies} {edges = edges} {b = b} n table to t =
    (t.m, t.from, subst (λ n. Contains edges (edge t.m n)) (one_number bodies table b t.n n t.to to) t.contains)

-- the seeds and edges of a system between numbers stand for those between nodes
pub record Parts (bodies : List Body) (names : List Bytes) (points ids : ℕ) (Seed : Node → Bytes → Type 0) (IsEdge : Node → Node → Type 0)
    (seeds : List ℕ) (edges : List Edge) : Type 0 where
  pub seeds_stand : (n id : ℕ) → Holds (slice_index seeds n) id
      → (a : Node) × (z : Bytes) × Code bodies names points ids a n × IsNamed names id z × Seed a z
  pub seeds_taken : (a : Node) (n : ℕ) (z : Bytes) → Code bodies names points ids a n → Seed a z
      → (id : ℕ) × IsNamed names id z × Holds (slice_index seeds n) id
  pub edges_stand : (e : Edge) → Contains edges e → EdgeStands bodies names points ids IsEdge e
  pub edges_taken : (a b : Node) (z : Bytes) → IsEdge a b → Flows Seed IsEdge a z → EdgeTaken bodies names points ids edges a b

pub encodes : {names : List Bytes} {bodies : List Body} {flow : Contents} {points ids : ℕ} {Seed : Node → Bytes → Type 0}
    {IsEdge : Node → Node → Type 0} {seeds : List ℕ} {edges : List Edge} → Setting names bodies flow points ids
    → Parts bodies names points ids Seed IsEdge seeds edges → Encodes (Code bodies names points ids) Seed IsEdge names seeds edges
encodes {names} s parts = record {
  one_node = one_node (places s);
  one_id = λ i j z x y. s.is_flow.table.distinct i j z x y;
  seeds_stand = parts.seeds_stand;
  seeds_taken = parts.seeds_taken;
  edges_stand = λ e has. let x = parts.edges_stand e has in (x.a, x.b, x.from, x.to, x.is_edge);
  edges_taken = λ a b n z to is more. edge_from n s.is_flow.table to (parts.edges_taken a b z is more);
}

-- a set that has what comes to the number of a node has the names of the node
pub has_names : (bodies : List Body) {names : List Bytes} {points ids : ℕ} {Seed : Node → Bytes → Type 0}
    {IsEdge : Node → Node → Type 0} {seeds : List ℕ} {edges : List Edge} {In : Bytes → Type 0}
    → Encodes (Code bodies names points ids) Seed IsEdge names seeds edges → (a : Node) (n : ℕ) → Code bodies names points ids a n
    → (sets : List ℕ) → ((n id : ℕ) → Holds (slice_index sets n) id ↔ Reaches seeds edges n id)
    → ((z : Bytes) → Flows Seed IsEdge a z ↔ In z) → HasNames names (slice_index sets n) In
has_names bodies k a n to sets least same = record {
  only = λ id h. let x = encoding.stands_at k a n id to ((least n id).0 h) in (x.0, x.1, (same x.0).0 x.2);
  all = λ z x. let r = encoding.taken k a n z to ((same z).1 x) in (r.0, r.1, (least n r.0).1 r.2);
}
