-- In a finite system of constraints whose seeds and edges are decided it is decided what comes to a node.
use Rattle.std.proofs.Common.{◌≡◌, Bool, List, [], ◌∷◌, refl, sym, subst, inl, inr}
use Rattle.c_tree.specs.BareExpr.{Bytes}
use Rattle.effects.proofs.Reachable.{Among, Way, way, Reached, begins, goes, decide, decided}
use Rattle.effects.proofs.Deciding.{collect, among_left, among_right, among_cases}
use Rattle.effects.proofs.Decisions.{Decision, holds, holds_decides, by_test, same_as}
use Rattle.effects.proofs.Systems.{Flows, seeded, along}

-- what is made of an item of a list is among what is made of the list
pub among_collected : {A B : Type 0} (make : A → List B) (xs : List A) (x : A) (b : B)
    → Among xs x → Among (make x) b → Among (collect make xs) b
among_collected make [] x b at m = absurd at
among_collected make (y ∷ xs) x b (inl e) m = among_left (make y) (collect make xs) b (subst (λ z. Among (make z) b) (sym e) m)
among_collected make (y ∷ xs) x b (inr at) m = among_right (make y) (collect make xs) b (among_collected make xs x b at m)

-- and the other way round
pub maker_of : {A B : Type 0} (make : A → List B) (xs : List A) (b : B)
    → Among (collect make xs) b → (x : A) × Among xs x × Among (make x) b
maker_of make [] b m = absurd m
maker_of make (y ∷ xs) b m =
    elim (among_cases (make y) (collect make xs) b m) [
      | inl l ↦ (y, inl refl, l)
      | inr r ↦ let s = maker_of make xs b r in (s.0, inr s.1, s.2)
    ]

-- the way of an edge
abbrev way_if : {N : Type 0} {P : Type 0} → N → N → Decision P → List (Way N)
way_if a b (inl e) = way a b ∷ []
way_if a b (inr n) = []

way_is_there : {N P : Type 0} (a b : N) (d : Decision P) → P → Among (way_if a b d) (way a b)
way_is_there a b (inl p) q = inl refl
way_is_there a b (inr n) q = absurd (n q)

edge_is_there : {N : Type 0} (Edge : N → N → Type 0) (a b x y : N) (d : Decision (Edge a b))
    → Among (way_if a b d) (way x y) → Edge x y
edge_is_there Edge a b x y (inl p) (inl e) = subst (λ w. Edge w.from w.to) e p
edge_is_there Edge a b x y (inl p) (inr m) = absurd m
edge_is_there Edge a b x y (inr n) m = absurd m

-- a finite system: each edge is between nodes of a list
pub record Finite {N : Type 0} (Seed : N → Bytes → Type 0) (Edge : N → N → Type 0) : Type 0 where
  pub same : (a b : N) → Decision (a ≡ b)
  pub nodes : List N
  pub from_node : (a b : N) → Edge a b → Among nodes a
  pub to_node : (a b : N) → Edge a b → Among nodes b
  pub seed : (n : N) (z : Bytes) → Decision (Seed n z)
  pub edge : (a b : N) → Decision (Edge a b)

-- its edges as ways
abbrev ways_of : {N : Type 0} {Seed : N → Bytes → Type 0} {Edge : N → N → Type 0} → Finite Seed Edge → List (Way N)
ways_of k = collect (λ a. collect (λ b. way_if a b (k.edge a b)) k.nodes) k.nodes

module _ {N : Type 0} {Seed : N → Bytes → Type 0} {Edge : N → N → Type 0} (k : Finite Seed Edge) where
  edge_is_way : (a b : N) → Edge a b → Among (ways_of k) (way a b)
  edge_is_way a b e =
      among_collected (λ a. collect (λ b. way_if a b (k.edge a b)) k.nodes) k.nodes a (way a b) (k.from_node a b e)
      (among_collected (λ b. way_if a b (k.edge a b)) k.nodes b (way a b) (k.to_node a b e)
      (way_is_there a b (k.edge a b) e))

  way_is_edge : (a b : N) → Among (ways_of k) (way a b) → Edge a b
  way_is_edge a b m =
      let s = maker_of (λ a. collect (λ b. way_if a b (k.edge a b)) k.nodes) k.nodes (way a b) m in
      let t = maker_of (λ b. way_if s.0 b (k.edge s.0 b)) k.nodes (way a b) s.2 in
      edge_is_there Edge s.0 t.0 a b (k.edge s.0 t.0) t.2

  reached : (z : Bytes) (n : N) → Flows Seed Edge n z → Reached (ways_of k) (λ m. holds (k.seed m z)) n
  reached z _ (seeded n _ s) = begins n ((holds_decides (k.seed n z)).1 s)
  reached z _ (along a b _ e x) = goes a b (edge_is_way a b e) (reached z a x)

  flows : (z : Bytes) (n : N) → Reached (ways_of k) (λ m. holds (k.seed m z)) n → Flows Seed Edge n z
  flows z _ (begins n e) = seeded n z ((holds_decides (k.seed n z)).0 e)
  flows z _ (goes a b m x) = along a b z (way_is_edge a b m) (flows z a x)

  pub flows_or_not : (n : N) (z : Bytes) → Decision (Flows Seed Edge n z)
  flows_or_not n z =
      let same : N → N → Bool = λ a b. holds (k.same a b) in
      let d = decided same (λ a b. holds_decides (k.same a b)) (ways_of k) (λ m. holds (k.seed m z)) n in
      same_as (flows z n) (reached z n) (by_test (decide same (ways_of k) (λ m. holds (k.seed m z)) n) d)
