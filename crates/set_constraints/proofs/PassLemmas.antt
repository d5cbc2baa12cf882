-- Passing the set of a node on, an edge at a time.
use Rattle.std.proofs.Common.{◌≡◌, ◌≢◌, ℕ, ◌+◌, ◌<◌, ◌≤◌, ◌⊎◌, Bool, List, length, get_or, slice_set, refl, sym, subst, ◌∙◌, inl, inr, arith}
use Rattle.std.proofs.lemmas.List.{get_or-map}
use Rattle.std.proofs.lemmas.List.Sums.{sum_by-set}
use Rattle.std.proofs.lemmas.Bool.{cases_eq, cases_order}
use Rattle.name_sets.specs.IdSet.{Holds, HasIds}
use Rattle.name_sets.proofs.SetLemmas.{room, room_falls}
use Rattle.set_constraints.specs.declared.constraint.Edge.{Edge}
use Rattle.set_constraints.specs.Constraints.{Fit}
use Rattle.set_constraints.specs.Chains.{source, target, IsUpTo, SkipsNone}
use Rattle.set_constraints.specs.Passing.{room_of, Within, WaitsIfGrown, Adds, ComesOver, PassesOn}

-- where a set grows, the sets can grow less from then on
pub room_less : (sets : List ℕ) (node other new : ℕ) → node < length sets → Within (get_or sets node other) new → HasIds new → new ≢ get_or sets node other → room_of (slice_set sets node new) < room_of sets
room_less sets node other new within keeps ids changed =
    let fewer : room new < room (get_or sets node other) = room_falls (get_or sets node other) new keeps ids changed in
    omega (arith, sum_by-set room sets node new other within)

-- the set of the node is passed on along its edges from the place on
pub record Passing (edges : List Edge) (node : ℕ) (old : List ℕ) (waited : List Bool) (place : ℕ) (new : List ℕ) (waits : List Bool) : Type 0 where
  pub own : IsUpTo edges node (length edges) place
  pub kept : (n : ℕ) → Within (get_or old n 0) (get_or new n 0)
  pub only : (n id : ℕ) → Holds (get_or new n 0) id → Holds (get_or old n 0) id ⊎ ComesOver edges node old n id
  pub passed : (k : ℕ) → place ≤ k → k < length edges → source edges k ≡ node → Within (get_or old node 0) (get_or new (target edges k) 0)
  pub waits_if_grown : WaitsIfGrown old waited new waits
  pub same_nodes : length waits ≡ length waited

-- at the node's last edge nothing has been passed on
pub passing_first : (edges : List Edge) (node : ℕ) (old : List ℕ) (waited : List Bool) (place : ℕ)
    → IsUpTo edges node (length edges) place → SkipsNone edges node (length edges) place → Passing edges node old waited place old waited
passing_first edges node old waited place own skips = record {
  own = own;
  kept = λ n id held. held;
  only = λ n id held. inl held;
  passed = λ k from_here below leaves. absurd (skips k from_here below leaves);
  waits_if_grown = λ n rests. (rests, refl);
  same_nodes = refl;
}

-- an edge more
pub passing_more : (edges : List Edge) (node : ℕ) (old : List ℕ) (waited : List Bool) (k next : ℕ) (mid : List ℕ) (mid_waits : List Bool) (new : List ℕ) (waits : List Bool)
    → Passing edges node old waited (k + 1) mid mid_waits → Adds (get_or old node 0) (target edges k) mid mid_waits new waits
    → IsUpTo edges (source edges k) k next → SkipsNone edges (source edges k) k next → Passing edges node old waited next new waits
passing_more edges node old waited k next mid mid_waits new waits before adds own skips = record {
  own = λ j place. let h = own j place in (omega (arith, h.0, here.0), h.1 ∙ here.1);
  kept = λ n id held. grows n (cases_eq n (target edges k)) id (before.kept n id held);
  only = λ n. only n (cases_eq n (target edges k));
  passed = λ j from_here below leaves. passed j from_here below leaves (cases_order j k);
  waits_if_grown = λ n rests.
      let h = adds.waits_if_grown n rests in
      let g = before.waits_if_grown n h.0 in
      (g.0, h.1 ∙ g.1);
  same_nodes = adds.same_nodes ∙ before.same_nodes;
}
  where
    here : (k < length edges) × (source edges k ≡ node)
    here = before.own k refl

    grows : (n : ℕ) → (n ≡ target edges k) ⊎ (n ≡ target edges k → ⊥) → Within (get_or mid n 0) (get_or new n 0)
    grows n (inl same) = λ id held.
        subst (λ (m : ℕ). Holds (get_or new m 0) id) (sym same) ((adds.added id).1 (inl (subst (λ (m : ℕ). Holds (get_or mid m 0) id) same held)))
    grows n (inr apart) = λ id held. subst (λ (set : ℕ). Holds set id) (sym (adds.others n apart)) held

    only : (n : ℕ) → (n ≡ target edges k) ⊎ (n ≡ target edges k → ⊥) → (id : ℕ) → Holds (get_or new n 0) id → Holds (get_or old n 0) id ⊎ ComesOver edges node old n id
    only n (inl same) id held = by ((adds.added id).0 (subst (λ (m : ℕ). Holds (get_or new m 0) id) same held))
      where
        by : Holds (get_or mid (target edges k) 0) id ⊎ Holds (get_or old node 0) id → Holds (get_or old n 0) id ⊎ ComesOver edges node old n id
        by (inl earlier) = before.only n id (subst (λ (m : ℕ). Holds (get_or mid m 0) id) (sym same) earlier)
        by (inr comes) = inr (k, here.0, here.1, sym same, comes)
    only n (inr apart) id held = before.only n id (subst (λ (set : ℕ). Holds set id) (adds.others n apart) held)

    passed : (j : ℕ) → next ≤ j → j < length edges → source edges j ≡ node → (j ≡ k) ⊎ ((j < k) ⊎ (k < j)) → Within (get_or old node 0) (get_or new (target edges j) 0)
    passed j from_here below leaves (inl same) = λ id held.
        subst (λ (m : ℕ). Holds (get_or new (target edges m) 0) id) (sym same) ((adds.added id).1 (inr held))
    passed j from_here below leaves (inr (inl earlier)) = absurd (skips j from_here earlier (leaves ∙ sym here.1))
    passed j from_here below leaves (inr (inr later)) = λ id held.
        grows (target edges j) (cases_eq (target edges j) (target edges k)) id (before.passed j (omega arith) below leaves id held)

-- at the end of the chain the set is passed on along each edge
pub passing_last : (edges : List Edge) (node : ℕ) (old : List ℕ) (waited : List Bool) (place : ℕ) (new : List ℕ) (waits : List Bool)
    → place ≡ 0 → Passing edges node old waited place new waits → PassesOn edges node old waited new waits
passing_last edges node old waited place new waits end all = record {
  kept = all.kept;
  only = all.only;
  passed = λ k below leaves. all.passed k (omega arith) below leaves;
  waits_if_grown = all.waits_if_grown;
  same_nodes = all.same_nodes;
}

-- an edge leads to a node
pub target_fits : (nodes : ℕ) (edges : List Edge) (k : ℕ) → Fit nodes edges → k < length edges → target edges k < nodes
target_fits nodes edges k fit below =
    let e : Edge = record { from = 0; to = 0 } in
    let is : target edges k ≡ (get_or edges k e).to = get_or-map (λ (e : Edge). e.to) edges k e 0 below in
    subst (λ (n : ℕ). n < nodes) (sym is) (fit k e below).1
