-- The sets while nodes wait, and the least sets once none waits.
use Rattle.std.proofs.Common.{◌≡◌, ℕ, ◌<◌, ◌⊎◌, ◌↔◌, Bool, false, true, List, length, get_or, replicate, sym, ap, subst, ◌∙◌, inl, inr, arith}
use Rattle.std.specs.List.{Contains}
use Rattle.std.proofs.lemmas.List.{get_or-map, get_or-replicate, get_or_default, get_or-set_other}
use Rattle.std.proofs.lemmas.Bool.{cases_eq, false≢true}
use Rattle.name_sets.specs.IdSet.{Holds}
use Rattle.set_constraints.specs.declared.constraint.Edge.{Edge}
use Rattle.set_constraints.specs.Constraints.{Fit, Reaches, seeded, along}
use Rattle.set_constraints.specs.Chains.{source, target}
use Rattle.set_constraints.specs.Waiting.{NoneWaits, Takes}
use Rattle.set_constraints.specs.Passing.{Rests, Within, ComesOver, PassesOn}
use Rattle.set_constraints.proofs.ReachLemmas.{reached_in}

-- what an edge's place says of it
at_source : (edges : List Edge) (k : ℕ) (e : Edge) → k < length edges → source edges k ≡ (get_or edges k e).from
at_source edges k e below = get_or-map (λ (e : Edge). e.from) edges k e 0 below

at_target : (edges : List Edge) (k : ℕ) (e : Edge) → k < length edges → target edges k ≡ (get_or edges k e).to
at_target edges k e below = get_or-map (λ (e : Edge). e.to) edges k e 0 below

some_edge : Edge
some_edge = record { from = 0; to = 0 }

-- a name comes over an edge that is given by its place
over_edge : (seeds : List ℕ) (edges : List Edge) (k id : ℕ) → k < length edges → Reaches seeds edges (source edges k) id → Reaches seeds edges (target edges k) id
over_edge seeds edges k id below reached =
    let e = get_or edges k some_edge in
    let among : Contains edges e = (k, below, get_or_default edges k e some_edge below) in
    let at = subst (λ (n : ℕ). Reaches seeds edges n id) (at_source edges k some_edge below) reached in
    subst (λ (n : ℕ). Reaches seeds edges n id) (sym (at_target edges k some_edge below)) (along e id among at)

-- the sets are reached, and meet each edge whose beginning doesn't wait
pub record UnderWay (seeds : List ℕ) (edges : List Edge) (sets : List ℕ) (waits : List Bool) : Type 0 where
  pub reached : (n id : ℕ) → Holds (get_or sets n 0) id → Reaches seeds edges n id
  pub first : (n : ℕ) → Within (get_or seeds n 0) (get_or sets n 0)
  pub passed : (k : ℕ) → k < length edges → Rests waits (source edges k) → Within (get_or sets (source edges k) 0) (get_or sets (target edges k) 0)

-- at first all nodes wait
pub under_way_first : (seeds : List ℕ) (edges : List Edge) → Fit (length seeds) edges → UnderWay seeds edges seeds (replicate (length seeds) true)
under_way_first seeds edges fit = record {
  reached = λ n id held. seeded n id held;
  first = λ n id held. held;
  passed = λ k below rests.
      let inside : source edges k < length seeds = omega (arith, at_source edges k some_edge below, (fit k some_edge below).0) in
      absurd (false≢true (sym rests ∙ get_or-replicate (length seeds) (source edges k) true false inside));
}

-- a node is taken out, and its set is passed on
pub under_way_more : (seeds : List ℕ) (edges : List Edge) (node : ℕ) (old : List ℕ) (waited taken : List Bool) (new : List ℕ) (waits : List Bool)
    → UnderWay seeds edges old waited → Takes waited node taken → PassesOn edges node old taken new waits → UnderWay seeds edges new waits
under_way_more seeds edges node old waited taken new waits before takes passes = record {
  reached = λ n id held. reached n id (passes.only n id held);
  first = λ n id held. passes.kept n id (before.first n id held);
  passed = λ k below rests id held.
      let h = passes.waits_if_grown (source edges k) rests in
      passed k below h.0 id (subst (λ (set : ℕ). Holds set id) h.1 held) (cases_eq (source edges k) node);
}
  where
    reached : (n id : ℕ) → Holds (get_or old n 0) id ⊎ ComesOver edges node old n id → Reaches seeds edges n id
    reached n id (inl earlier) = before.reached n id earlier
    reached n id (inr (k, below, leaves, leads, held)) =
        let start = subst (λ (m : ℕ). Reaches seeds edges m id) (sym leaves) (before.reached node id held) in
        subst (λ (m : ℕ). Reaches seeds edges m id) leads (over_edge seeds edges k id below start)

    passed : (k : ℕ) → k < length edges → Rests taken (source edges k) → (id : ℕ) → Holds (get_or old (source edges k) 0) id
        → (source edges k ≡ node) ⊎ (source edges k ≡ node → ⊥) → Holds (get_or new (target edges k) 0) id
    passed k below rests id held (inl here) = passes.passed k below here id (subst (λ (m : ℕ). Holds (get_or old m 0) id) here held)
    passed k below rests id held (inr apart) =
        let rested : Rests waited (source edges k) = sym (get_or-set_other waited node (source edges k) false false apart) ∙ subst (λ (w : List Bool). Rests w (source edges k)) takes.waits rests in
        passes.kept (target edges k) id (before.passed k below rested id held)

-- once none waits, the sets are the least
pub least_at_last : (seeds : List ℕ) (edges : List Edge) (sets : List ℕ) (waits : List Bool)
    → UnderWay seeds edges sets waits → NoneWaits waits → (n id : ℕ) → Holds (get_or sets n 0) id ↔ Reaches seeds edges n id
least_at_last seeds edges sets waits all none n id =
    (all.reached n id, λ reaches. reached_in seeds edges (λ n id. Holds (get_or sets n 0) id) all.first meets n id reaches)
  where
    meets : (e : Edge) (id : ℕ) → Contains edges e → Holds (get_or sets e.from 0) id → Holds (get_or sets e.to 0) id
    meets e id (k, below, is) held =
        let from : source edges k ≡ e.from = at_source edges k e below ∙ ap (λ (e : Edge). e.from) is in
        let to : target edges k ≡ e.to = at_target edges k e below ∙ ap (λ (e : Edge). e.to) is in
        let there = all.passed k below (none (source edges k)) id (subst (λ (m : ℕ). Holds (get_or sets m 0) id) (sym from) held) in
        subst (λ (m : ℕ). Holds (get_or sets m 0) id) to there
