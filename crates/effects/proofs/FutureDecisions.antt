-- Whether a name is in a future effect is decided.
use Rattle.std.proofs.Common.{◌≡◌, List, refl, subst, inr}
use Rattle.c_tree.specs.BareExpr.{Bytes}
use Rattle.c_semantics.specs.Store.{Body}
use Rattle.effects.specs.Sites.{Site, IsCall, IsReturn, Next, Uses, after_call}
use Rattle.effects.specs.Nested.{GoesOn}
use Rattle.effects.specs.Contextual.{Future}
use Rattle.effects.proofs.Reachable.{Among}
use Rattle.effects.proofs.Decisions.{Decision, same_as, both, some_or_not}
use Rattle.effects.proofs.FiniteFlows.{Finite, flows_or_not}
use Rattle.effects.proofs.Points.{of_is_point, kind_is_point, goes_on_is_point, next_is_to_point}
use Rattle.effects.proofs.StoreSites.{sites, point_is_among, point_is_placed, after_is_placed, used_occurs, function_occurs, called_occurs}
use Rattle.effects.proofs.PointDecisions.{same_site, uses_or_not, call_or_not, return_or_not, next_or_not, goes_on_or_not}
use Rattle.effects.proofs.NodeDecisions.{nodes, same_node, at_is_node, calls_is_node, whole_is_node, name_is_node, effect_seed_or_not}
use Rattle.effects.proofs.StandardDecisions.{standard_or_not}
use Rattle.effects.proofs.Systems.{Node, At, Calls, Whole, Name, EffectSeed}
use Rattle.effects.proofs.FutureEquations.{FutureEdge, used, called, later, returned, after, future_flows}

-- what an edge says of its ends
abbrev Ends : List Body → Node → Node → Type 0
Ends bodies (Name u) (At p) = GoesOn bodies p × Uses bodies p u
Ends bodies (Whole f) (At p) = GoesOn bodies p × IsCall bodies p f
Ends bodies (At q) (At p) = GoesOn bodies p × Next bodies p q
Ends bodies (Calls f) (At r) = IsReturn bodies r f
Ends bodies (At q) (Calls f) = (c : Site) × ((after_call c ≡ q) × IsCall bodies c f)
Ends bodies a b = ⊥

ends : (bodies : List Body) (a b : Node) → FutureEdge bodies a b → Ends bodies a b
ends bodies _ _ (used p u goes uses) = (goes, uses)
ends bodies _ _ (called p f goes call) = (goes, call)
ends bodies _ _ (later p q goes next) = (goes, next)
ends bodies _ _ (returned r f ret) = ret
ends bodies _ _ (after c f call) = (c, (refl, call))

edge : (bodies : List Body) (a b : Node) → Ends bodies a b → FutureEdge bodies a b
edge bodies (Name u) (At p) e = used p u e.0 e.1
edge bodies (Whole f) (At p) e = called p f e.0 e.1
edge bodies (At q) (At p) e = later p q e.0 e.1
edge bodies (Calls f) (At r) e = returned r f e
edge bodies (At q) (Calls f) e = subst (λ s. FutureEdge bodies (At s) (Calls f)) e.1.0 (after e.0 f e.1.1)
edge bodies a b e = absurd e

ends_or_not : (bodies : List Body) (a b : Node) → Decision (Ends bodies a b)
ends_or_not bodies (Name u) (At p) = both (goes_on_or_not bodies p) (uses_or_not bodies p u)
ends_or_not bodies (Whole f) (At p) = both (goes_on_or_not bodies p) (call_or_not bodies p f)
ends_or_not bodies (At q) (At p) = both (goes_on_or_not bodies p) (next_or_not bodies p q)
ends_or_not bodies (Calls f) (At r) = return_or_not bodies r f
ends_or_not bodies (At q) (Calls f) =
    some_or_not (λ c. (after_call c ≡ q) × IsCall bodies c f) (sites bodies)
    (λ c. both (same_site (after_call c) q) (call_or_not bodies c f))
    (λ c x. point_is_among bodies c (kind_is_point bodies c _ x.1))
ends_or_not bodies a b = inr (λ e. e)

-- edges are between nodes of the store
goes : (bodies : List Body) (p : Site) → GoesOn bodies p → Among (nodes bodies) (At p)
goes bodies p on = at_is_node bodies p (point_is_placed bodies p (goes_on_is_point bodies p on))

from : (bodies : List Body) (a b : Node) → FutureEdge bodies a b → Among (nodes bodies) a
from bodies _ _ (used p u on uses) = name_is_node bodies u (used_occurs bodies p u uses)
from bodies _ _ (called p f on call) = whole_is_node bodies f (called_occurs bodies p f call)
from bodies _ _ (later p q on next) = at_is_node bodies q (point_is_placed bodies q (next_is_to_point bodies p q next))
from bodies _ _ (returned r f ret) = calls_is_node bodies f (function_occurs bodies r f ret.is_of)
from bodies _ _ (after c f call) =
    at_is_node bodies (after_call c) (after_is_placed bodies c (kind_is_point bodies c _ call))

to : (bodies : List Body) (a b : Node) → FutureEdge bodies a b → Among (nodes bodies) b
to bodies _ _ (used p u on uses) = goes bodies p on
to bodies _ _ (called p f on call) = goes bodies p on
to bodies _ _ (later p q on next) = goes bodies p on
to bodies _ _ (returned r f ret) = at_is_node bodies r (point_is_placed bodies r (of_is_point bodies r f ret.is_of))
to bodies _ _ (after c f call) = calls_is_node bodies f (called_occurs bodies c f call)

finite : (bodies : List Body) → Finite (EffectSeed bodies) (FutureEdge bodies)
finite bodies = record {
  same = same_node;
  nodes = nodes bodies;
  from_node = from bodies;
  to_node = to bodies;
  seed = effect_seed_or_not bodies (standard_or_not bodies);
  edge = λ a b. same_as (edge bodies a b) (ends bodies a b) (ends_or_not bodies a b);
}

pub future_or_not : (bodies : List Body) (p : Site) (z : Bytes) → Decision (Future bodies p z)
future_or_not bodies p z =
    let x = future_flows bodies p z in
    same_as x.0 x.1 (flows_or_not (finite bodies) (At p) z)
