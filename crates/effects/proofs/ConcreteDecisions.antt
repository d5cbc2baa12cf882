-- Whether a name is in a concrete effect is decided.
use Rattle.std.proofs.Common.{◌≡◌, List, refl, subst, inr}
use Rattle.c_tree.specs.BareExpr.{Bytes}
use Rattle.c_semantics.specs.Store.{Body}
use Rattle.effects.specs.Sites.{Site, IsCall, IsReturn, Next, Uses, after_call}
use Rattle.effects.specs.Concrete.{Concrete}
use Rattle.effects.proofs.Reachable.{Among}
use Rattle.effects.proofs.Decisions.{Decision, same_as, both, some_or_not}
use Rattle.effects.proofs.FiniteFlows.{Finite, flows_or_not}
use Rattle.effects.proofs.Points.{of_is_point, kind_is_point, uses_is_point, next_is_from_point, next_is_to_point}
use Rattle.effects.proofs.StoreSites.{sites, point_is_among, point_is_placed, after_is_placed, used_occurs, function_occurs, called_occurs}
use Rattle.effects.proofs.PointDecisions.{same_site, uses_or_not, call_or_not, return_or_not, next_or_not}
use Rattle.effects.proofs.NodeDecisions.{nodes, same_node, at_is_node, calls_is_node, name_is_node, name_seed_or_not}
use Rattle.effects.proofs.Systems.{Node, At, Calls, Name, NameSeed}
use Rattle.effects.proofs.ConcreteEquations.{ConcreteEdge, used, later, returned, after, concrete_flows}

-- what an edge says of its ends
abbrev Ends : List Body → Node → Node → Type 0
Ends bodies (Name u) (At p) = Uses bodies p u
Ends bodies (At q) (At p) = Next bodies p q
Ends bodies (Calls f) (At r) = IsReturn bodies r f
Ends bodies (At q) (Calls f) = (c : Site) × ((after_call c ≡ q) × IsCall bodies c f)
Ends bodies a b = ⊥

ends : (bodies : List Body) (a b : Node) → ConcreteEdge bodies a b → Ends bodies a b
ends bodies _ _ (used p u uses) = uses
ends bodies _ _ (later p q next) = next
ends bodies _ _ (returned r f ret) = ret
ends bodies _ _ (after c f call) = (c, (refl, call))

edge : (bodies : List Body) (a b : Node) → Ends bodies a b → ConcreteEdge bodies a b
edge bodies (Name u) (At p) e = used p u e
edge bodies (At q) (At p) e = later p q e
edge bodies (Calls f) (At r) e = returned r f e
edge bodies (At q) (Calls f) e = subst (λ s. ConcreteEdge bodies (At s) (Calls f)) e.1.0 (after e.0 f e.1.1)
edge bodies a b e = absurd e

ends_or_not : (bodies : List Body) (a b : Node) → Decision (Ends bodies a b)
ends_or_not bodies (Name u) (At p) = uses_or_not bodies p u
ends_or_not bodies (At q) (At p) = next_or_not bodies p q
ends_or_not bodies (Calls f) (At r) = return_or_not bodies r f
ends_or_not bodies (At q) (Calls f) =
    some_or_not (λ c. (after_call c ≡ q) × IsCall bodies c f) (sites bodies)
    (λ c. both (same_site (after_call c) q) (call_or_not bodies c f))
    (λ c x. point_is_among bodies c (kind_is_point bodies c _ x.1))
ends_or_not bodies a b = inr (λ e. e)

-- edges are between nodes of the store
from : (bodies : List Body) (a b : Node) → ConcreteEdge bodies a b → Among (nodes bodies) a
from bodies _ _ (used p u uses) = name_is_node bodies u (used_occurs bodies p u uses)
from bodies _ _ (later p q next) = at_is_node bodies q (point_is_placed bodies q (next_is_to_point bodies p q next))
from bodies _ _ (returned r f ret) = calls_is_node bodies f (function_occurs bodies r f ret.is_of)
from bodies _ _ (after c f call) =
    at_is_node bodies (after_call c) (after_is_placed bodies c (kind_is_point bodies c _ call))

to : (bodies : List Body) (a b : Node) → ConcreteEdge bodies a b → Among (nodes bodies) b
to bodies _ _ (used p u uses) = at_is_node bodies p (point_is_placed bodies p (uses_is_point bodies p u uses))
to bodies _ _ (later p q next) = at_is_node bodies p (point_is_placed bodies p (next_is_from_point bodies p q next))
to bodies _ _ (returned r f ret) = at_is_node bodies r (point_is_placed bodies r (of_is_point bodies r f ret.is_of))
to bodies _ _ (after c f call) = calls_is_node bodies f (called_occurs bodies c f call)

finite : (bodies : List Body) → Finite NameSeed (ConcreteEdge bodies)
finite bodies = record {
  same = same_node;
  nodes = nodes bodies;
  from_node = from bodies;
  to_node = to bodies;
  seed = name_seed_or_not;
  edge = λ a b. same_as (edge bodies a b) (ends bodies a b) (ends_or_not bodies a b);
}

pub concrete_or_not : (bodies : List Body) (p : Site) (z : Bytes) → Decision (Concrete bodies p z)
concrete_or_not bodies p z =
    let x = concrete_flows bodies p z in
    same_as x.0 x.1 (flows_or_not (finite bodies) (At p) z)
