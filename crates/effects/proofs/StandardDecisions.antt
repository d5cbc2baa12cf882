-- Whether a name is in a standard effect is decided.
use Rattle.std.proofs.Common.{List, inr}
use Rattle.c_tree.specs.BareExpr.{Bytes}
use Rattle.c_semantics.specs.Store.{Body}
use Rattle.effects.specs.Sites.{Site, IsOf, IsCall, Uses}
use Rattle.effects.specs.Standard.{Standard}
use Rattle.effects.proofs.Reachable.{Among}
use Rattle.effects.proofs.Decisions.{Decision, same_as, both, some_or_not}
use Rattle.effects.proofs.FiniteFlows.{Finite, flows_or_not}
use Rattle.effects.proofs.Points.{of_is_point}
use Rattle.effects.proofs.StoreSites.{sites, point_is_among, used_occurs, function_occurs, called_occurs}
use Rattle.effects.proofs.PointDecisions.{of_or_not, uses_or_not, call_or_not}
use Rattle.effects.proofs.NodeDecisions.{nodes, same_node, whole_is_node, name_is_node, name_seed_or_not}
use Rattle.effects.proofs.Systems.{Node, Whole, Name, NameSeed}
use Rattle.effects.proofs.StandardEquations.{StandardEdge, used, called, standard_flows}

-- what an edge says of its ends
abbrev Ends : List Body → Node → Node → Type 0
Ends bodies (Name u) (Whole g) = (p : Site) × (IsOf bodies p g × Uses bodies p u)
Ends bodies (Whole f) (Whole g) = (c : Site) × (IsOf bodies c g × IsCall bodies c f)
Ends bodies a b = ⊥

ends : (bodies : List Body) (a b : Node) → StandardEdge bodies a b → Ends bodies a b
ends bodies _ _ (used u g p of uses) = (p, (of, uses))
ends bodies _ _ (called f g c of call) = (c, (of, call))

edge : (bodies : List Body) (a b : Node) → Ends bodies a b → StandardEdge bodies a b
edge bodies (Name u) (Whole g) e = used u g e.0 e.1.0 e.1.1
edge bodies (Whole f) (Whole g) e = called f g e.0 e.1.0 e.1.1
edge bodies a b e = absurd e

ends_or_not : (bodies : List Body) (a b : Node) → Decision (Ends bodies a b)
ends_or_not bodies (Name u) (Whole g) =
    some_or_not (λ p. IsOf bodies p g × Uses bodies p u) (sites bodies) (λ p. both (of_or_not bodies p g) (uses_or_not bodies p u))
    (λ p x. point_is_among bodies p (of_is_point bodies p g x.0))
ends_or_not bodies (Whole f) (Whole g) =
    some_or_not (λ c. IsOf bodies c g × IsCall bodies c f) (sites bodies) (λ c. both (of_or_not bodies c g) (call_or_not bodies c f))
    (λ c x. point_is_among bodies c (of_is_point bodies c g x.0))
ends_or_not bodies a b = inr (λ e. e)

from : (bodies : List Body) (a b : Node) → StandardEdge bodies a b → Among (nodes bodies) a
from bodies _ _ (used u g p of uses) = name_is_node bodies u (used_occurs bodies p u uses)
from bodies _ _ (called f g c of call) = whole_is_node bodies f (called_occurs bodies c f call)

to : (bodies : List Body) (a b : Node) → StandardEdge bodies a b → Among (nodes bodies) b
to bodies _ _ (used u g p of uses) = whole_is_node bodies g (function_occurs bodies p g of)
to bodies _ _ (called f g c of call) = whole_is_node bodies g (function_occurs bodies c g of)

finite : (bodies : List Body) → Finite NameSeed (StandardEdge bodies)
finite bodies = record {
  same = same_node;
  nodes = nodes bodies;
  from_node = from bodies;
  to_node = to bodies;
  seed = name_seed_or_not;
  edge = λ a b. same_as (edge bodies a b) (ends bodies a b) (ends_or_not bodies a b);
}

pub standard_or_not : (bodies : List Body) (f z : Bytes) → Decision (Standard bodies f z)
standard_or_not bodies f z =
    let x = standard_flows bodies f z in
    same_as x.0 x.1 (flows_or_not (finite bodies) (Whole f) z)
