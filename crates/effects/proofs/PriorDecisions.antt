-- Whether a name is in a prior effect is decided.
use Rattle.std.proofs.Common.{List, ◌⊎◌, inl, inr}
use Rattle.c_tree.specs.BareExpr.{Bytes}
use Rattle.c_semantics.specs.Store.{Body}
use Rattle.effects.specs.Sites.{Site, IsCall, IsEntry, Next, Uses}
use Rattle.effects.specs.Nested.{Nested, Inside}
use Rattle.effects.specs.Contextual.{Prior}
use Rattle.effects.proofs.Reachable.{Among}
use Rattle.effects.proofs.Deciding.{nested_or_not}
use Rattle.effects.proofs.Decisions.{Decision, same_as, both, either, some_or_not}
use Rattle.effects.proofs.FiniteFlows.{Finite, flows_or_not}
use Rattle.effects.proofs.Points.{of_is_point, kind_is_point, next_is_from_point, next_is_to_point}
use Rattle.effects.proofs.StoreSites.{sites, point_is_among, point_is_placed, used_occurs, function_occurs, called_occurs}
use Rattle.effects.proofs.PointDecisions.{uses_or_not, call_or_not, entry_or_not, next_or_not, inside_or_not}
use Rattle.effects.proofs.NodeDecisions.{nodes, same_node, at_is_node, calls_is_node, whole_is_node, name_is_node, effect_seed_or_not}
use Rattle.effects.proofs.StandardDecisions.{standard_or_not}
use Rattle.effects.proofs.Systems.{Node, At, Calls, Whole, Name, EffectSeed}
use Rattle.effects.proofs.PriorEquations.{PriorEdge, before, used, called, entered, from_calls, at_call, prior_flows}

-- what an edge says of its ends
abbrev Ends : List Body → Node → Node → Type 0
Ends bodies (At a) (At b) = Inside bodies b × Next bodies a b
Ends bodies (Name u) (At b) =
    ((a : Site) × (Inside bodies b × (Next bodies a b × Uses bodies a u))) ⊎ (IsEntry bodies b u × Nested bodies u)
Ends bodies (Whole f) (At b) = (a : Site) × (Inside bodies b × (Next bodies a b × IsCall bodies a f))
Ends bodies (Calls f) (At e) = IsEntry bodies e f × Nested bodies f
Ends bodies (At c) (Calls f) = IsCall bodies c f × Inside bodies c
Ends bodies a b = ⊥

ends : (bodies : List Body) (a b : Node) → PriorEdge bodies a b → Ends bodies a b
ends bodies _ _ (before a b inside next) = (inside, next)
ends bodies _ _ (used a b u inside next uses) = inl (a, (inside, (next, uses)))
ends bodies _ _ (called a b f inside next call) = (a, (inside, (next, call)))
ends bodies _ _ (entered e f at n) = inr (at, n)
ends bodies _ _ (from_calls e f at n) = (at, n)
ends bodies _ _ (at_call c f call inside) = (call, inside)

edge : (bodies : List Body) (a b : Node) → Ends bodies a b → PriorEdge bodies a b
edge bodies (At a) (At b) e = before a b e.0 e.1
edge bodies (Name u) (At b) (inl e) = used e.0 b u e.1.0 e.1.1.0 e.1.1.1
edge bodies (Name u) (At b) (inr e) = entered b u e.0 e.1
edge bodies (Whole f) (At b) e = called e.0 b f e.1.0 e.1.1.0 e.1.1.1
edge bodies (Calls f) (At b) e = from_calls b f e.0 e.1
edge bodies (At c) (Calls f) e = at_call c f e.0 e.1
edge bodies a b e = absurd e

ends_or_not : (bodies : List Body) (a b : Node) → Decision (Ends bodies a b)
ends_or_not bodies (At a) (At b) = both (inside_or_not bodies b) (next_or_not bodies a b)
ends_or_not bodies (Name u) (At b) =
    either
    (some_or_not (λ a. Inside bodies b × (Next bodies a b × Uses bodies a u)) (sites bodies)
    (λ a. both (inside_or_not bodies b) (both (next_or_not bodies a b) (uses_or_not bodies a u)))
    (λ a x. point_is_among bodies a (next_is_from_point bodies a b x.1.0)))
    (both (entry_or_not bodies b u) (nested_or_not bodies u))
ends_or_not bodies (Whole f) (At b) =
    some_or_not (λ a. Inside bodies b × (Next bodies a b × IsCall bodies a f)) (sites bodies)
    (λ a. both (inside_or_not bodies b) (both (next_or_not bodies a b) (call_or_not bodies a f)))
    (λ a x. point_is_among bodies a (next_is_from_point bodies a b x.1.0))
ends_or_not bodies (Calls f) (At b) = both (entry_or_not bodies b f) (nested_or_not bodies f)
ends_or_not bodies (At c) (Calls f) = both (call_or_not bodies c f) (inside_or_not bodies c)
ends_or_not bodies a b = inr (λ e. e)

-- edges are between nodes of the store
from_site : (bodies : List Body) (a b : Site) → Next bodies a b → Among (nodes bodies) (At a)
from_site bodies a b next = at_is_node bodies a (point_is_placed bodies a (next_is_from_point bodies a b next))

to_site : (bodies : List Body) (a b : Site) → Next bodies a b → Among (nodes bodies) (At b)
to_site bodies a b next = at_is_node bodies b (point_is_placed bodies b (next_is_to_point bodies a b next))

at_entry : (bodies : List Body) (e : Site) (f : Bytes) → IsEntry bodies e f → Among (nodes bodies) (At e)
at_entry bodies e f at = at_is_node bodies e (point_is_placed bodies e (of_is_point bodies e f at.is_of))

from : (bodies : List Body) (a b : Node) → PriorEdge bodies a b → Among (nodes bodies) a
from bodies _ _ (before a b inside next) = from_site bodies a b next
from bodies _ _ (used a b u inside next uses) = name_is_node bodies u (used_occurs bodies a u uses)
from bodies _ _ (called a b f inside next call) = whole_is_node bodies f (called_occurs bodies a f call)
from bodies _ _ (entered e f at n) = name_is_node bodies f (function_occurs bodies e f at.is_of)
from bodies _ _ (from_calls e f at n) = calls_is_node bodies f (function_occurs bodies e f at.is_of)
from bodies _ _ (at_call c f call inside) = at_is_node bodies c (point_is_placed bodies c (kind_is_point bodies c _ call))

to : (bodies : List Body) (a b : Node) → PriorEdge bodies a b → Among (nodes bodies) b
to bodies _ _ (before a b inside next) = to_site bodies a b next
to bodies _ _ (used a b u inside next uses) = to_site bodies a b next
to bodies _ _ (called a b f inside next call) = to_site bodies a b next
to bodies _ _ (entered e f at n) = at_entry bodies e f at
to bodies _ _ (from_calls e f at n) = at_entry bodies e f at
to bodies _ _ (at_call c f call inside) = calls_is_node bodies f (called_occurs bodies c f call)

finite : (bodies : List Body) → Finite (EffectSeed bodies) (PriorEdge bodies)
finite bodies = record {
  same = same_node;
  nodes = nodes bodies;
  from_node = from bodies;
  to_node = to bodies;
  seed = effect_seed_or_not bodies (standard_or_not bodies);
  edge = λ a b. same_as (edge bodies a b) (ends bodies a b) (ends_or_not bodies a b);
}

pub prior_or_not : (bodies : List Body) (p : Site) (z : Bytes) → Decision (Prior bodies p z)
prior_or_not bodies p z =
    let x = prior_flows bodies p z in
    same_as x.0 x.1 (flows_or_not (finite bodies) (At p) z)
