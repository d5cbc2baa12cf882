-- Whether a name comes to a check-in or to a start from the points that it covers is decided, where it is decided of each
-- point whether it has the name.
use Rattle.std.proofs.Common.{◌≡◌, List, refl, subst, inr, not}
use Rattle.c_tree.specs.BareExpr.{Bytes}
use Rattle.c_semantics.specs.Skeletons.{is_check_in_kind}
use Rattle.c_semantics.specs.Store.{Body}
use Rattle.effects.specs.Sites.{Site, IsCall, IsReturn, IsEntry, Next, Passes, after_call, stays}
use Rattle.effects.proofs.Reachable.{Among}
use Rattle.effects.proofs.Decisions.{Decision, same_as, both, some_or_not}
use Rattle.effects.proofs.FiniteFlows.{Finite, flows_or_not}
use Rattle.effects.proofs.Points.{of_is_point, kind_is_point, passes_is_point, next_is_to_point}
use Rattle.effects.proofs.StoreSites.{sites, point_is_among, point_is_placed, function_occurs, called_occurs}
use Rattle.effects.proofs.PointDecisions.{same_site, passes_or_not, call_or_not, return_or_not, entry_or_not, next_or_not}
use Rattle.effects.proofs.NodeDecisions.{row_nodes, same_row_node, from_is_node, to_is_node, entries_is_node, starts_is_node, returns_is_node}
use Rattle.effects.proofs.RowEquations.{RowNode, From, To, Entries, Starts, Returns, Lands, at_check_in, passing, OwnSeed, RowEdge, on, call, enter, return, resume, start, RowFlows}
use Rattle.effects.proofs.RowEquations as row

-- where a path lands
abbrev LandsIs : List Body → Site → RowNode → Type 0
LandsIs bodies q (To r) = (q ≡ r) × Passes bodies q (λ at. is_check_in_kind at.kind)
LandsIs bodies q (From r) = (q ≡ r) × Passes bodies q (λ at. not (is_check_in_kind at.kind))
LandsIs bodies q n = ⊥

landed : (bodies : List Body) (q : Site) (n : RowNode) → Lands bodies q n → LandsIs bodies q n
landed bodies _ _ (at_check_in q is) = (refl, is)
landed bodies _ _ (passing q is) = (refl, is)

lands : (bodies : List Body) (q : Site) (n : RowNode) → LandsIs bodies q n → Lands bodies q n
lands bodies q (To r) x = subst (λ s. Lands bodies q (To s)) x.0 (at_check_in q x.1)
lands bodies q (From r) x = subst (λ s. Lands bodies q (From s)) x.0 (passing q x.1)
lands bodies q n x = absurd x

lands_is_or_not : (bodies : List Body) (q : Site) (n : RowNode) → Decision (LandsIs bodies q n)
lands_is_or_not bodies q (To r) = both (same_site q r) (passes_or_not bodies q (λ at. is_check_in_kind at.kind))
lands_is_or_not bodies q (From r) = both (same_site q r) (passes_or_not bodies q (λ at. not (is_check_in_kind at.kind)))
lands_is_or_not bodies q n = inr (λ e. e)

lands_or_not : (bodies : List Body) (q : Site) (n : RowNode) → Decision (Lands bodies q n)
lands_or_not bodies q n = same_as (lands bodies q n) (landed bodies q n) (lands_is_or_not bodies q n)

-- what an edge says of its ends
abbrev Ends : List Body → RowNode → RowNode → Type 0
Ends bodies (Entries f) (From p) = IsCall bodies p f
Ends bodies (Returns f) (From p) = IsReturn bodies p f
Ends bodies (Starts f) (From p) = ⊥
Ends bodies n (From p) = (q : Site) × (Passes bodies p (λ at. stays at.kind) × (Next bodies p q × Lands bodies q n))
Ends bodies n (Entries f) = (e : Site) × (IsEntry bodies e f × Lands bodies e n)
Ends bodies n (Returns f) = (c : Site) × (IsCall bodies c f × Lands bodies (after_call c) n)
Ends bodies (To e) (Starts f) = IsEntry bodies e f
Ends bodies a b = ⊥

ends : (bodies : List Body) (a b : RowNode) → RowEdge bodies a b → Ends bodies a b
ends bodies _ _ (on p q _ stay next (at_check_in _ is)) = (q, (stay, (next, at_check_in q is)))
ends bodies _ _ (on p q _ stay next (passing _ is)) = (q, (stay, (next, passing q is)))
ends bodies _ _ (call c f is) = is
ends bodies _ _ (enter e f _ at (at_check_in _ is)) = (e, (at, at_check_in e is))
ends bodies _ _ (enter e f _ at (passing _ is)) = (e, (at, passing e is))
ends bodies _ _ (return r f ret) = ret
ends bodies _ _ (resume c f _ is (at_check_in _ at)) = (c, (is, at_check_in (after_call c) at))
ends bodies _ _ (resume c f _ is (passing _ at)) = (c, (is, passing (after_call c) at))
ends bodies _ _ (start e f at) = at

edge : (bodies : List Body) (a b : RowNode) → Ends bodies a b → RowEdge bodies a b
edge bodies (Entries f) (From p) e = call p f e
edge bodies (Returns f) (From p) e = return p f e
edge bodies (Starts f) (From p) e = absurd e
edge bodies (From r) (From p) e = on p e.0 (From r) e.1.0 e.1.1.0 e.1.1.1
edge bodies (To r) (From p) e = on p e.0 (To r) e.1.0 e.1.1.0 e.1.1.1
edge bodies n (Entries f) e = enter e.0 f n e.1.0 e.1.1
edge bodies n (Returns f) e = resume e.0 f n e.1.0 e.1.1
edge bodies (To e) (Starts f) at = start e f at
edge bodies a b e = absurd e

on_or_not : (bodies : List Body) (n : RowNode) (p : Site)
    → Decision ((q : Site) × (Passes bodies p (λ at. stays at.kind) × (Next bodies p q × Lands bodies q n)))
on_or_not bodies n p =
    some_or_not (λ q. Passes bodies p (λ at. stays at.kind) × (Next bodies p q × Lands bodies q n)) (sites bodies)
    (λ q. both (passes_or_not bodies p (λ at. stays at.kind)) (both (next_or_not bodies p q) (lands_or_not bodies q n)))
    (λ q x. point_is_among bodies q (next_is_to_point bodies p q x.1.0))

ends_or_not : (bodies : List Body) (a b : RowNode) → Decision (Ends bodies a b)
ends_or_not bodies (Entries f) (From p) = call_or_not bodies p f
ends_or_not bodies (Returns f) (From p) = return_or_not bodies p f
ends_or_not bodies (Starts f) (From p) = inr (λ e. e)
ends_or_not bodies (From r) (From p) = on_or_not bodies (From r) p
ends_or_not bodies (To r) (From p) = on_or_not bodies (To r) p
ends_or_not bodies n (Entries f) =
    some_or_not (λ e. IsEntry bodies e f × Lands bodies e n) (sites bodies)
    (λ e. both (entry_or_not bodies e f) (lands_or_not bodies e n))
    (λ e x. point_is_among bodies e (of_is_point bodies e f x.0.is_of))
ends_or_not bodies n (Returns f) =
    some_or_not (λ c. IsCall bodies c f × Lands bodies (after_call c) n) (sites bodies)
    (λ c. both (call_or_not bodies c f) (lands_or_not bodies (after_call c) n))
    (λ c x. point_is_among bodies c (kind_is_point bodies c _ x.0))
ends_or_not bodies (To e) (Starts f) = entry_or_not bodies e f
ends_or_not bodies a b = inr (λ e. e)

-- edges are between nodes of the store
lands_at_node : (bodies : List Body) (q : Site) (n : RowNode) → Lands bodies q n → Among (row_nodes bodies) n
lands_at_node bodies _ _ (at_check_in q is) = to_is_node bodies q (point_is_placed bodies q (passes_is_point bodies q _ is))
lands_at_node bodies _ _ (passing q is) = from_is_node bodies q (point_is_placed bodies q (passes_is_point bodies q _ is))

from : (bodies : List Body) (a b : RowNode) → RowEdge bodies a b → Among (row_nodes bodies) a
from bodies _ _ (on p q n stay next l) = lands_at_node bodies q n l
from bodies _ _ (call c f is) = entries_is_node bodies f (called_occurs bodies c f is)
from bodies _ _ (enter e f n at l) = lands_at_node bodies e n l
from bodies _ _ (return r f ret) = returns_is_node bodies f (function_occurs bodies r f ret.is_of)
from bodies _ _ (resume c f n is l) = lands_at_node bodies (after_call c) n l
from bodies _ _ (start e f at) = to_is_node bodies e (point_is_placed bodies e (of_is_point bodies e f at.is_of))

to : (bodies : List Body) (a b : RowNode) → RowEdge bodies a b → Among (row_nodes bodies) b
to bodies _ _ (on p q n stay next l) = from_is_node bodies p (point_is_placed bodies p (passes_is_point bodies p _ stay))
to bodies _ _ (call c f is) = from_is_node bodies c (point_is_placed bodies c (kind_is_point bodies c _ is))
to bodies _ _ (enter e f n at l) = entries_is_node bodies f (function_occurs bodies e f at.is_of)
to bodies _ _ (return r f ret) = from_is_node bodies r (point_is_placed bodies r (of_is_point bodies r f ret.is_of))
to bodies _ _ (resume c f n is l) = returns_is_node bodies f (called_occurs bodies c f is)
to bodies _ _ (start e f at) = starts_is_node bodies f (function_occurs bodies e f at.is_of)

-- seeds
abbrev OwnIs : (Site → Bytes → Type 0) → RowNode → Bytes → Type 0
OwnIs Own (From p) z = Own p z
OwnIs Own (To p) z = Own p z
OwnIs Own n z = ⊥

owned : (Own : Site → Bytes → Type 0) (n : RowNode) (z : Bytes) → OwnSeed Own n z → OwnIs Own n z
owned Own _ _ (row.from p z own) = own
owned Own _ _ (row.to p z own) = own

owns : (Own : Site → Bytes → Type 0) (n : RowNode) (z : Bytes) → OwnIs Own n z → OwnSeed Own n z
owns Own (From p) z own = row.from p z own
owns Own (To p) z own = row.to p z own
owns Own n z e = absurd e

own_or_not : (Own : Site → Bytes → Type 0) → ((p : Site) (z : Bytes) → Decision (Own p z)) → (n : RowNode) (z : Bytes)
    → Decision (OwnIs Own n z)
own_or_not Own decide (From p) z = decide p z
own_or_not Own decide (To p) z = decide p z
own_or_not Own decide n z = inr (λ e. e)

finite : (bodies : List Body) (Own : Site → Bytes → Type 0) → ((p : Site) (z : Bytes) → Decision (Own p z))
    → Finite (OwnSeed Own) (RowEdge bodies)
finite bodies Own decide = record {
  same = same_row_node;
  nodes = row_nodes bodies;
  from_node = from bodies;
  to_node = to bodies;
  seed = λ n z. same_as (owns Own n z) (owned Own n z) (own_or_not Own decide n z);
  edge = λ a b. same_as (edge bodies a b) (ends bodies a b) (ends_or_not bodies a b);
}

pub row_flows_or_not : (bodies : List Body) (Own : Site → Bytes → Type 0) → ((p : Site) (z : Bytes) → Decision (Own p z))
    → (n : RowNode) (z : Bytes) → Decision (RowFlows bodies Own n z)
row_flows_or_not bodies Own decide n z = flows_or_not (finite bodies Own decide) n z
