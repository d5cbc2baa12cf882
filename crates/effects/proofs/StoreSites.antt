-- A store has finitely many points, and finitely many names occur in it.
use Rattle.std.proofs.Common.{◌≡◌, ℕ, zero, suc, ◌<◌, List, [], ◌∷◌, ◌++◌, Some, None, length, refl, sym, subst, ap, inl, inr, arith}
use Rattle.std.specs.Prelude.{Option, option_map, slice_get}
use Rattle.std.specs.Option.{option_and_then}
use Rattle.std.proofs.lemmas.Bool.{cases_eq}
use Rattle.std.proofs.lemmas.Option.{slice_get_within}
use Rattle.run_types.specs.Skeleton.{Point, PointKind, Call, direct_use, point_at}
use Rattle.c_tree.specs.BareExpr.{Bytes}
use Rattle.c_semantics.specs.Store.{Body}
use Rattle.effects.specs.Sites.{Site, IsOf, IsCall, Uses, point_in, function_in, after_call}
use Rattle.effects.proofs.Reachable.{Among}
use Rattle.effects.proofs.Deciding.{collect, among_left, among_right}
use Rattle.effects.proofs.FiniteFlows.{among_collected}
use Rattle.effects.proofs.Points.{IsPoint, uses_is_point, of_is_point}

-- the numbers below a limit
abbrev below : ℕ → List ℕ
below zero = []
below (suc n) = n ∷ below n

is_below : (n k : ℕ) → k < n → Among (below n) k
is_below zero k l = absurd (none l)
  where
    none : k < zero → ⊥
    none l = omega arith
is_below (suc n) k l = elim (cases_eq n k) [ inl e ↦ inl e | inr other ↦ inr (is_below n k (omega arith)) ]

-- the sites of the points of a body with a place
abbrev sites_of : ℕ → Option Body → List Site
sites_of i None = []
sites_of i (Some b) = collect (λ n. record { body = i; point = n } ∷ []) (below (length b.skeleton.points))

-- all points
abbrev pub sites : List Body → List Site
sites bodies = collect (λ i. sites_of i (slice_get bodies i)) (below (length bodies))

-- a point with its body
record Found (bodies : List Body) (p : Site) : Type 0 where
  body : Body
  at : Point
  stored : slice_get bodies p.body ≡ Some body
  here : point_at body.skeleton p.point ≡ Some at

found : (bodies : List Body) (p : Site) (x : IsPoint bodies p) → Found bodies p
found bodies p x = by (slice_get bodies p.body) refl x.is_point
  where
    by : (o : Option Body) → slice_get bodies p.body ≡ o
        → option_and_then (λ b. point_at b.skeleton p.point) o ≡ Some x.point → Found bodies p
    by None e h = cc
    by (Some b) e h = record { body = b; at = x.point; stored = e; here = h }

pub point_is_among : (bodies : List Body) (p : Site) → IsPoint bodies p → Among (sites bodies) p
point_is_among bodies p x =
    let y = found bodies p x in
    among_collected (λ i. sites_of i (slice_get bodies i)) (below (length bodies)) p.body p
    (is_below (length bodies) p.body (slice_get_within bodies p.body y.body y.stored))
    (subst (λ o. Among (sites_of p.body o) p) (sym y.stored)
    (among_collected (λ n. record { body = p.body; point = n } ∷ []) (below (length y.body.skeleton.points)) p.point p
    (is_below (length y.body.skeleton.points) p.point (slice_get_within y.body.skeleton.points p.point y.at y.here))
    (inl refl)))

-- the points, and the places after them
abbrev pub places : List Body → List Site
places bodies = sites bodies ++ collect (λ p. after_call p ∷ []) (sites bodies)

pub point_is_placed : (bodies : List Body) (p : Site) → IsPoint bodies p → Among (places bodies) p
point_is_placed bodies p x =
    among_left (sites bodies) (collect (λ q. after_call q ∷ []) (sites bodies)) p (point_is_among bodies p x)

pub after_is_placed : (bodies : List Body) (p : Site) → IsPoint bodies p → Among (places bodies) (after_call p)
after_is_placed bodies p x =
    among_right (sites bodies) (collect (λ q. after_call q ∷ []) (sites bodies)) (after_call p)
    (among_collected (λ q. after_call q ∷ []) (sites bodies) p (after_call p) (point_is_among bodies p x) (inl refl))

-- the names that occur: those that points use, and the functions of the bodies
abbrev name_of : Option Bytes → List Bytes
name_of None = []
name_of (Some z) = z ∷ []

abbrev names_at : List Body → Site → List Bytes
names_at bodies p = name_of (option_and_then (λ at. direct_use at.kind) (point_in bodies p)) ++ name_of (function_in bodies p)

abbrev pub occurring : List Body → List Bytes
occurring bodies = collect (names_at bodies) (sites bodies)

pub used_occurs : (bodies : List Body) (p : Site) (z : Bytes) → Uses bodies p z → Among (occurring bodies) z
used_occurs bodies p z x =
    among_collected (names_at bodies) (sites bodies) p z (point_is_among bodies p (uses_is_point bodies p z x))
    (among_left (name_of (option_and_then (λ at. direct_use at.kind) (point_in bodies p))) (name_of (function_in bodies p)) z
    (subst (λ o. Among (name_of o) z) (sym x.uses) (inl refl)))

pub function_occurs : (bodies : List Body) (p : Site) (f : Bytes) → IsOf bodies p f → Among (occurring bodies) f
function_occurs bodies p f x =
    among_collected (names_at bodies) (sites bodies) p f (point_is_among bodies p (of_is_point bodies p f x))
    (among_right (name_of (option_and_then (λ at. direct_use at.kind) (point_in bodies p))) (name_of (function_in bodies p)) f
    (subst (λ o. Among (name_of o) f) (sym x.is_of) (inl refl)))

-- a call uses its function
pub call_uses : (bodies : List Body) (c : Site) (f : Bytes) → IsCall bodies c f → Uses bodies c f
call_uses bodies c f x = record { uses = by (point_in bodies c) x.is_kind }
  where
    item : (a b : PointKind) → Some a ≡ Some b → a ≡ b
    item a b e = cc

    by : (o : Option Point) → option_map (λ at. at.kind) o ≡ Some (Call f)
        → option_and_then (λ at. direct_use at.kind) o ≡ Some f
    by None e = cc
    by (Some at) e = ap direct_use (item at.kind (Call f) e)

pub called_occurs : (bodies : List Body) (c : Site) (f : Bytes) → IsCall bodies c f → Among (occurring bodies) f
called_occurs bodies c f x = used_occurs bodies c f (call_uses bodies c f x)
