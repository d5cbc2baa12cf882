-- The nodes of what a point of a flow uses, what it calls, and its function, by their numbers.
use Rattle.std.proofs.Common.{◌≡◌, ℕ, ◌+◌, ◌<◌, ◌≤◌, Bool, true, false, ◌⊎◌, ◌↔◌, inl, inr, List, [], Option, Some, None, length, get_or, refl, sym, ap, ◌∙◌, subst, arith}
use Rattle.std.specs.Prelude.{◌==◌, ◌&&◌, ◌||◌, not, nat_lt, IfSome, slice_get}
use Rattle.std.specs.Int.{bit_at}
use Rattle.std.proofs.lemmas.Bool.Decides.{nat_tests}
use Rattle.std.proofs.lemmas.Option.{slice_get-get_or, same_Some}
use Rattle.name_sets.specs.IdSet.{Holds}
use Rattle.skeletons.specs.Meaning.{used_at, called_at}
use Rattle.skeletons.specs.declared.point.PointKind.{PointKind}
use Rattle.skeletons.specs.declared.point.PointKind.TheVariants.{Return, End}
use Rattle.skeletons.specs.declared.point.Point.{Point}
use Rattle.c_tree.specs.BareExpr.{Bytes}
use Rattle.c_semantics.specs.Store.{Body}
use Rattle.effects.specs.Sites.{Site, IsOf, IsCall, IsEntry, Passes, Uses, is_enclosed, is_outer_end}
use Rattle.effects.specs.Nested.{Nested, Inside, GoesOn}
use Rattle.effect_flow.specs.declared.flow.FlowPoint.{FlowPoint}
use Rattle.effect_flow.specs.Parts.{Contents, HasIdsBelow}
use Rattle.effect_flow.specs.Flows.{place_of, IsFlowOf}
use Rattle.effect_flow.proofs.FlowPoints.{IsAt, IsIdOf, site_at, point_at_place, place_within, is_of_at, enclosed_at, no_outer_end_at, uses_at, call_at, entry_at}
use Rattle.effect_flow.proofs.Places.{one_site}
use Rattle.effect_flow.proofs.PointKinds.{outer_end}
use Rattle.contextual_effects.specs.Edges.{in_block, has, is_return, is_end, is_inside, goes_on, enters}
use Rattle.contextual_effects.specs.Steps.{Numbers, HasNested}
use Rattle.contextual_effects.proofs.Numbering.{ArePlaces, InBlock}
use Rattle.effects.proofs.Points.{inside_by_function, goes_on_by_function}
use Rattle.contextual_effects.proofs.Fitting.{called_below, known_at}

-- the place of a site
abbrev pub Place : List Body → Site → ℕ → Type 0
Place bodies p i = place_of bodies p ≡ Some i

-- a flow of some bodies, and its numbers
pub record Setting (names : List Bytes) (bodies : List Body) (flow : Contents) (points ids : ℕ) : Type 0 where
  pub is_flow : IsFlowOf names bodies flow
  pub numbers : Numbers points ids flow

pub within : {names : List Bytes} {bodies : List Body} {flow : Contents} {points ids : ℕ} → Setting names bodies flow points ids → ids ≤ length names
within {names} s = s.numbers.least (length names) s.is_flow.known

pub places : {names : List Bytes} {bodies : List Body} {flow : Contents} {points ids : ℕ} → Setting names bodies flow points ids
    → ArePlaces (Place bodies) points
places {bodies} {flow} {points} s = record {
  below = λ p i at. let l : i < length flow.points = place_within p s.is_flow at in
      let many : length flow.points ≡ points = s.numbers.many in
      omega arith;
  one = one_site bodies;
}

-- an id that a point has stands for a name of which something is said
pub record Aspect (names : List Bytes) (ids : ℕ) (o : Option ℕ) (In : Bytes → Type 0) : Type 0 where
  pub below : IfSome o (λ u. u < ids)
  pub same : (z : Bytes) → In z ↔ IsIdOf names o z

pub record Stands (names : List Bytes) (ids start m : ℕ) (In : Bytes → Type 0) : Type 0 where
  pub name : Bytes
  pub said : In name
  pub number : InBlock names ids start name m

pub stands : {names : List Bytes} {ids : ℕ} {o : Option ℕ} {In : Bytes → Type 0} (start m : ℕ) → ids ≤ length names → Aspect names ids o In
    → in_block start o ≡ Some m → Stands names ids start m In
stands {names} {ids} {o} {In} start m within a e = by o a.below (λ z w. (a.same z).1 w) e
  where
    by : (o : Option ℕ) → IfSome o (λ u. u < ids) → ((z : Bytes) → IsIdOf names o z → In z) → in_block start o ≡ Some m
        → Stands names ids start m In
    by None l back e = cc
    by (Some u) l back e =
        let named : slice_get names u ≡ Some (get_or names u []) = slice_get-get_or names u [] (omega arith) in
        record {
          name = get_or names u [];
          said = back (get_or names u []) (record { id = u; is_id = refl; of_name = named });
          number = record { id = u; named = named; below = l; number = sym (same_Some (start + u) m e) };
        }

pub record Taken (names : List Bytes) (ids start : ℕ) (o : Option ℕ) (z : Bytes) : Type 0 where
  pub m : ℕ
  pub is : in_block start o ≡ Some m
  pub number : InBlock names ids start z m

below_at : (o : Option ℕ) (u ids : ℕ) → IfSome o (λ u. u < ids) → o ≡ Some u → u < ids
below_at None u ids l e = cc
below_at (Some v) u ids l e = let same : v ≡ u = same_Some v u e in omega arith

pub taken : {names : List Bytes} {ids : ℕ} {o : Option ℕ} {In : Bytes → Type 0} (start : ℕ) (z : Bytes) → Aspect names ids o In
    → In z → Taken names ids start o z
taken {names} {ids} {o} start z a x =
    let w = (a.same z).0 x in
    record {
      m = start + w.id;
      is = ap (in_block start) w.is_id;
      number = record { id = w.id; named = w.of_name; below = below_at o w.id ids a.below w.is_id; number = refl };
    }

-- what is used, what is called, and the function of the body
pub used_aspect : {names : List Bytes} {bodies : List Body} {flow : Contents} {p : Site} {i : ℕ} {x : FlowPoint} (ids : ℕ)
    → IsAt names bodies flow p i x → HasIdsBelow ids x → Aspect names ids (used_at x.point.kind) (Uses bodies p)
used_aspect ids a known = record { below = known.used; same = λ z. uses_at z a }

pub called_aspect : {names : List Bytes} {bodies : List Body} {flow : Contents} {p : Site} {i : ℕ} {x : FlowPoint} (ids : ℕ)
    → IsAt names bodies flow p i x → HasIdsBelow ids x → Aspect names ids (called_at x.point.kind) (IsCall bodies p)
called_aspect {x = x} ids a known = record { below = called_below x.point.kind ids known.used; same = λ z. call_at z a }

pub own_aspect : {names : List Bytes} {bodies : List Body} {flow : Contents} {p : Site} {i : ℕ} {x : FlowPoint} (ids : ℕ)
    → IsAt names bodies flow p i x → HasIdsBelow ids x → Aspect names ids (Some x.function) (IsOf bodies p)
own_aspect {names} {x = x} ids a known = record {
  below = known.function;
  same = λ z.
      let of = is_of_at z a in (
        λ o. record { id = x.function; is_id = refl; of_name = of.0 o },
        λ w. of.1 (subst (λ n. slice_get names n ≡ Some z) (sym (same_Some x.function w.id w.is_id)) w.of_name),
      );
}

-- the point of a site, with its ids
pub record Here (names : List Bytes) (bodies : List Body) (flow : Contents) (ids : ℕ) (p : Site) (i : ℕ) (x : FlowPoint) : Type 0 where
  pub at : IsAt names bodies flow p i x
  pub known : HasIdsBelow ids x

pub here : {names : List Bytes} {bodies : List Body} {flow : Contents} {points ids : ℕ} {p : Site} {i : ℕ} {x : FlowPoint}
    → Setting names bodies flow points ids → IsAt names bodies flow p i x → Here names bodies flow ids p i x
here {flow = flow} {ids = ids} {i = i} {x = x} s a = record { at = a; known = known_at flow.points ids i x a.found s.numbers.known }

-- the site of a point
pub record SiteOf (names : List Bytes) (bodies : List Body) (flow : Contents) (ids i : ℕ) (x : FlowPoint) : Type 0 where
  pub site : Site
  pub here : Here names bodies flow ids site i x

pub site_of : {names : List Bytes} {bodies : List Body} {flow : Contents} {points ids : ℕ} {i : ℕ} {x : FlowPoint}
    → Setting names bodies flow points ids → slice_get flow.points i ≡ Some x → SiteOf names bodies flow ids i x
site_of s found = let q = site_at s.is_flow found in record { site = q.0; here = here s q.1 }

-- the point of a site
pub record PointOf (names : List Bytes) (bodies : List Body) (flow : Contents) (ids : ℕ) (p : Site) (i : ℕ) : Type 0 where
  pub point : FlowPoint
  pub here : Here names bodies flow ids p i point

pub point_of : {names : List Bytes} {bodies : List Body} {flow : Contents} {points ids : ℕ} {p : Site} {i : ℕ}
    → Setting names bodies flow points ids → place_of bodies p ≡ Some i → PointOf names bodies flow ids p i
point_of s place = let q = point_at_place s.is_flow place in record { point = q.0; here = here s q.1 }

-- tests
or_true : (a b : Bool) → (a || b) ≡ true → (a ≡ true) ⊎ (b ≡ true)
or_true true b e = inl refl
or_true false b e = inr e

true_or : (a b : Bool) → (a ≡ true) ⊎ (b ≡ true) → (a || b) ≡ true
true_or true b h = refl
true_or false b (inl h) = cc
true_or false b (inr h) = h

and_true : (a b : Bool) → (a && b) ≡ true → (a ≡ true) × (b ≡ true)
and_true true b e = (refl, e)
and_true false b e = cc

true_and : (a b : Bool) → a ≡ true → b ≡ true → (a && b) ≡ true
true_and true b h k = k
true_and false b h k = cc

has_is : (set id : ℕ) → has set id ≡ true ↔ Holds set id
has_is set id = (λ e. to (bit_at set id) e, λ e. from (bit_at set id) e)
  where
    to : (n : ℕ) → (n == 1) ≡ true → n ≡ 1
    to n e = grind (arith, nat_tests)

    from : (n : ℕ) → n ≡ 1 → (n == 1) ≡ true
    from n e = grind (arith, nat_tests)

pub returns_at : (k : PointKind) → is_return k ≡ true → k ≡ Return
returns_at Return e = refl
returns_at _ e = cc

pub return_is : (k : PointKind) → k ≡ Return → is_return k ≡ true
return_is k e = ap is_return e

ends_at : (k : PointKind) → is_end k ≡ true → k ≡ End
ends_at End e = refl
ends_at _ e = cc

-- the function of a point is nested
nested_at : {names : List Bytes} {bodies : List Body} {flow : Contents} {ids : ℕ} {p : Site} {i : ℕ} {x : FlowPoint} {nested : ℕ}
    → Here names bodies flow ids p i x → HasNested names bodies nested
    → (f : Bytes) → IsOf bodies p f → has nested x.function ≡ true ↔ Nested bodies f
nested_at {x = x} {nested = nested} h n f of =
    let b = has_is nested x.function in
    let c = n.same f x.function ((is_of_at f h.at).0 of) in
    (λ e. c.0 (b.0 e), λ e. b.1 (c.1 e))

-- the text of the function of a point
pub function_at : {names : List Bytes} {bodies : List Body} {flow : Contents} {ids : ℕ} {p : Site} {i : ℕ} {x : FlowPoint}
    → ids ≤ length names → Here names bodies flow ids p i x → (f : Bytes) × IsOf bodies p f
function_at {names} {ids = ids} {x = x} within h =
    let l : x.function < ids = h.known.function in
    (get_or names x.function [], (is_of_at (get_or names x.function []) h.at).1 (slice_get-get_or names x.function [] (omega arith)))

-- whether a point is inside
pub inside_at : {names : List Bytes} {bodies : List Body} {flow : Contents} {ids : ℕ} {p : Site} {i : ℕ} {x : FlowPoint} {nested : ℕ}
    → ids ≤ length names → Here names bodies flow ids p i x → HasNested names bodies nested → is_inside nested x ≡ true ↔ Inside bodies p
inside_at {bodies = bodies} {p = p} {x = x} {nested = nested} within h n = (
  λ e. by.1 (elim (or_true (nat_lt 0 x.point.depth) (has nested x.function) e) [
    | inl d ↦ inl ((enclosed_at h.at).1 (deep x.point.depth d))
    | inr m ↦ inr (both.0 m)
  ]),
  λ e. true_or (nat_lt 0 x.point.depth) (has nested x.function) (elim (by.0 e) [
    | inl d ↦ inl (is_deep x.point.depth ((enclosed_at h.at).0 d))
    | inr m ↦ inr (both.1 m)
  ]),
)
  where
    f : (f : Bytes) × IsOf bodies p f
    f = function_at within h

    by : Inside bodies p ↔ (Passes bodies p is_enclosed ⊎ Nested bodies f.0)
    by = inside_by_function bodies p f.0 f.1

    both : has nested x.function ≡ true ↔ Nested bodies f.0
    both = nested_at h n f.0 f.1

    deep : (d : ℕ) → nat_lt 0 d ≡ true → 0 < d
    deep d e = grind (arith, nat_tests)

    is_deep : (d : ℕ) → 0 < d → nat_lt 0 d ≡ true
    is_deep d l = grind (arith, nat_tests)

-- a point is the end of an outermost transaction
abbrev ends : Point → Bool
ends at = is_end at.kind && at.depth == 1

-- whether it goes on
pub goes_on_at : {names : List Bytes} {bodies : List Body} {flow : Contents} {ids : ℕ} {p : Site} {i : ℕ} {x : FlowPoint} {nested : ℕ}
    → ids ≤ length names → Here names bodies flow ids p i x → HasNested names bodies nested → goes_on nested x ≡ true ↔ GoesOn bodies p
goes_on_at {bodies = bodies} {p = p} {x = x} {nested = nested} within h n = (
  λ e. by.1 (elim (or_true (not (ends x.point)) (has nested x.function) e) [
    | inl d ↦ inl ((no_outer_end_at h.at).1 (no_end x.point d))
    | inr m ↦ inr (both.0 m)
  ]),
  λ e. true_or (not (ends x.point)) (has nested x.function) (elim (by.0 e) [
    | inl d ↦ inl (is_no_end x.point ((no_outer_end_at h.at).0 d))
    | inr m ↦ inr (both.1 m)
  ]),
)
  where
    f : (f : Bytes) × IsOf bodies p f
    f = function_at within h

    by : GoesOn bodies p ↔ (Passes bodies p (λ at. not (is_outer_end at)) ⊎ Nested bodies f.0)
    by = goes_on_by_function bodies p f.0 f.1

    both : has nested x.function ≡ true ↔ Nested bodies f.0
    both = nested_at h n f.0 f.1

    true_not : (b : Bool) → b ≡ true → not b ≡ true → ⊥
    true_not true e g = cc
    true_not false e g = cc

    not_true : (b : Bool) → (b ≡ true → ⊥) → not b ≡ true
    not_true true other = absurd (other refl)
    not_true false other = refl

    no_end : (at : Point) → not (ends at) ≡ true → at ≡ outer_end → ⊥
    no_end at e same = true_not (ends at) (ap ends same) e

    end_is : (at : Point) → ends at ≡ true → at ≡ outer_end
    end_is at e =
        let parts = and_true (is_end at.kind) (at.depth == 1) e in
        let k : at.kind ≡ End = ends_at at.kind parts.0 in
        let d : at.depth ≡ 1 = one at.depth parts.1 in
        let pair : PointKind → ℕ → Point = λ k d. record { kind = k; depth = d } in
        ap (λ k. pair k at.depth) k ∙ ap (pair End) d
      where
        one : (n : ℕ) → (n == 1) ≡ true → n ≡ 1
        one n e = grind (arith, nat_tests)

    is_no_end : (at : Point) → (at ≡ outer_end → ⊥) → not (ends at) ≡ true
    is_no_end at other = not_true (ends at) (λ e. other (end_is at e))

-- whether it is the entry of a nested function
pub record EntersAt (bodies : List Body) (p : Site) (f : Bytes) : Type 0 where
  pub entry : IsEntry bodies p f
  pub nested : Nested bodies f

pub enters_at : {names : List Bytes} {bodies : List Body} {flow : Contents} {ids : ℕ} {p : Site} {i : ℕ} {x : FlowPoint} {nested : ℕ}
    (f : Bytes) → Here names bodies flow ids p i x → HasNested names bodies nested → enters nested x ≡ true → IsOf bodies p f
    → EntersAt bodies p f
enters_at {x = x} {nested = nested} f h n e of =
    let parts = and_true (x.number == 0) (has nested x.function) e in
    record {
      entry = (entry_at f h.at).1 (zero x.number parts.0, (is_of_at f h.at).0 of);
      nested = (nested_at h n f of).0 parts.1;
    }
  where
    zero : (n : ℕ) → (n == 0) ≡ true → n ≡ 0
    zero n e = grind (arith, nat_tests)

pub enters_where : {names : List Bytes} {bodies : List Body} {flow : Contents} {ids : ℕ} {p : Site} {i : ℕ} {x : FlowPoint} {nested : ℕ}
    (f : Bytes) → Here names bodies flow ids p i x → HasNested names bodies nested → IsEntry bodies p f → Nested bodies f
    → enters nested x ≡ true
enters_where {x = x} {nested = nested} f h n entry is_nested =
    true_and (x.number == 0) (has nested x.function) (zero x.number ((entry_at f h.at).0 entry).0) ((nested_at h n f entry.is_of).1 is_nested)
  where
    zero : (n : ℕ) → n ≡ 0 → (n == 0) ≡ true
    zero n e = grind (arith, nat_tests)
