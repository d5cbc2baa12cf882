-- What the points and ways of a flow say of the sites of its bodies, and back.
use Rattle.std.proofs.Common.{◌≡◌, ℕ, zero, suc, ◌+◌, ◌-◌, ◌<◌, Bool, true, false, List, [], length, get_or, Option, Some, None, refl, sym, ap, ◌∙◌, subst, arith}
use Rattle.std.specs.Prelude.{Contains, IfSome, ◌↔◌, not, slice_get, option_map}
use Rattle.std.specs.Option.{option_and_then}
use Rattle.std.proofs.lemmas.List.{length-map}
use Rattle.std.proofs.lemmas.Option.{slice_get_within, slice_get-get_or, slice_get-map, get_or_from_slice_get, same_Some}
use Rattle.name_sets.specs.Texts.{text_of}
use Rattle.run_types.specs.Skeleton.{Point, direct_use, point_at, after}
use Rattle.run_types.specs.Skeleton as seen
use Rattle.skeletons.specs.Meaning.{used_at, called_at, kind_of, point_of}
use Rattle.skeletons.specs.declared.point.Use.{Use}
use Rattle.skeletons.specs.declared.point.Use.TheVariants.{ReadGlobal, WriteGlobal, ReadElement, WriteElement, ReadField, WriteField, New, Free, InitMutex, Lock, Unlock, Spawn, Call}
use Rattle.skeletons.specs.declared.point.PointKind.{PointKind}
use Rattle.skeletons.specs.declared.point.PointKind.TheVariants.{CheckIn, Uses, Print, Join, Return, Back, Begin, End, Update}
use Rattle.c_tree.specs.BareExpr.{Bytes}
use Rattle.c_semantics.specs.Store.{Body}
use Rattle.effects.specs.Sites.{Site, point_in, function_in, after_call, IsOf, Passes, IsKind, Uses as UsesName, IsCall, IsReturn, IsEntry, Next, is_enclosed, is_outer_end, stays}
use Rattle.effect_flow.specs.declared.flow.FlowPoint.{FlowPoint}
use Rattle.effect_flow.specs.declared.flow.Way.{Way}
use Rattle.effect_flow.specs.Parts.{Contents, HasIdsBelow}
use Rattle.effect_flow.specs.Flows.{Spot, spots, points_before, place_of, spot_of, IsFlowOf}
use Rattle.effect_flow.specs.FlowLaws.{IsPointAt}
use Rattle.effect_flow.proofs.Places.{site, item_at, place_of_point, point_of_place, spot_at, site_of, one_site}
use Rattle.effect_flow.proofs.Ways.{way, leads_among, way_of_next}
use Rattle.effect_flow.proofs.PointKinds.{used_name, calls, called_kind, returns, outer_end, ends_outer, outer_ends, stays_on, on_stays, encloses, enclosed_by}

-- site p is at place i of the flow, where the flow has the point x
pub record IsAt (names : List Bytes) (bodies : List Body) (flow : Contents) (p : Site) (i : ℕ) (x : FlowPoint) : Type 0 where
  pub place : place_of bodies p ≡ Some i
  pub found : slice_get flow.points i ≡ Some x
  pub body : Body
  pub stored : slice_get bodies p.body ≡ Some body
  pub is_point : point_at body.skeleton p.point ≡ Some (point_of names x.point)
  pub function : text_of names x.function ≡ body.function
  pub generation : x.generation ≡ body.generation
  pub number : x.number ≡ p.point
  pub point : point_in bodies p ≡ Some (point_of names x.point)
  pub is_of : function_in bodies p ≡ Some (text_of names x.function)
  pub known : HasIdsBelow (length names) x

-- the body of a point
body_of_point : (bodies : List Body) (p : Site) (at : Point) → point_in bodies p ≡ Some at
    → (b : Body) × (slice_get bodies p.body ≡ Some b) × (point_at b.skeleton p.point ≡ Some at)
body_of_point bodies p at e = by (slice_get bodies p.body) e
  where
    by : (o : Option Body) → option_and_then (λ b. point_at b.skeleton p.point) o ≡ Some at
        → (b : Body) × (o ≡ Some b) × (point_at b.skeleton p.point ≡ Some at)
    by None e = cc
    by (Some b) e = (b, refl, e)

known_at : (names : List Bytes) (xs : List FlowPoint) (i : ℕ) (x : FlowPoint) → slice_get xs i ≡ Some x
    → ((k : ℕ) (d : FlowPoint) → k < length xs → HasIdsBelow (length names) (get_or xs k d)) → HasIdsBelow (length names) x
known_at names xs i x e all =
    let l : i < length xs = slice_get_within xs i x e in
    let P : FlowPoint → Type 0 = λ x. HasIdsBelow (length names) x in
    subst P (get_or_from_slice_get xs i x x e) (all i x l)

-- a site's place has the site's point
pub at_place : {names : List Bytes} {bodies : List Body} {flow : Contents} {p : Site} {i : ℕ} {x : FlowPoint} → IsFlowOf names bodies flow
    → place_of bodies p ≡ Some i → slice_get flow.points i ≡ Some x → IsAt names bodies flow p i x
at_place {names} {bodies} {flow} {p} {i} {x} f place found = record {
  place = place;
  found = found;
  body = b;
  stored = body.1;
  is_point = body.2 ∙ ap Some (sym at);
  function = ap (λ s. s.function) same;
  generation = ap (λ s. s.generation) same;
  number = ap (λ s. s.number) same;
  point = point.1 ∙ ap Some (sym at);
  is_of = ap (option_and_then (λ b. option_map (λ at. b.function) (point_at b.skeleton p.point))) body.1
      ∙ ap (option_map (λ at. b.function)) body.2
      ∙ ap Some (sym (ap (λ s. s.function) same));
  known = known_at names flow.points i x found f.known;
}
  where
    point : (at : Point) × (point_in bodies p ≡ Some at) × (points_before bodies p.body + p.point ≡ i)
    point = point_of_place bodies p i place

    body : (b : Body) × (slice_get bodies p.body ≡ Some b) × (point_at b.skeleton p.point ≡ Some point.0)
    body = body_of_point bodies p point.0 point.1

    b : Body
    b = body.0

    same : spot_of names x ≡ record { function = b.function; generation = b.generation; number = p.point; at = point.0 }
    same = same_Some (spot_of names x) (record { function = b.function; generation = b.generation; number = p.point; at = point.0 })
        (sym (ap (option_map (spot_of names)) found)
        ∙ sym (slice_get-map (spot_of names) flow.points i)
        ∙ ap (λ s. slice_get s i) f.points
        ∙ spot_at bodies p.body p.point b point.0 i body.1 body.2 (sym point.2))

    at : point_of names x.point ≡ point.0
    at = ap (λ s. s.at) same

same_length : {names : List Bytes} {bodies : List Body} {flow : Contents} → IsFlowOf names bodies flow → length flow.points ≡ length (spots bodies)
same_length {names} {bodies} {flow} f = sym (length-map flow.points (spot_of names)) ∙ ap length f.points

-- each site that has a place is at a point of the flow
pub point_at_place : {names : List Bytes} {bodies : List Body} {flow : Contents} {p : Site} {i : ℕ} → IsFlowOf names bodies flow
    → place_of bodies p ≡ Some i → (x : FlowPoint) × IsAt names bodies flow p i x
point_at_place {names} {bodies} {flow} {p} {i} f place =
    let point = point_of_place bodies p i place in
    let body = body_of_point bodies p point.0 point.1 in
    let spot : Spot = record { function = body.0.function; generation = body.0.generation; number = p.point; at = point.0 } in
    let within : i < length (spots bodies) =
    slice_get_within (spots bodies) i spot (spot_at bodies p.body p.point body.0 point.0 i body.1 body.2 (sym point.2)) in
    let found = item_at flow.points i (omega (arith, same_length f)) in
    (found.0, at_place f place found.1)

-- each point of the flow is that of a site
pub site_at : {names : List Bytes} {bodies : List Body} {flow : Contents} {i : ℕ} {x : FlowPoint} → IsFlowOf names bodies flow
    → slice_get flow.points i ≡ Some x → (p : Site) × IsAt names bodies flow p i x
site_at {names} {bodies} {flow} {i} {x} f found =
    let within : i < length flow.points = slice_get_within flow.points i x found in
    let p = site_of bodies i (omega (arith, same_length f)) in
    (p.0, at_place f p.1 found)

-- two sites at one place are one
pub one_site_at : {names : List Bytes} {bodies : List Body} {flow : Contents} {p q : Site} {i : ℕ} {x y : FlowPoint}
    → IsAt names bodies flow p i x → IsAt names bodies flow q i y → p ≡ q
one_site_at {names} {bodies} {flow} {p} {q} {i} {x} {y} a b = one_site bodies p q i a.place b.place

-- a site of which something is said has a place
place_of_its_point : {A : Type 0} (bodies : List Body) (p : Site) (read : Point → Option A) (a : A)
    → option_and_then read (point_in bodies p) ≡ Some a → (i : ℕ) × (place_of bodies p ≡ Some i)
place_of_its_point {A} bodies p read a e = by (point_in bodies p) refl e
  where
    by : (o : Option Point) → point_in bodies p ≡ o → option_and_then read o ≡ Some a → (i : ℕ) × (place_of bodies p ≡ Some i)
    by None f e = cc
    by (Some at) f e = (points_before bodies p.body + p.point, place_of_point bodies p at f)

place_mapped : {A : Type 0} (bodies : List Body) (p : Site) (read : Point → A) (a : A)
    → option_map read (point_in bodies p) ≡ Some a → (i : ℕ) × (place_of bodies p ≡ Some i)
place_mapped {A} bodies p read a e = by (point_in bodies p) refl e
  where
    by : (o : Option Point) → point_in bodies p ≡ o → option_map read o ≡ Some a → (i : ℕ) × (place_of bodies p ≡ Some i)
    by None f e = cc
    by (Some at) f e = (points_before bodies p.body + p.point, place_of_point bodies p at f)

pub place_if_uses : {bodies : List Body} {p : Site} {z : Bytes} → UsesName bodies p z → (i : ℕ) × (place_of bodies p ≡ Some i)
place_if_uses {bodies} {p} {z} u = place_of_its_point bodies p (λ at. direct_use at.kind) z u.uses

pub place_if_passes : {bodies : List Body} {p : Site} {test : Point → Bool} → Passes bodies p test → (i : ℕ) × (place_of bodies p ≡ Some i)
place_if_passes {bodies} {p} {test} u = place_mapped bodies p test true u.passes

pub place_if_kind : {bodies : List Body} {p : Site} {kind : seen.PointKind} → IsKind bodies p kind → (i : ℕ) × (place_of bodies p ≡ Some i)
place_if_kind {bodies} {p} {kind} u = place_mapped bodies p (λ at. at.kind) kind u.is_kind

pub place_if_of : {bodies : List Body} {p : Site} {f : Bytes} → IsOf bodies p f → (i : ℕ) × (place_of bodies p ≡ Some i)
place_if_of {bodies} {p} {f} u = by (slice_get bodies p.body) refl u.is_of
  where
    in_body : (b : Body) (o : Option Point) → slice_get bodies p.body ≡ Some b → point_at b.skeleton p.point ≡ o
        → option_map (λ at. b.function) o ≡ Some f → (i : ℕ) × (place_of bodies p ≡ Some i)
    in_body b None s e g = cc
    in_body b (Some at) s e g = (
      points_before bodies p.body + p.point,
      place_of_point bodies p at (ap (option_and_then (λ b. point_at b.skeleton p.point)) s ∙ e),
    )

    by : (o : Option Body) → slice_get bodies p.body ≡ o
        → option_and_then (λ b. option_map (λ at. b.function) (point_at b.skeleton p.point)) o ≡ Some f → (i : ℕ) × (place_of bodies p ≡ Some i)
    by None s e = cc
    by (Some b) s e = in_body b (point_at b.skeleton p.point) s refl e

-- an id below the number of names has a text, and the text an id
named : (names : List Bytes) (id : ℕ) (f : Bytes) → id < length names → text_of names id ≡ f → slice_get names id ≡ Some f
named names id f l e = slice_get-get_or names id [] l ∙ ap Some e

text : (names : List Bytes) (id : ℕ) (f : Bytes) → slice_get names id ≡ Some f → text_of names id ≡ f
text names id f e = get_or_from_slice_get names id f [] e

used_below : (o : Option ℕ) (id limit : ℕ) → o ≡ Some id → IfSome o (λ id. id < limit) → id < limit
used_below None id limit e h = cc
used_below (Some n) id limit e h = let same : n ≡ id = same_Some n id e in omega arith

-- the id of a call is the one that is used
called_used : (k : PointKind) (id : ℕ) → called_at k ≡ Some id → used_at k ≡ Some id
called_used (Uses action n) id e = by action e
  where
    by : (a : Use) → called_at (Uses a n) ≡ Some id → used_at (Uses a n) ≡ Some id
    by Call e = e
    by ReadGlobal e = cc
    by WriteGlobal e = cc
    by ReadElement e = cc
    by WriteElement e = cc
    by ReadField e = cc
    by WriteField e = cc
    by New e = cc
    by Free e = cc
    by InitMutex e = cc
    by Lock e = cc
    by Unlock e = cc
    by Spawn e = cc
called_used (CheckIn kind) id e = cc
called_used Print id e = cc
called_used Join id e = cc
called_used Return id e = cc
called_used Back id e = cc
called_used Begin id e = cc
called_used End id e = cc
called_used Update id e = cc

-- the function of the body
pub is_of_at : {names : List Bytes} {bodies : List Body} {flow : Contents} {p : Site} {i : ℕ} {x : FlowPoint} (f : Bytes)
    → IsAt names bodies flow p i x → IsOf bodies p f ↔ (slice_get names x.function ≡ Some f)
is_of_at {names} {x = x} f a = (
  λ o. named names x.function f a.known.function (same_Some (text_of names x.function) f (sym a.is_of ∙ o.is_of)),
  λ e. record { is_of = a.is_of ∙ ap Some (text names x.function f e) },
)

-- a test of the point
pub passes_at : {names : List Bytes} {bodies : List Body} {flow : Contents} {p : Site} {i : ℕ} {x : FlowPoint} (test : Point → Bool)
    → IsAt names bodies flow p i x → Passes bodies p test ↔ (test (point_of names x.point) ≡ true)
passes_at {names} {x = x} test a = (
  λ o. same_Some (test (point_of names x.point)) true (sym (ap (option_map test) a.point) ∙ o.passes),
  λ e. record { passes = ap (option_map test) a.point ∙ ap Some e },
)

pub kind_at : {names : List Bytes} {bodies : List Body} {flow : Contents} {p : Site} {i : ℕ} {x : FlowPoint} (kind : seen.PointKind)
    → IsAt names bodies flow p i x → IsKind bodies p kind ↔ (kind_of names x.point.kind ≡ kind)
kind_at {names} {x = x} kind a = (
  λ o. same_Some (kind_of names x.point.kind) kind (sym (ap (option_map (λ at. at.kind)) a.point) ∙ o.is_kind),
  λ e. record { is_kind = ap (option_map (λ at. at.kind)) a.point ∙ ap Some e },
)

-- a transaction encloses it
pub enclosed_at : {names : List Bytes} {bodies : List Body} {flow : Contents} {p : Site} {i : ℕ} {x : FlowPoint}
    → IsAt names bodies flow p i x → Passes bodies p is_enclosed ↔ (0 < x.point.depth)
enclosed_at {names} {x = x} a =
    let both = passes_at is_enclosed a in (λ o. encloses names x.point (both.0 o), λ l. both.1 (enclosed_by names x.point l))

-- it is the end of an outermost transaction, or isn't
pub outer_end_at : {names : List Bytes} {bodies : List Body} {flow : Contents} {p : Site} {i : ℕ} {x : FlowPoint}
    → IsAt names bodies flow p i x → Passes bodies p is_outer_end ↔ (x.point ≡ outer_end)
outer_end_at {names} {x = x} a =
    let both = passes_at is_outer_end a in (λ o. ends_outer names x.point (both.0 o), λ e. both.1 (outer_ends names x.point e))

pub no_outer_end_at : {names : List Bytes} {bodies : List Body} {flow : Contents} {p : Site} {i : ℕ} {x : FlowPoint}
    → IsAt names bodies flow p i x → Passes bodies p (λ at. not (is_outer_end at)) ↔ (x.point ≡ outer_end → ⊥)
no_outer_end_at {names} {x = x} a =
    let both = passes_at (λ at. not (is_outer_end at)) a in (
      λ o e. true_not (is_outer_end (point_of names x.point)) (outer_ends names x.point e) (both.0 o),
      λ other. both.1 (not_true (is_outer_end (point_of names x.point)) (λ e. other (ends_outer names x.point e))),
    )
  where
    true_not : (b : Bool) → b ≡ true → not b ≡ true → ⊥
    true_not true e f = cc
    true_not false e f = cc

    not_true : (b : Bool) → (b ≡ true → ⊥) → not b ≡ true
    not_true true other = absurd (other refl)
    not_true false other = refl

-- control stays in the body there
pub stays_at : {names : List Bytes} {bodies : List Body} {flow : Contents} {p : Site} {i : ℕ} {x : FlowPoint}
    → IsAt names bodies flow p i x
    → Passes bodies p (λ at. stays at.kind) ↔ ((called_at x.point.kind ≡ None) × (x.point.kind ≡ Return → ⊥))
stays_at {names} {x = x} a =
    let both = passes_at (λ at. stays at.kind) a in
    (λ o. stays_on names x.point.kind (both.0 o), λ e. both.1 (on_stays names x.point.kind e.0 e.1))

-- an id that stands for a name at a point
pub record IsIdOf (names : List Bytes) (at : Option ℕ) (name : Bytes) : Type 0 where
  pub id : ℕ
  pub is_id : at ≡ Some id
  pub of_name : slice_get names id ≡ Some name

-- what it uses
pub uses_at : {names : List Bytes} {bodies : List Body} {flow : Contents} {p : Site} {i : ℕ} {x : FlowPoint} (z : Bytes)
    → IsAt names bodies flow p i x → UsesName bodies p z ↔ IsIdOf names (used_at x.point.kind) z
uses_at {names} {bodies} {flow} {p} {i} {x} z a = (
  λ o. there (used_at x.point.kind) a.known.used (sym (used_name names x.point.kind) ∙ sym (ap use_of_point a.point) ∙ o.uses),
  λ u. record {
    uses = ap use_of_point a.point
        ∙ used_name names x.point.kind
        ∙ ap (option_map (text_of names)) u.is_id
        ∙ ap Some (text names u.id z u.of_name);
  },
)
  where
    use_of_point : Option Point → Option Bytes
    use_of_point o = option_and_then (λ at. direct_use at.kind) o

    there : (o : Option ℕ) → IfSome o (λ id. id < length names) → option_map (text_of names) o ≡ Some z → IsIdOf names o z
    there None l e = cc
    there (Some id) l e = record { id = id; is_id = refl; of_name = named names id z l (same_Some (text_of names id) z e) }

-- what it calls
pub call_at : {names : List Bytes} {bodies : List Body} {flow : Contents} {p : Site} {i : ℕ} {x : FlowPoint} (f : Bytes)
    → IsAt names bodies flow p i x → IsCall bodies p f ↔ IsIdOf names (called_at x.point.kind) f
call_at {names} {x = x} f a =
    let both = kind_at (seen.Call f) a in (
      λ o.
          let c = calls names x.point.kind f (both.0 o) in
          let l = used_below (used_at x.point.kind) c.id (length names) (called_used x.point.kind c.id c.called) a.known.used in
          record { id = c.id; is_id = c.called; of_name = named names c.id f l c.text },
      λ u. both.1 (called_kind names x.point.kind u.id u.is_id ∙ ap (λ t. seen.Call t) (text names u.id f u.of_name)),
    )

-- a return and an entry
pub return_at : {names : List Bytes} {bodies : List Body} {flow : Contents} {p : Site} {i : ℕ} {x : FlowPoint} (f : Bytes)
    → IsAt names bodies flow p i x
    → IsReturn bodies p f ↔ ((x.point.kind ≡ Return) × (slice_get names x.function ≡ Some f))
return_at {names} {x = x} f a =
    let both = kind_at seen.Return a in
    let of = is_of_at f a in (
      λ o. (returns names x.point.kind (both.0 o.is_return), of.0 o.is_of),
      λ e. record { is_return = both.1 (ap (kind_of names) e.0); is_of = of.1 e.1 },
    )

pub entry_at : {names : List Bytes} {bodies : List Body} {flow : Contents} {p : Site} {i : ℕ} {x : FlowPoint} (f : Bytes)
    → IsAt names bodies flow p i x
    → IsEntry bodies p f ↔ ((x.number ≡ 0) × (slice_get names x.function ≡ Some f))
entry_at {names} {x = x} f a =
    let of = is_of_at f a in
    (λ o. (a.number ∙ o.is_entry, of.0 o.is_of), λ e. record { is_entry = sym a.number ∙ e.0; is_of = of.1 e.1 })

-- the check-in after a call: the next place, where that is no entry
pub after_call_place : {names : List Bytes} {bodies : List Body} {flow : Contents} {p : Site} {i j : ℕ} {x y : FlowPoint}
    → IsAt names bodies flow p i x → IsAt names bodies flow (after_call p) j y → (j ≡ i + 1) × (y.number ≡ 0 → ⊥)
after_call_place {bodies = bodies} {p = p} {i = i} {j = j} {y = y} a b =
    let here = point_of_place bodies p i a.place in
    let there = point_of_place bodies (after_call p) j b.place in
    let e : points_before bodies p.body + p.point ≡ i = here.2 in
    let f : points_before bodies p.body + suc p.point ≡ j = there.2 in
    let n : y.number ≡ suc p.point = b.number in
    (omega arith, λ z. omega arith)

pub after_call_at : {names : List Bytes} {bodies : List Body} {flow : Contents} {p : Site} {i : ℕ} {x y : FlowPoint}
    → IsFlowOf names bodies flow → IsAt names bodies flow p i x
    → slice_get flow.points (i + 1) ≡ Some y → (y.number ≡ 0 → ⊥) → IsAt names bodies flow (after_call p) (i + 1) y
after_call_at {names} {bodies} {flow} {p} {i} {x} {y} f a found later = by (site_at f found)
  where
    earlier : (ps : List Point) (n : ℕ) (at : Point) → slice_get ps (suc n) ≡ Some at → (to : Point) × (slice_get ps n ≡ Some to)
    earlier ps n at e = item_at ps n (let l = slice_get_within ps (suc n) at e in omega arith)

    at_number : (q : Site) (n : ℕ) → q.point ≡ suc n → IsAt names bodies flow q (i + 1) y → IsAt names bodies flow (after_call p) (i + 1) y
    at_number q n e b =
        let point = ap (λ n. point_at b.body.skeleton n) (sym e) ∙ b.is_point in
        let one = earlier b.body.skeleton.points n (point_of names y.point) point in
        let before : point_in bodies (site q.body n) ≡ Some one.0 =
        ap (option_and_then (λ b. point_at b.skeleton n)) b.stored ∙ one.1 in
        let place = place_of_point bodies (site q.body n) one.0 before in
        let sum = point_of_place bodies q (i + 1) b.place in
        let added : points_before bodies q.body + q.point ≡ i + 1 = sum.2 in
        let back : points_before bodies q.body + n ≡ i = omega arith in
        let same : p ≡ site q.body n = one_site bodies p (site q.body n) i a.place (place ∙ ap Some back) in
        let after_same : after_call p ≡ q = ap after_call same ∙ ap (site q.body) (sym e) in
        subst (λ q. IsAt names bodies flow q (i + 1) y) (sym after_same) b

    by : (q : Site) × IsAt names bodies flow q (i + 1) y → IsAt names bodies flow (after_call p) (i + 1) y
    by b = at_number b.0 (b.0.point - 1) (let n = b.1.number in some b.0.point (λ z. later (n ∙ z))) b.1
      where
        some : (n : ℕ) → (n ≡ 0 → ⊥) → n ≡ suc (n - 1)
        some zero positive = absurd (positive refl)
        some (suc n) positive = omega arith

-- both points of a next pair have places
from_place : {bodies : List Body} {p q : Site} → Next bodies p q → place_of bodies p ≡ Some (points_before bodies p.body + p.point)
from_place {bodies} {p} n =
    place_of_point bodies p n.from (ap (option_and_then (λ b. point_at b.skeleton p.point)) n.stored ∙ n.is_from)

to_place : {bodies : List Body} {p q : Site} → Next bodies p q → place_of bodies q ≡ Some (points_before bodies q.body + q.point)
to_place {bodies} {p} {q} n =
    place_of_point bodies q n.to
    (ap (λ k. option_and_then (λ b. point_at b.skeleton q.point) (slice_get bodies k)) n.same
    ∙ ap (option_and_then (λ b. point_at b.skeleton q.point)) n.stored
    ∙ n.is_to)

pub place_if_from : {bodies : List Body} {p q : Site} → Next bodies p q → (i : ℕ) × (place_of bodies p ≡ Some i)
place_if_from {bodies} {p} n = (points_before bodies p.body + p.point, from_place n)

pub place_if_to : {bodies : List Body} {p q : Site} → Next bodies p q → (j : ℕ) × (place_of bodies q ≡ Some j)
place_if_to {bodies} {q = q} n = (points_before bodies q.body + q.point, to_place n)

-- a way leads from the place of a site to that of a next one
pub record IsWay (bodies : List Body) (i j : ℕ) : Type 0 where
  pub p : Site
  pub q : Site
  pub next : Next bodies p q
  pub from : place_of bodies p ≡ Some i
  pub to : place_of bodies q ≡ Some j

pub way_at : {names : List Bytes} {bodies : List Body} {flow : Contents} (w : Way) → IsFlowOf names bodies flow
    → Contains flow.ways w → IsWay bodies w.from w.to
way_at {names} {bodies} {flow} w f h =
    let Has : List Way → Type 0 = λ ws. Contains ws w in
    let x = leads_among 0 bodies w (subst Has f.ways h) in
    let from : points_before bodies x.p.body + x.p.point ≡ w.from = let e = x.from_is in omega arith in
    let to : points_before bodies x.q.body + x.q.point ≡ w.to = let e = x.to_is in omega arith in
    record {
      p = x.p;
      q = x.q;
      next = x.next;
      from = from_place x.next ∙ ap Some from;
      to = to_place x.next ∙ ap Some to;
    }

-- a pair of sites is a next one exactly if their places are those of a way
pub next_is_way : {names : List Bytes} {bodies : List Body} {flow : Contents} {p q : Site} {i j : ℕ} → IsFlowOf names bodies flow
    → place_of bodies p ≡ Some i → place_of bodies q ≡ Some j → Next bodies p q ↔ Contains flow.ways (way i j)
next_is_way {names} {bodies} {flow} {p} {q} {i} {j} f a b = (
  λ n. subst Has (sym f.ways) (way_of_next bodies p q i j n (sym (point_of_place bodies p i a).2) (sym (point_of_place bodies q j b).2)),
  λ h. back (way_at (way i j) f h),
)
  where
    Has : List Way → Type 0
    Has ws = Contains ws (way i j)

    back : IsWay bodies i j → Next bodies p q
    back x =
        subst (λ q. Next bodies p q) (one_site bodies x.q q j x.to b)
        (subst (λ p. Next bodies p x.q) (one_site bodies x.p p i x.from a) x.next)

-- the places of sites are those of the flow's points
pub place_within : {names : List Bytes} {bodies : List Body} {flow : Contents} (p : Site) {i : ℕ} → IsFlowOf names bodies flow
    → place_of bodies p ≡ Some i → i < length flow.points
place_within {flow = flow} p {i} f place =
    let x = point_at_place f place in slice_get_within flow.points i x.0 x.1.found

pub places_are_all : {names : List Bytes} {bodies : List Body} {flow : Contents} → IsFlowOf names bodies flow
    → (i : ℕ) → (i < length flow.points) ↔ ((p : Site) × (place_of bodies p ≡ Some i))
places_are_all {bodies = bodies} f i =
    (λ l. site_of bodies i (omega (arith, same_length f)), λ p. place_within p.0 f p.1)

pub point_is_site : {names : List Bytes} {bodies : List Body} {flow : Contents} {p : Site} {i : ℕ} {x : FlowPoint} → IsFlowOf names bodies flow
    → place_of bodies p ≡ Some i → slice_get flow.points i ≡ Some x → IsPointAt names bodies p x
point_is_site f place found =
    let a = at_place f place found in record { function = a.is_of; number = a.number; point = a.point }

pub way_has_ends : {names : List Bytes} {bodies : List Body} {flow : Contents} (w : Way) → IsFlowOf names bodies flow
    → Contains flow.ways w → (w.from < length flow.points) × (w.to < length flow.points)
way_has_ends w f h = let x = way_at w f h in (place_within x.p f x.from, place_within x.q f x.to)
