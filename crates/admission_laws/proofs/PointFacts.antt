-- What is said of a site, by the body in the list.
use Rattle.std.proofs.Common.{◌≡◌, ℕ, suc, Bool, true, false, List, [], ◌∷◌, find, cond, Some, None, refl, ap, sym, ◌∙◌}
use Rattle.std.specs.Prelude.{Option, option_map, slice_get}
use Rattle.std.specs.Option.{option_and_then}
use Rattle.std.proofs.lemmas.Option.{none-some, same_Some}
use Rattle.run_types.specs.Skeleton.{Skeleton, Point, PointKind, Leads, direct_use, point_at, kind_at}
use Rattle.c_tree.specs.BareExpr.{Bytes}
use Rattle.c_semantics.specs.Store.{Body}
use Rattle.effects.specs.Sites.{Site, IsOf, IsKind, Next, Passes, Uses, point_in, function_in}
use Rattle.effects.proofs.Points.{IsPoint}

-- a point with its body
pub record Found (bodies : List Body) (p : Site) : Type 0 where
  pub body : Body
  pub at : Point
  pub stored : slice_get bodies p.body ≡ Some body
  pub here : point_at body.skeleton p.point ≡ Some at

pub point_of : (bodies : List Body) (p : Site) (b : Body) → slice_get bodies p.body ≡ Some b → point_in bodies p ≡ point_at b.skeleton p.point
point_of bodies p b stored = ap (option_and_then (λ b. point_at b.skeleton p.point)) stored

pub function_of : (bodies : List Body) (p : Site) (b : Body) → slice_get bodies p.body ≡ Some b
    → function_in bodies p ≡ option_map (λ at. b.function) (point_at b.skeleton p.point)
function_of bodies p b stored = ap (option_and_then (λ b. option_map (λ at. b.function) (point_at b.skeleton p.point))) stored

pub found : (bodies : List Body) (p : Site) → IsPoint bodies p → Found bodies p
found bodies p x = by (slice_get bodies p.body) refl x.is_point
  where
    by : (o : Option Body) → slice_get bodies p.body ≡ o
        → option_and_then (λ b. point_at b.skeleton p.point) o ≡ Some x.point → Found bodies p
    by None e h = cc
    by (Some b) e h = record { body = b; at = x.point; stored = e; here = h }

pub is_of_at : (bodies : List Body) (p : Site) (b : Body) (at : Point) → slice_get bodies p.body ≡ Some b
    → point_at b.skeleton p.point ≡ Some at → IsOf bodies p b.function
is_of_at bodies p b at stored here =
    record { is_of = function_of bodies p b stored ∙ ap (option_map (λ at. b.function)) here }

-- the function of a site is that of its body
pub of_body : (bodies : List Body) (p : Site) (b : Body) (f : Bytes) → slice_get bodies p.body ≡ Some b → IsOf bodies p f → b.function ≡ f
of_body bodies p b f stored x = by (point_at b.skeleton p.point) (sym (function_of bodies p b stored) ∙ x.is_of)
  where
    by : (o : Option Point) → option_map (λ at. b.function) o ≡ Some f → b.function ≡ f
    by None e = cc
    by (Some at) e = same_Some _ _ e

-- a point of the same body has the same function
pub same_function : (bodies : List Body) (p q : Site) (f : Bytes) → IsOf bodies p f → q.body ≡ p.body → IsPoint bodies q → IsOf bodies q f
same_function bodies p q f x same point =
    let y = found bodies q point in
    let e = of_body bodies p y.body f (ap (slice_get bodies) (sym same) ∙ y.stored) x in
    record { is_of = (is_of_at bodies q y.body y.at y.stored y.here).is_of ∙ ap Some e }

-- the point that a kind is read of
pub record HasKind (s : Skeleton) (n : ℕ) (k : PointKind) : Type 0 where
  pub at : Point
  pub here : point_at s n ≡ Some at
  pub kind : at.kind ≡ k

pub has_kind : (s : Skeleton) (n : ℕ) (k : PointKind) → kind_at s n ≡ Some k → HasKind s n k
has_kind s n k h = by (point_at s n) refl h
  where
    by : (o : Option Point) → point_at s n ≡ o → option_map (λ p. p.kind) o ≡ Some k → HasKind s n k
    by None e h = cc
    by (Some at) e h = record { at = at; here = e; kind = same_Some _ _ h }

pub is_kind_at : (bodies : List Body) (p : Site) (b : Body) (k : PointKind) → slice_get bodies p.body ≡ Some b
    → kind_at b.skeleton p.point ≡ Some k → IsKind bodies p k
is_kind_at bodies p b k stored h = record { is_kind = ap (option_map (λ at. at.kind)) (point_of bodies p b stored) ∙ h }

pub kind_of_site : (bodies : List Body) (p : Site) (b : Body) (k : PointKind) → slice_get bodies p.body ≡ Some b → IsKind bodies p k
    → kind_at b.skeleton p.point ≡ Some k
kind_of_site bodies p b k stored x = ap (option_map (λ at. at.kind)) (sym (point_of bodies p b stored)) ∙ x.is_kind

-- a test of its kind
pub passes_kind : (bodies : List Body) (p : Site) (k : PointKind) (test : PointKind → Bool) → IsKind bodies p k → test k ≡ true
    → Passes bodies p (λ at. test at.kind)
passes_kind bodies p k test x h = by (point_in bodies p) refl x.is_kind
  where
    by : (o : Option Point) → point_in bodies p ≡ o → option_map (λ at. at.kind) o ≡ Some k → Passes bodies p (λ at. test at.kind)
    by None e is = cc
    by (Some at) e is = record {
      passes = ap (option_map (λ at. test at.kind)) e ∙ ap Some (ap test (same_Some _ _ is) ∙ h);
    }

-- the name that a point of its kind uses
pub uses_by_kind : (bodies : List Body) (p : Site) (k : PointKind) (name : Bytes) → IsKind bodies p k → direct_use k ≡ Some name
    → Uses bodies p name
uses_by_kind bodies p k name x h = by (point_in bodies p) refl x.is_kind
  where
    by : (o : Option Point) → point_in bodies p ≡ o → option_map (λ at. at.kind) o ≡ Some k → Uses bodies p name
    by None e is = cc
    by (Some at) e is = record {
      uses = ap (option_and_then (λ at. direct_use at.kind)) e ∙ ap direct_use (same_Some _ _ is) ∙ h;
    }

-- the use of a point is that of its kind
pub use_of_kind : (o : Option Point) → option_and_then direct_use (option_map (λ at. at.kind) o) ≡ option_and_then (λ at. direct_use at.kind) o
use_of_kind None = refl
use_of_kind (Some at) = refl

-- control goes between two points of a body
pub next_at : (bodies : List Body) (p q : Site) (b : Body) (from to : Point) → slice_get bodies p.body ≡ Some b → q.body ≡ p.body
    → Leads b.skeleton p.point q.point → point_at b.skeleton p.point ≡ Some from → point_at b.skeleton q.point ≡ Some to → Next bodies p q
next_at bodies p q b from to stored same leads is_from is_to = record {
  body = b;
  stored = stored;
  same = same;
  leads = leads;
  from = from;
  to = to;
  is_from = is_from;
  is_to = is_to;
}

-- what is found is at a place
pub place_of : (bodies : List Body) (test : Body → Bool) (b : Body) → find test bodies ≡ Some b → (i : ℕ) × (slice_get bodies i ≡ Some b)
place_of [] test b e = absurd (none-some b e)
place_of (x ∷ bodies) test b e = by (test x) e (place_of bodies test b)
  where
    by : (t : Bool) → cond t (Some x) (find test bodies) ≡ Some b → (find test bodies ≡ Some b → (i : ℕ) × (slice_get bodies i ≡ Some b))
        → (i : ℕ) × (slice_get (x ∷ bodies) i ≡ Some b)
    by true h rest = (0, h)
    by false h rest = let r = rest h in (suc r.0, r.1)
