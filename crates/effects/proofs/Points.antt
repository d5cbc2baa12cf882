-- What has an effect is a point of the store. Whether a point is inside, and whether it goes on, by its own function.
use Rattle.std.proofs.Common.{◌≡◌, Bool, true, List, Some, None, refl, ap, sym, subst, ◌∙◌, ◌⊎◌, ◌↔◌, inl, inr, not}
use Rattle.std.specs.Prelude.{Option, option_map, slice_get}
use Rattle.std.specs.Option.{option_and_then}
use Rattle.run_types.specs.Skeleton.{Point, PointKind, direct_use, point_at}
use Rattle.c_tree.specs.BareExpr.{Bytes}
use Rattle.c_semantics.specs.Store.{Body}
use Rattle.effects.specs.Sites.{Site, IsOf, IsKind, Next, Passes, Uses, point_in, is_enclosed, is_outer_end}
use Rattle.effects.specs.Nested.{Nested, Inside, GoesOn}
use Rattle.effects.specs.Nested as nested
use Rattle.effects.specs.Contextual.{Prior, Future}
use Rattle.effects.specs.Contextual as contextual
use Rattle.effects.specs.Concrete.{Concrete}
use Rattle.effects.specs.Concrete as concrete

-- site p is a point of the store
pub record IsPoint (bodies : List Body) (p : Site) : Type 0 where
  pub point : Point
  pub is_point : point_in bodies p ≡ Some point

-- the point of a body of the store
pub point_is_in : (bodies : List Body) (p : Site) (b : Body) (at : Point)
    → slice_get bodies p.body ≡ Some b → point_at b.skeleton p.point ≡ Some at → point_in bodies p ≡ Some at
point_is_in bodies p b at stored here = ap (option_and_then (λ b. point_at b.skeleton p.point)) stored ∙ here

-- where something is read of a point, there is one
read : {A : Type 0} (f : Option Point → Option A) (a : A) (bodies : List Body) (p : Site)
    → f None ≡ None → f (point_in bodies p) ≡ Some a → IsPoint bodies p
read f a bodies p none = by (point_in bodies p) refl
  where
    by : (o : Option Point) → point_in bodies p ≡ o → f o ≡ Some a → IsPoint bodies p
    by None e is = cc
    by (Some at) e is = record { point = at; is_point = e }

pub passes_is_point : (bodies : List Body) (p : Site) (test : Point → Bool) → Passes bodies p test → IsPoint bodies p
passes_is_point bodies p test x = read (option_map test) true bodies p refl x.passes

pub kind_is_point : (bodies : List Body) (p : Site) (kind : PointKind) → IsKind bodies p kind → IsPoint bodies p
kind_is_point bodies p kind x = read (option_map (λ at. at.kind)) kind bodies p refl x.is_kind

pub uses_is_point : (bodies : List Body) (p : Site) (name : Bytes) → Uses bodies p name → IsPoint bodies p
uses_is_point bodies p name x = read (option_and_then (λ at. direct_use at.kind)) name bodies p refl x.uses

pub of_is_point : (bodies : List Body) (p : Site) (f : Bytes) → IsOf bodies p f → IsPoint bodies p
of_is_point bodies p f x = by (slice_get bodies p.body) refl x.is_of
  where
    at_body : (b : Body) → slice_get bodies p.body ≡ Some b → (o : Option Point) → point_at b.skeleton p.point ≡ o
        → option_map (λ at. b.function) o ≡ Some f → IsPoint bodies p
    at_body b stored None e is = cc
    at_body b stored (Some at) e is = record { point = at; is_point = point_is_in bodies p b at stored e }

    by : (o : Option Body) → slice_get bodies p.body ≡ o
        → option_and_then (λ b. option_map (λ at. b.function) (point_at b.skeleton p.point)) o ≡ Some f → IsPoint bodies p
    by None stored is = cc
    by (Some b) stored is = at_body b stored (point_at b.skeleton p.point) refl is

-- control goes between two points
pub next_is_from_point : (bodies : List Body) (p q : Site) → Next bodies p q → IsPoint bodies p
next_is_from_point bodies p q x = record { point = x.from; is_point = point_is_in bodies p x.body x.from x.stored x.is_from }

pub next_is_to_point : (bodies : List Body) (p q : Site) → Next bodies p q → IsPoint bodies q
next_is_to_point bodies p q x = record {
  point = x.to;
  is_point = point_is_in bodies q x.body x.to (ap (slice_get bodies) x.same ∙ x.stored) x.is_to;
}

pub inside_is_point : (bodies : List Body) (p : Site) → Inside bodies p → IsPoint bodies p
inside_is_point bodies _ (nested.enclosed p x) = passes_is_point bodies p _ x
inside_is_point bodies _ (nested.Inside.in_nested p f of n) = of_is_point bodies p f of

pub goes_on_is_point : (bodies : List Body) (p : Site) → GoesOn bodies p → IsPoint bodies p
goes_on_is_point bodies _ (nested.no_outer_end p x) = passes_is_point bodies p _ x
goes_on_is_point bodies _ (nested.GoesOn.in_nested p f of n) = of_is_point bodies p f of

pub prior_is_point : (bodies : List Body) (p : Site) (name : Bytes) → Prior bodies p name → IsPoint bodies p
prior_is_point bodies _ _ (contextual.before a b name inside next x) = inside_is_point bodies b inside
prior_is_point bodies _ _ (contextual.Prior.added a b name inside next x) = inside_is_point bodies b inside
prior_is_point bodies _ _ (contextual.entered e f at n) = of_is_point bodies e f at.is_of
prior_is_point bodies _ _ (contextual.before_call e c f name at n call inside x) = of_is_point bodies e f at.is_of

pub future_is_point : (bodies : List Body) (p : Site) (name : Bytes) → Future bodies p name → IsPoint bodies p
future_is_point bodies _ _ (contextual.Future.added p name goes x) = goes_on_is_point bodies p goes
future_is_point bodies _ _ (contextual.Future.later p q name goes next x) = goes_on_is_point bodies p goes
future_is_point bodies _ _ (contextual.Future.returned r c f name ret call x) = of_is_point bodies r f ret.is_of

pub concrete_is_point : (bodies : List Body) (p : Site) (name : Bytes) → Concrete bodies p name → IsPoint bodies p
concrete_is_point bodies _ _ (concrete.used p name uses) = uses_is_point bodies p name uses
concrete_is_point bodies _ _ (concrete.later p q name next x) = next_is_from_point bodies p q next
concrete_is_point bodies _ _ (concrete.returned r c f name ret call x) = of_is_point bodies r f ret.is_of

-- a point is one of a body of one function
pub one_function : (bodies : List Body) (p : Site) (f g : Bytes) → IsOf bodies p f → IsOf bodies p g → f ≡ g
one_function bodies p f g x y = item (sym x.is_of ∙ y.is_of)
  where
    item : Some f ≡ Some g → f ≡ g
    item e = cc

-- a point of f is inside if a transaction of the text encloses it or f is nested
pub inside_by_function : (bodies : List Body) (p : Site) (f : Bytes) → IsOf bodies p f
    → Inside bodies p ↔ (Passes bodies p is_enclosed ⊎ Nested bodies f)
inside_by_function bodies p f of = (
  there f of,
  λ x. elim x [ inl e ↦ nested.enclosed p e | inr n ↦ nested.Inside.in_nested p f of n ],
)
  where
    there : (f : Bytes) → IsOf bodies p f → Inside bodies p → Passes bodies p is_enclosed ⊎ Nested bodies f
    there f of (nested.enclosed _ e) = inl e
    there f of (nested.Inside.in_nested _ g at n) = inr (subst (Nested bodies) (one_function bodies p g f at of) n)

-- a point of f goes on if it isn't the end of an outermost transaction of the text or f is nested
pub goes_on_by_function : (bodies : List Body) (p : Site) (f : Bytes) → IsOf bodies p f
    → GoesOn bodies p ↔ (Passes bodies p (λ at. not (is_outer_end at)) ⊎ Nested bodies f)
goes_on_by_function bodies p f of = (
  there f of,
  λ x. elim x [ inl e ↦ nested.no_outer_end p e | inr n ↦ nested.GoesOn.in_nested p f of n ],
)
  where
    there : (f : Bytes) → IsOf bodies p f → GoesOn bodies p
        → Passes bodies p (λ at. not (is_outer_end at)) ⊎ Nested bodies f
    there f of (nested.no_outer_end _ e) = inl e
    there f of (nested.GoesOn.in_nested _ g at n) = inr (subst (Nested bodies) (one_function bodies p g f at of) n)
