-- Prior effects are of points that are inside, and each point goes on or is an ending end.
use Rattle.std.proofs.Common.{◌≡◌, Bool, true, false, not, List, Some, None, refl, sym, subst, ap, ◌∙◌, ◌⊎◌, inl, inr}
use Rattle.std.specs.Prelude.{Option, ◌==◌, ◌&&◌, option_map, slice_get}
use Rattle.std.specs.Option.{option_and_then}
use Rattle.run_types.specs.Skeleton.{PointKind, Point, Return, point_at}
use Rattle.c_tree.specs.BareExpr.{Bytes}
use Rattle.c_semantics.specs.Store.{Body}
use Rattle.effects.specs.Sites.{Site, IsOf, point_in, is_end, is_outer_end}
use Rattle.effects.specs.Nested.{Nested, Inside, IsEndingEnd, GoesOn}
use Rattle.effects.specs.Nested as nested
use Rattle.effects.specs.Contextual.{Prior, Future}
use Rattle.effects.specs.Contextual as contextual
use Rattle.effects.proofs.Deciding.{nested_or_not}
use Rattle.effects.specs.LeastLaws.{PriorIsInside, FutureEnds, GoesOnOrEnds}

pub prior_is_inside : PriorIsInside
prior_is_inside bodies _ _ (contextual.before a b name i n x) = i
prior_is_inside bodies _ _ (contextual.Prior.added a b name i n x) = i
prior_is_inside bodies _ _ (contextual.entered e f at n) = nested.Inside.in_nested e f at.is_of n
prior_is_inside bodies _ _ (contextual.before_call e c f name at n call i x) = nested.Inside.in_nested e f at.is_of n

-- a point of a body of some function is a point
point_of : (o : Option Body) (p : Site) (f : Bytes)
    → option_and_then (λ b. option_map (λ at. b.function) (point_at b.skeleton p.point)) o ≡ Some f
    → (at : Point) × (option_and_then (λ b. point_at b.skeleton p.point) o ≡ Some at)
point_of None p f e = cc
point_of (Some b) p f e = there (point_at b.skeleton p.point) e
  where
    there : (x : Option Point) → option_map (λ at. b.function) x ≡ Some f → (at : Point) × (x ≡ Some at)
    there None e = cc
    there (Some at) e = (at, refl)

by_test : (bodies : List Body) (p : Site) (f : Bytes) (test : Bool) (at : Point) → point_in bodies p ≡ Some at
    → is_outer_end at ≡ test → IsOf bodies p f → Nested bodies f ⊎ (Nested bodies f → ⊥)
    → (IsEndingEnd bodies p f → ⊥) → GoesOn bodies p
by_test bodies p f test at there e of (inl n) no_end = nested.GoesOn.in_nested p f of n
by_test bodies p f false at there e of (inr never) no_end =
    nested.no_outer_end p
    (record { passes = ap (option_map (λ at. not (is_outer_end at))) there ∙ ap (λ b. Some (not b)) e })
by_test bodies p f true at there e of (inr never) no_end =
    absurd (no_end (record {
      is_end = record { passes = ap (option_map is_outer_end) there ∙ ap Some e };
      is_of = of;
      not_nested = never;
    }))

-- the point of a test, and that of its negation, are two
apart : (o : Option Point) (test : Point → Bool) → option_map (λ at. not (test at)) o ≡ Some true
    → option_map test o ≡ Some true → ⊥
apart None test e h = cc
apart (Some at) test e h = by (test at) e h
  where
    by : (b : Bool) → Some (not b) ≡ Some true → Some b ≡ Some true → ⊥
    by true e h = cc
    by false e h = cc

pub no_ending_end : (bodies : List Body) (p : Site) (f : Bytes) → GoesOn bodies p → IsEndingEnd bodies p f → ⊥
no_ending_end bodies _ f (nested.no_outer_end p e) ends = apart (point_in bodies p) is_outer_end e.passes ends.is_end.passes
no_ending_end bodies _ f (nested.GoesOn.in_nested p g of n) ends =
    ends.not_nested (subst (Nested bodies) (item g f (sym of.is_of ∙ ends.is_of.is_of)) n)
  where
    item : (a b : Bytes) → Some a ≡ Some b → a ≡ b
    item a b e = cc

pub goes_on_or_ends : GoesOnOrEnds
goes_on_or_ends bodies p f of =
    let here = point_of (slice_get bodies p.body) p f of.is_of in (
      λ on. no_ending_end bodies p f on,
      by_test bodies p f (is_outer_end here.0) here.0 here.1 refl of (nested_or_not bodies f),
    )

-- a point that goes on is in a body of some function
pub function_of : (bodies : List Body) (p : Site) → GoesOn bodies p → (f : Bytes) × IsOf bodies p f
function_of bodies _ (nested.no_outer_end p e) = by (slice_get bodies p.body) refl e.passes
  where
    at_point : (b : Body) (x : Option Point) → point_at b.skeleton p.point ≡ x → slice_get bodies p.body ≡ Some b
        → option_map (λ at. not (is_outer_end at)) x ≡ Some true → (f : Bytes) × IsOf bodies p f
    at_point b None e stored h = cc
    at_point b (Some at) e stored h = (
      b.function,
      record {
        is_of =
            ap (option_and_then (λ b. option_map (λ at. b.function) (point_at b.skeleton p.point))) stored
            ∙ ap (option_map (λ at. b.function)) e;
      },
    )

    by : (o : Option Body) → slice_get bodies p.body ≡ o
        → option_map (λ at. not (is_outer_end at)) (option_and_then (λ b. point_at b.skeleton p.point) o) ≡ Some true
        → (f : Bytes) × IsOf bodies p f
    by None e h = cc
    by (Some b) e h = at_point b (point_at b.skeleton p.point) refl e h
function_of bodies _ (nested.GoesOn.in_nested p f of n) = (f, of)

-- an ending end goes nowhere
pub future_ends : FutureEnds
future_ends bodies _ f _ ends (contextual.Future.added p name on x) = no_ending_end bodies p f on ends
future_ends bodies _ f _ ends (contextual.Future.later p q name on n x) = no_ending_end bodies p f on ends
future_ends bodies _ f _ ends (contextual.Future.returned r c g name ret call x) =
    by (point_in bodies r) ends.is_end.passes ret.is_return.is_kind
  where
    no_end : (k : PointKind) (t : Bool) → Some (is_end k && t) ≡ Some true → Some k ≡ Some Return → ⊥
    no_end Return t e h = cc
    no_end k t e h = cc

    by : (o : Option Point) → option_map is_outer_end o ≡ Some true → option_map (λ at. at.kind) o ≡ Some Return → ⊥
    by None e h = cc
    by (Some at) e h = no_end at.kind (at.depth == 1) e h
