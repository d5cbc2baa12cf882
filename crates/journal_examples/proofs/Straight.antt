-- Control goes straight on from a point for some steps: what the later points use is used from there on.
use Rattle.std.proofs.Common.{◌≡◌, ℕ, zero, suc, ◌==◌, Bool, true, false, ◌&&◌, not, List, [], ◌∷◌, Option, Some, None, refl, arith}
use Rattle.std.specs.Prelude.{Contains, slice_get, option_map}
use Rattle.std.proofs.lemmas.Bool.{and_parts}
use Rattle.std.proofs.lemmas.Bool.Decides.{Decides-eqb}
use Rattle.std.specs.Option.{is_some, option_map_or}
use Rattle.run_types.specs.Skeleton.{Point, point_at, successors}
use Rattle.c_tree.specs.BareExpr.{Bytes}
use Rattle.c_semantics.specs.Store.{Body}
use Rattle.effects.specs.Sites.{Site, Next, after_call, point_in, is_outer_end}
use Rattle.effects.specs.Nested.{GoesOn}
use Rattle.effects.specs.Nested as nested
use Rattle.effects.specs.Contextual.{Future}
use Rattle.effects.specs.Contextual as contextual
use Rattle.effects.specs.Concrete.{Concrete}
use Rattle.effects.specs.Concrete as concrete

-- a list has one number alone
abbrev is_one : ℕ → List ℕ → Bool
is_one n [] = false
is_one n (m ∷ []) = m == n
is_one n (m ∷ k ∷ ms) = false

one_way : (ns : List ℕ) (n : ℕ) → is_one n ns ≡ true → Contains ns n
one_way [] n e = cc
one_way (m ∷ []) n e = (0, omega arith, (Decides-eqb m n).0 e)
one_way (m ∷ k ∷ ms) n e = cc

-- control goes from a point of a body to the one after it alone
abbrev goes_to_next : ℕ → Option Body → Bool
goes_to_next n None = false
goes_to_next n (Some b) = is_one (suc n) (successors b.skeleton n) && (is_some (point_at b.skeleton n) && is_some (point_at b.skeleton (suc n)))

there : {A : Type 0} (o : Option A) → is_some o ≡ true → (x : A) × (o ≡ Some x)
there None e = cc
there (Some x) e = (x, refl)

pub next_by : (bodies : List Body) (p : Site) → goes_to_next p.point (slice_get bodies p.body) ≡ true → Next bodies p (after_call p)
next_by bodies p e = by (slice_get bodies p.body) refl e
  where
    by : (o : Option Body) → slice_get bodies p.body ≡ o → goes_to_next p.point o ≡ true → Next bodies p (after_call p)
    by None stored e = cc
    by (Some b) stored e =
        let both = and_parts _ _ e in
        let points = and_parts _ _ both.1 in
        let from = there (point_at b.skeleton p.point) points.0 in
        let to = there (point_at b.skeleton (suc p.point)) points.1 in
        record {
          body = b;
          stored = stored;
          same = refl;
          leads = record { leads = one_way (successors b.skeleton p.point) (suc p.point) both.0 };
          from = from.0;
          to = to.0;
          is_from = from.1;
          is_to = to.1;
        }

-- the point k steps on
abbrev pub onward : ℕ → Site → Site
onward zero p = p
onward (suc k) p = onward k (after_call p)

abbrev pub is_straight : List Body → ℕ → Site → Bool
is_straight bodies zero p = true
is_straight bodies (suc k) p = goes_to_next p.point (slice_get bodies p.body) && is_straight bodies k (after_call p)

-- none of the points on the way is the end of a transaction that no other encloses
abbrev pub goes_on : List Body → ℕ → Site → Bool
goes_on bodies zero p = true
goes_on bodies (suc k) p = option_map_or (λ at. not (is_outer_end at)) (point_in bodies p) false && goes_on bodies k (after_call p)

no_end : (bodies : List Body) (p : Site) → option_map_or (λ at. not (is_outer_end at)) (point_in bodies p) false ≡ true → GoesOn bodies p
no_end bodies p e = nested.no_outer_end p (record { passes = by (point_in bodies p) e })
  where
    by : (o : Option Point) → option_map_or (λ at. not (is_outer_end at)) o false ≡ true → option_map (λ at. not (is_outer_end at)) o ≡ Some true
    by None e = cc
    by (Some at) e = cc

pub concrete_onward : (bodies : List Body) (z : Bytes) (k : ℕ) (p : Site) → is_straight bodies k p ≡ true
    → Concrete bodies (onward k p) z → Concrete bodies p z
concrete_onward bodies z zero p e x = x
concrete_onward bodies z (suc k) p e x =
    let both = and_parts _ _ e in
    concrete.later p (after_call p) z (next_by bodies p both.0) (concrete_onward bodies z k (after_call p) both.1 x)

pub future_onward : (bodies : List Body) (z : Bytes) (k : ℕ) (p : Site) → is_straight bodies k p ≡ true → goes_on bodies k p ≡ true
    → Future bodies (onward k p) z → Future bodies p z
future_onward bodies z zero p e on x = x
future_onward bodies z (suc k) p e on x =
    let both = and_parts _ _ e in
    let ons = and_parts _ _ on in
    contextual.Future.later p (after_call p) z (no_end bodies p ons.0) (next_by bodies p both.0)
    (future_onward bodies z k (after_call p) both.1 ons.1 x)
