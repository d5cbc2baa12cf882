-- What is said of the points of a store is decided.
use Rattle.std.proofs.Common.{◌≡◌, ℕ, Bool, true, false, List, Some, None, refl, sym, subst, ap, ◌∙◌, inl, inr, not}
use Rattle.std.specs.Prelude.{Option, option_map, slice_get}
use Rattle.std.specs.Option.{option_and_then}
use Rattle.std.proofs.lemmas.Bool.{cases_eq}
use Rattle.std.proofs.lemmas.Bool.Decides.{Decides-eqb}
use Rattle.std.proofs.lemmas.Map.Made.{is_member-Decides}
use Rattle.run_types.specs.Skeleton.{Point, PointKind, Skeleton, Leads, Call, Return, direct_use, entry, point_at, successors}
use Rattle.c_tree.specs.BareExpr.{Bytes}
use Rattle.c_semantics.specs.Skeletons.{is_check_in_kind}
use Rattle.c_semantics.specs.Store.{Body, check_in_number}
use Rattle.effects.specs.Sites.{Site, IsOf, IsCall, IsReturn, IsEntry, Next, Passes, Uses, point_in, function_in, is_enclosed, is_outer_end}
use Rattle.effects.specs.Nested.{Nested, Inside, GoesOn}
use Rattle.effects.specs.Nested as nested
use Rattle.effects.specs.Rows.{IsCheckIn}
use Rattle.effects.proofs.Deciding.{callee, is_call, nested_or_not}
use Rattle.effects.proofs.Points.{inside_by_function, goes_on_by_function}
use Rattle.effects.proofs.Decisions.{Decision, by_test, same_as, both, either, same_bool, same_bytes, same_as_some}

-- sites are the same
pub same_site : (p q : Site) → Decision (p ≡ q)
same_site p q =
    same_as (λ s. one p.body p.point q.body q.point s.0 s.1) (λ e. (ap (λ x. x.body) e, ap (λ x. x.point) e))
    (both (cases_eq p.body q.body) (cases_eq p.point q.point))
  where
    one : (i n j m : ℕ) → i ≡ j → n ≡ m
        → record { body = i; point = n } ≡ (let s : Site = record { body = j; point = m } in s)
    one i n j m a b = λ t. record { body = a t; point = b t }

pub of_or_not : (bodies : List Body) (p : Site) (f : Bytes) → Decision (IsOf bodies p f)
of_or_not bodies p f = same_as (λ e. record { is_of = e }) (λ x. x.is_of) (same_as_some same_bytes (function_in bodies p) f)

pub passes_or_not : (bodies : List Body) (p : Site) (test : Point → Bool) → Decision (Passes bodies p test)
passes_or_not bodies p test =
    same_as (λ e. record { passes = e }) (λ x. x.passes) (same_as_some same_bool (option_map test (point_in bodies p)) true)

pub uses_or_not : (bodies : List Body) (p : Site) (name : Bytes) → Decision (Uses bodies p name)
uses_or_not bodies p name =
    same_as (λ e. record { uses = e }) (λ x. x.uses)
    (same_as_some same_bytes (option_and_then (λ at. direct_use at.kind) (point_in bodies p)) name)

-- what has a kind is a call of f exactly if f is its callee
callee_is : (o : Option Point) (f : Bytes)
    → option_and_then (λ at. callee at.kind) o ≡ Some f → option_map (λ at. at.kind) o ≡ Some (Call f)
callee_is None f e = cc
callee_is (Some at) f e = ap Some (is_call at.kind f e)

is_callee : (o : Option Point) (f : Bytes)
    → option_map (λ at. at.kind) o ≡ Some (Call f) → option_and_then (λ at. callee at.kind) o ≡ Some f
is_callee None f e = cc
is_callee (Some at) f e = ap callee (item at.kind (Call f) e)
  where
    item : (a b : PointKind) → Some a ≡ Some b → a ≡ b
    item a b e = cc

pub call_or_not : (bodies : List Body) (p : Site) (f : Bytes) → Decision (IsCall bodies p f)
call_or_not bodies p f =
    same_as (λ e. record { is_kind = callee_is (point_in bodies p) f e }) (λ x. is_callee (point_in bodies p) f x.is_kind)
    (same_as_some same_bytes (option_and_then (λ at. callee at.kind) (point_in bodies p)) f)

-- a return
returns : PointKind → Bool
returns Return = true
returns k = false

return_is : (o : Option Point) → option_map (λ at. returns at.kind) o ≡ Some true → option_map (λ at. at.kind) o ≡ Some Return
unfolding returns
return_is None e = cc
return_is (Some at) e = ap Some (by at.kind (item (returns at.kind) true e))
  where
    item : (a b : Bool) → Some a ≡ Some b → a ≡ b
    item a b e = cc

    by : (k : PointKind) → returns k ≡ true → k ≡ Return
    by Return e = refl
    by k e = cc

is_return : (o : Option Point) → option_map (λ at. at.kind) o ≡ Some Return → option_map (λ at. returns at.kind) o ≡ Some true
unfolding returns
is_return None e = cc
is_return (Some at) e = ap Some (ap returns (item at.kind Return e))
  where
    item : (a b : PointKind) → Some a ≡ Some b → a ≡ b
    item a b e = cc

pub return_or_not : (bodies : List Body) (p : Site) (f : Bytes) → Decision (IsReturn bodies p f)
return_or_not bodies p f =
    same_as (λ s. record { is_return = record { is_kind = return_is (point_in bodies p) s.0 }; is_of = s.1 })
    (λ x. (is_return (point_in bodies p) x.is_return.is_kind, x.is_of))
    (both (same_as_some same_bool (option_map (λ at. returns at.kind) (point_in bodies p)) true) (of_or_not bodies p f))

pub entry_or_not : (bodies : List Body) (p : Site) (f : Bytes) → Decision (IsEntry bodies p f)
entry_or_not bodies p f =
    same_as (λ s. record { is_entry = s.0; is_of = s.1 }) (λ x. (x.is_entry, x.is_of))
    (both (cases_eq p.point entry) (of_or_not bodies p f))

-- whether something is there
there_or_not : {A : Type 0} (o : Option A) → Decision ((a : A) × (o ≡ Some a))
there_or_not None = inr (λ s. by s.0 s.1)
  where
    by : {A : Type 0} (a : A) → None ≡ Some a → ⊥
    by a e = cc
there_or_not (Some a) = inl (a, refl)

leads_or_not : (s : Skeleton) (n m : ℕ) → Decision (Leads s n m)
leads_or_not s n m = same_as (λ c. record { leads = c }) (λ x. x.leads) (by_test _ (is_member-Decides Decides-eqb (successors s n) m))

-- control goes between points of a body
NextIn : Body → Site → Site → Type 0
NextIn b p q =
    (q.body ≡ p.body) × Leads b.skeleton p.point q.point × ((from : Point) × (point_at b.skeleton p.point ≡ Some from))
    × ((to : Point) × (point_at b.skeleton q.point ≡ Some to))

next_in_or_not : (b : Body) (p q : Site) → Decision (NextIn b p q)
unfolding NextIn
next_in_or_not b p q =
    same_as (λ s. (s.0, s.1.0, s.1.1.0, s.1.1.1)) (λ s. (s.0, (s.1, (s.2, s.3))))
    (both (cases_eq q.body p.body)
    (both (leads_or_not b.skeleton p.point q.point)
    (both (there_or_not (point_at b.skeleton p.point)) (there_or_not (point_at b.skeleton q.point)))))

pub next_or_not : (bodies : List Body) (p q : Site) → Decision (Next bodies p q)
unfolding NextIn
next_or_not bodies p q = by (slice_get bodies p.body) refl
  where
    none : (b : Body) → slice_get bodies p.body ≡ None → slice_get bodies p.body ≡ Some b → ⊥
    none b e h = cc

    item : (a b : Body) → Some a ≡ Some b → a ≡ b
    item a b e = cc

    back : (b : Body) → slice_get bodies p.body ≡ Some b → Next bodies p q → NextIn b p q
    back b stored x =
        subst (λ c. NextIn c p q) (item x.body b (sym x.stored ∙ stored))
        (x.same, x.leads, (x.from, x.is_from), (x.to, x.is_to))

    to : (b : Body) → slice_get bodies p.body ≡ Some b → NextIn b p q → Next bodies p q
    to b stored s = record {
      body = b;
      stored = stored;
      same = s.0;
      leads = s.1;
      from = s.2.0;
      to = s.3.0;
      is_from = s.2.1;
      is_to = s.3.1;
    }

    by : (o : Option Body) → slice_get bodies p.body ≡ o → Decision (Next bodies p q)
    by None e = inr (λ x. none x.body e x.stored)
    by (Some b) e = same_as (to b e) (back b e) (next_in_or_not b p q)

-- whether a point is inside, and whether it goes on
enclosed : (bodies : List Body) (p : Site) → ((f : Bytes) → IsOf bodies p f → ⊥) → Inside bodies p → Passes bodies p is_enclosed
enclosed bodies _ n (nested.enclosed p e) = e
enclosed bodies _ n (nested.Inside.in_nested p f of m) = absurd (n f of)

pub inside_or_not : (bodies : List Body) (p : Site) → Decision (Inside bodies p)
inside_or_not bodies p = by (there_or_not (function_in bodies p))
  where
    by : Decision ((f : Bytes) × (function_in bodies p ≡ Some f)) → Decision (Inside bodies p)
    by (inl s) =
        let x = inside_by_function bodies p s.0 (record { is_of = s.1 }) in
        same_as x.1 x.0 (either (passes_or_not bodies p is_enclosed) (nested_or_not bodies s.0))
    by (inr n) =
        same_as (nested.enclosed p) (enclosed bodies p (λ f x. n (f, x.is_of))) (passes_or_not bodies p is_enclosed)

no_outer_end : (bodies : List Body) (p : Site) → ((f : Bytes) → IsOf bodies p f → ⊥) → GoesOn bodies p
    → Passes bodies p (λ at. not (is_outer_end at))
no_outer_end bodies _ n (nested.no_outer_end p e) = e
no_outer_end bodies _ n (nested.GoesOn.in_nested p f of m) = absurd (n f of)

pub goes_on_or_not : (bodies : List Body) (p : Site) → Decision (GoesOn bodies p)
goes_on_or_not bodies p = by (there_or_not (function_in bodies p))
  where
    by : Decision ((f : Bytes) × (function_in bodies p ≡ Some f)) → Decision (GoesOn bodies p)
    by (inl s) =
        let x = goes_on_by_function bodies p s.0 (record { is_of = s.1 }) in
        same_as x.1 x.0 (either (passes_or_not bodies p (λ at. not (is_outer_end at))) (nested_or_not bodies s.0))
    by (inr n) =
        same_as (nested.no_outer_end p) (no_outer_end bodies p (λ f x. n (f, x.is_of)))
        (passes_or_not bodies p (λ at. not (is_outer_end at)))

-- whether a site is the check-in of a mark
CheckInIs : Body → Bytes → ℕ → ℕ → ℕ → Type 0
CheckInIs b f generation number point = (b.function ≡ f) × (b.generation ≡ generation) × (check_in_number b point ≡ number)

check_in_is_or_not : (b : Body) (f : Bytes) (generation number point : ℕ) → Decision (CheckInIs b f generation number point)
unfolding CheckInIs
check_in_is_or_not b f generation number point =
    same_as (λ s. (s.0, s.1.0, s.1.1)) (λ s. (s.0, (s.1, s.2)))
    (both (same_bytes b.function f) (both (cases_eq b.generation generation) (cases_eq (check_in_number b point) number)))

pub check_in_or_not : (bodies : List Body) (p : Site) (f : Bytes) (generation number : ℕ)
    → Decision (IsCheckIn bodies p f generation number)
unfolding CheckInIs
check_in_or_not bodies p f generation number = by (slice_get bodies p.body) refl
  where
    none : (b : Body) → slice_get bodies p.body ≡ None → slice_get bodies p.body ≡ Some b → ⊥
    none b e h = cc

    item : (a b : Body) → Some a ≡ Some b → a ≡ b
    item a b e = cc

    of_body : (b : Body) → slice_get bodies p.body ≡ Some b → IsCheckIn bodies p f generation number
        → CheckInIs b f generation number p.point
    of_body b stored x =
        subst (λ c. CheckInIs c f generation number p.point) (item x.body b (sym x.stored ∙ stored))
        (x.function, x.of_generation, x.counted)

    by : (o : Option Body) → slice_get bodies p.body ≡ o → Decision (IsCheckIn bodies p f generation number)
    by None e = inr (λ x. none x.body e x.stored)
    by (Some b) e =
        same_as
        (λ s. record {
          body = b;
          stored = e;
          function = s.0.0;
          of_generation = s.0.1;
          is_check_in = s.1;
          counted = s.0.2;
        })
        (λ x. (of_body b e x, x.is_check_in))
        (both (check_in_is_or_not b f generation number p.point) (passes_or_not bodies p (λ at. is_check_in_kind at.kind)))
