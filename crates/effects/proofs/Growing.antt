-- What is so in a store stays so when bodies are added.
use Rattle.std.proofs.Common.{◌≡◌, ℕ, zero, suc, Bool, true, List, [], ◌∷◌, ◌++◌, Some, None, refl, sym, ap, ◌∙◌}
use Rattle.std.specs.Prelude.{Option, slice_get, option_map}
use Rattle.std.specs.Option.{option_and_then}
use Rattle.std.proofs.lemmas.List.{append_assoc}
use Rattle.run_types.specs.Skeleton.{Point, PointKind, direct_use, point_at}
use Rattle.c_tree.specs.BareExpr.{Bytes}
use Rattle.c_tree.specs.BareDef.{BareDef}
use Rattle.c_semantics.specs.SourceTexts.{Text}
use Rattle.c_semantics.specs.Store.{Body, Mark, brought_bodies, bodies_from}
use Rattle.effects.specs.Sites.{Site, IsOf, Passes, IsKind, IsReturn, IsEntry, Next, Uses, after_call}
use Rattle.effects.specs.Standard.{Standard, Adds}
use Rattle.effects.specs.Standard as standard
use Rattle.effects.specs.Nested.{Nested, Inside, GoesOn}
use Rattle.effects.specs.Nested as nested
use Rattle.effects.specs.Contextual.{Prior, Future}
use Rattle.effects.specs.Contextual as contextual
use Rattle.effects.specs.Concrete.{Concrete}
use Rattle.effects.specs.Concrete as concrete
use Rattle.effects.specs.Rows.{Edge, Covers, IsCheckIn, Covered, InPrior, InFuture, InConcrete, IsRowOf}
use Rattle.effects.specs.Rows as rows
use Rattle.effects.specs.GrowthLaws.{NestedGrows, StandardGrows, PriorGrows, FutureGrows, ConcreteGrows, RowsGrow, StoresGrow}

body_kept : (bodies more : List Body) (i : ℕ) (b : Body) → slice_get bodies i ≡ Some b → slice_get (bodies ++ more) i ≡ Some b
body_kept [] more i b e = cc
body_kept (a ∷ bodies) more zero b e = e
body_kept (a ∷ bodies) more (suc i) b e = body_kept bodies more i b e

-- what is read of a body stays
kept_of : {A : Type 0} (read : Option Body → Option A) (a : A) (before after : Option Body) → read None ≡ None
    → ((b : Body) → before ≡ Some b → after ≡ Some b) → read before ≡ Some a → read after ≡ Some a
kept_of read a None after none same e = cc
kept_of read a (Some b) after none same e = ap read (same b refl) ∙ e

kept : {A : Type 0} (read : Option Body → Option A) (bodies more : List Body) (i : ℕ) (a : A) → read None ≡ None
    → read (slice_get bodies i) ≡ Some a → read (slice_get (bodies ++ more) i) ≡ Some a
kept read bodies more i a none =
    kept_of read a (slice_get bodies i) (slice_get (bodies ++ more) i) none (body_kept bodies more i)

-- so does what is said of a point
abbrev point_of : Site → Option Body → Option Point
point_of p o = option_and_then (λ b. point_at b.skeleton p.point) o

is_of : {bodies : List Body} {p : Site} {f : Bytes} (more : List Body) → IsOf bodies p f → IsOf (bodies ++ more) p f
is_of {bodies} {p} {f} more x = record {
  is_of = kept (option_and_then (λ b. option_map (λ at. b.function) (point_at b.skeleton p.point))) bodies more p.body f
      refl x.is_of;
}

passes : {bodies : List Body} {p : Site} {test : Point → Bool} (more : List Body)
    → Passes bodies p test → Passes (bodies ++ more) p test
passes {bodies} {p} {test} more x = record {
  passes = kept (λ o. option_map test (point_of p o)) bodies more p.body true refl x.passes;
}

is_kind : {bodies : List Body} {p : Site} {kind : PointKind} (more : List Body)
    → IsKind bodies p kind → IsKind (bodies ++ more) p kind
is_kind {bodies} {p} {kind} more x = record {
  is_kind = kept (λ o. option_map (λ at. at.kind) (point_of p o)) bodies more p.body kind refl x.is_kind;
}

uses : {bodies : List Body} {p : Site} {name : Bytes} (more : List Body) → Uses bodies p name → Uses (bodies ++ more) p name
uses {bodies} {p} {name} more x = record {
  uses = kept (λ o. option_and_then (λ at. direct_use at.kind) (point_of p o)) bodies more p.body name refl x.uses;
}

is_return : {bodies : List Body} {p : Site} {f : Bytes} (more : List Body) → IsReturn bodies p f → IsReturn (bodies ++ more) p f
is_return more x = record { is_return = is_kind more x.is_return; is_of = is_of more x.is_of }

is_entry : {bodies : List Body} {p : Site} {f : Bytes} (more : List Body) → IsEntry bodies p f → IsEntry (bodies ++ more) p f
is_entry more x = record { is_entry = x.is_entry; is_of = is_of more x.is_of }

next : {bodies : List Body} {p q : Site} (more : List Body) → Next bodies p q → Next (bodies ++ more) p q
next {bodies} {p} more x = record {
  body = x.body;
  stored = body_kept bodies more p.body x.body x.stored;
  same = x.same;
  leads = x.leads;
  from = x.from;
  to = x.to;
  is_from = x.is_from;
  is_to = x.is_to;
}

is_check_in : {bodies : List Body} {p : Site} {f : Bytes} {generation number : ℕ} (more : List Body)
    → IsCheckIn bodies p f generation number → IsCheckIn (bodies ++ more) p f generation number
is_check_in {bodies} {p} more x = record {
  body = x.body;
  stored = body_kept bodies more p.body x.body x.stored;
  function = x.function;
  of_generation = x.of_generation;
  is_check_in = passes more x.is_check_in;
  counted = x.counted;
}

-- the families
pub nested_grows : NestedGrows
nested_grows bodies more _ (nested.in_transaction f c call enclosed) =
    nested.in_transaction f c (is_kind more call) (passes more enclosed)
nested_grows bodies more _ (nested.Nested.in_nested f g c call of n) =
    nested.Nested.in_nested f g c (is_kind more call) (is_of more of) (nested_grows bodies more g n)

pub standard_grows : StandardGrows
standard_grows bodies more _ _ (standard.used f name p of use_of) = standard.used f name p (is_of more of) (uses more use_of)
standard_grows bodies more _ _ (standard.Standard.called f g name c of call s) =
    standard.Standard.called f g name c (is_of more of) (is_kind more call) (standard_grows bodies more g name s)

adds : {bodies : List Body} {p : Site} {name : Bytes} (more : List Body) → Adds bodies p name → Adds (bodies ++ more) p name
adds more (standard.direct p name use_of) = standard.direct p name (uses more use_of)
adds {bodies} more (standard.Adds.called p f name call s) =
    standard.Adds.called p f name (is_kind more call) (standard_grows bodies more f name s)

inside : {bodies : List Body} {p : Site} (more : List Body) → Inside bodies p → Inside (bodies ++ more) p
inside more (nested.enclosed p e) = nested.enclosed p (passes more e)
inside {bodies} more (nested.Inside.in_nested p f of n) =
    nested.Inside.in_nested p f (is_of more of) (nested_grows bodies more f n)

goes_on : {bodies : List Body} {p : Site} (more : List Body) → GoesOn bodies p → GoesOn (bodies ++ more) p
goes_on more (nested.no_outer_end p e) = nested.no_outer_end p (passes more e)
goes_on {bodies} more (nested.GoesOn.in_nested p f of n) =
    nested.GoesOn.in_nested p f (is_of more of) (nested_grows bodies more f n)

pub prior_grows : PriorGrows
prior_grows bodies more _ _ (contextual.before a b name i n x) =
    contextual.before a b name (inside more i) (next more n) (prior_grows bodies more a name x)
prior_grows bodies more _ _ (contextual.Prior.added a b name i n x) =
    contextual.Prior.added a b name (inside more i) (next more n) (adds more x)
prior_grows bodies more _ _ (contextual.entered e f at n) =
    contextual.entered e f (is_entry more at) (nested_grows bodies more f n)
prior_grows bodies more _ _ (contextual.before_call e c f name at n call i x) =
    contextual.before_call e c f name (is_entry more at) (nested_grows bodies more f n) (is_kind more call) (inside more i)
    (prior_grows bodies more c name x)

pub future_grows : FutureGrows
future_grows bodies more _ _ (contextual.Future.added p name on x) =
    contextual.Future.added p name (goes_on more on) (adds more x)
future_grows bodies more _ _ (contextual.Future.later p q name on n x) =
    contextual.Future.later p q name (goes_on more on) (next more n) (future_grows bodies more q name x)
future_grows bodies more _ _ (contextual.Future.returned r c f name ret call x) =
    contextual.Future.returned r c f name (is_return more ret) (is_kind more call) (future_grows bodies more (after_call c) name x)

pub concrete_grows : ConcreteGrows
concrete_grows bodies more _ _ (concrete.used p name use_of) = concrete.used p name (uses more use_of)
concrete_grows bodies more _ _ (concrete.later p q name n x) =
    concrete.later p q name (next more n) (concrete_grows bodies more q name x)
concrete_grows bodies more _ _ (concrete.returned r c f name ret call x) =
    concrete.returned r c f name (is_return more ret) (is_kind more call) (concrete_grows bodies more (after_call c) name x)

-- what is covered
edge : {bodies : List Body} {p q : Site} (more : List Body) → Edge bodies p q → Edge (bodies ++ more) p q
edge more (rows.on p q e n) = rows.on p q (passes more e) (next more n)
edge more (rows.call c e f call at) = rows.call c e f (is_kind more call) (is_entry more at)
edge more (rows.return r c f ret call) = rows.return r c f (is_return more ret) (is_kind more call)

covers : {bodies : List Body} {c p : Site} (more : List Body) → Covers bodies c p → Covers (bodies ++ more) c p
covers more rows.itself = rows.itself
covers more (rows.first p e) = rows.first p (edge more e)
covers more (rows.then p q k e x) = rows.then p q (covers more k) (passes more e) (edge more x)

covered : {bodies : List Body} {mark : Mark} {p : Site} (more : List Body) → Covered bodies mark p → Covered (bodies ++ more) mark p
covered more (rows.started f e at) = rows.started f e (is_entry more at)
covered more (rows.passed f generation number c p at k) =
    rows.passed f generation number c p (is_check_in more at) (covers more k)

-- and the rows
in_prior : {bodies : List Body} {mark : Mark} {name : Bytes} (more : List Body)
    → InPrior bodies mark name → InPrior (bodies ++ more) mark name
in_prior {bodies} {mark} {name} more x = record {
  site = x.site;
  covered = covered more x.covered;
  prior = prior_grows bodies more x.site name x.prior;
}

in_future : {bodies : List Body} {mark : Mark} {name : Bytes} (more : List Body)
    → InFuture bodies mark name → InFuture (bodies ++ more) mark name
in_future {bodies} {mark} {name} more x = record {
  site = x.site;
  covered = covered more x.covered;
  future = future_grows bodies more x.site name x.future;
}

in_concrete : {bodies : List Body} {mark : Mark} {name : Bytes} (more : List Body)
    → InConcrete bodies mark name → InConcrete (bodies ++ more) mark name
in_concrete more (rows.entering f) = rows.entering f
in_concrete {bodies} more (rows.InConcrete.covered mark p name k x) =
    rows.InConcrete.covered mark p name (covered more k) (concrete_grows bodies more p name x)

pub rows_grow : RowsGrow
rows_grow bodies more mark a b x y = record {
  prior = λ name has. (y.prior.same name).1 (in_prior more ((x.prior.same name).0 has));
  future = λ name has. (y.future.same name).1 (in_future more ((x.future.same name).0 has));
  concrete = λ name has. (y.concrete.same name).1 (in_concrete more ((x.concrete.same name).0 has));
}

-- the store of a run
from : (n : ℕ) (p : List BareDef) (texts later : List Text)
    → (new : List Body) × (bodies_from n p (texts ++ later) ≡ bodies_from n p texts ++ new)
from n p [] later = (bodies_from n p later, refl)
from n p (q ∷ qs) later =
    let r = from (suc n) q.definitions qs later in (
      r.0,
      ap (λ bodies. brought_bodies n p q ++ bodies) r.1
          ∙ sym (append_assoc (brought_bodies n p q) (bodies_from (suc n) q.definitions qs) r.0),
    )

pub stores_grow : StoresGrow
stores_grow texts later = from 1 [] texts later
