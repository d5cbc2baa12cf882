-- What is so in a store stays so when bodies are added, and what is said of the points that were there comes from them.
use Rattle.std.proofs.Common.{◌≡◌, ℕ, zero, suc, Bool, true, List, [], ◌∷◌, ◌++◌, Some, None, refl, sym, ap, ◌∙◌}
use Rattle.std.specs.Prelude.{Option, slice_get, option_map}
use Rattle.std.specs.Option.{option_and_then}
use Rattle.run_types.specs.Skeleton.{Point, PointKind, Return, direct_use, point_at}
use Rattle.c_tree.specs.BareExpr.{Bytes}
use Rattle.c_semantics.specs.Store.{Body, Mark}
use Rattle.effects.specs.Sites.{Site, IsOf, Passes, IsKind, IsReturn, IsEntry, Next, Uses, point_in, after_call}
use Rattle.effects.specs.Rows.{Edge, Covers, IsCheckIn, Covered}
use Rattle.effects.specs.Rows as rows
use Rattle.effects.proofs.Points.{IsPoint, of_is_point, next_is_to_point}
use Rattle.admission_laws.specs.Stacks.{Level, AtCall, Stacked, bottom, above, MayUse}
use Rattle.admission_laws.specs.Stacks as stacks
use Rattle.admission_laws.specs.Standing.{Behind}
use Rattle.admission_laws.proofs.PointFacts.{Found, found}
use Rattle.admission_laws.proofs.StackUses.{above_of, stacked_at, may_use_is_point}

pub body_kept : (bodies more : List Body) (i : ℕ) (b : Body) → slice_get bodies i ≡ Some b → slice_get (bodies ++ more) i ≡ Some b
body_kept [] more i b e = cc
body_kept (a ∷ bodies) more zero b e = e
body_kept (a ∷ bodies) more (suc i) b e = body_kept bodies more i b e

-- what is read of a body stays
kept_of : {A : Type 0} (read : Option Body → Option A) (a : A) (before after : Option Body) → read None ≡ None
    → ((b : Body) → before ≡ Some b → after ≡ Some b) → read before ≡ Some a → read after ≡ Some a
kept_of read a None after none same e = cc
kept_of read a (Some b) after none same e = ap read (same b refl) ∙ e

kept : {A : Type 0} (read : Option Body → Option A) (bodies more : List Body) (i : ℕ) (a : A) → read None ≡ None
    → read (slice_get bodies i) ≡ Some a → read (slice_get (bodies ++ more) i) ≡ Some a
kept read bodies more i a none =
    kept_of read a (slice_get bodies i) (slice_get (bodies ++ more) i) none (body_kept bodies more i)

abbrev point_of : Site → Option Body → Option Point
point_of p o = option_and_then (λ b. point_at b.skeleton p.point) o

pub is_of : (bodies more : List Body) (p : Site) (f : Bytes) → IsOf bodies p f → IsOf (bodies ++ more) p f
is_of bodies more p f x = record {
  is_of = kept (option_and_then (λ b. option_map (λ at. b.function) (point_at b.skeleton p.point))) bodies more p.body f refl x.is_of;
}

pub passes : (bodies more : List Body) (p : Site) (test : Point → Bool) → Passes bodies p test → Passes (bodies ++ more) p test
passes bodies more p test x = record { passes = kept (λ o. option_map test (point_of p o)) bodies more p.body true refl x.passes }

pub is_kind : (bodies more : List Body) (p : Site) (kind : PointKind) → IsKind bodies p kind → IsKind (bodies ++ more) p kind
is_kind bodies more p kind x =
    record { is_kind = kept (λ o. option_map (λ at. at.kind) (point_of p o)) bodies more p.body kind refl x.is_kind }

pub uses_more : (bodies more : List Body) (p : Site) (name : Bytes) → Uses bodies p name → Uses (bodies ++ more) p name
uses_more bodies more p name x =
    record { uses = kept (λ o. option_and_then (λ at. direct_use at.kind) (point_of p o)) bodies more p.body name refl x.uses }

pub next : (bodies more : List Body) (p q : Site) → Next bodies p q → Next (bodies ++ more) p q
next bodies more p q x = record {
  body = x.body;
  stored = body_kept bodies more p.body x.body x.stored;
  same = x.same;
  leads = x.leads;
  from = x.from;
  to = x.to;
  is_from = x.is_from;
  is_to = x.is_to;
}

is_return : (bodies more : List Body) (p : Site) (f : Bytes) → IsReturn bodies p f → IsReturn (bodies ++ more) p f
is_return bodies more p f x = record { is_return = is_kind bodies more p Return x.is_return; is_of = is_of bodies more p f x.is_of }

is_entry : (bodies more : List Body) (p : Site) (f : Bytes) → IsEntry bodies p f → IsEntry (bodies ++ more) p f
is_entry bodies more p f x = record { is_entry = x.is_entry; is_of = is_of bodies more p f x.is_of }

pub is_check_in : (bodies more : List Body) (p : Site) (f : Bytes) (generation number : ℕ)
    → IsCheckIn bodies p f generation number → IsCheckIn (bodies ++ more) p f generation number
is_check_in bodies more p f generation number x = record {
  body = x.body;
  stored = body_kept bodies more p.body x.body x.stored;
  function = x.function;
  of_generation = x.of_generation;
  is_check_in = passes bodies more p _ x.is_check_in;
  counted = x.counted;
}

edge : (bodies more : List Body) (p q : Site) → Edge bodies p q → Edge (bodies ++ more) p q
edge bodies more _ _ (rows.on p q e n) = rows.on p q (passes bodies more p _ e) (next bodies more p q n)
edge bodies more _ _ (rows.call c e f call at) = rows.call c e f (is_kind bodies more c _ call) (is_entry bodies more e f at)
edge bodies more _ _ (rows.return r c f ret call) =
    rows.return r c f (is_return bodies more r f ret) (is_kind bodies more c _ call)

pub covers : (bodies more : List Body) (c p : Site) → Covers bodies c p → Covers (bodies ++ more) c p
covers bodies more c _ rows.itself = rows.itself
covers bodies more c _ (rows.first p e) = rows.first p (edge bodies more c p e)
covers bodies more c _ (rows.then p q k e x) =
    rows.then p q (covers bodies more c p k) (passes bodies more p _ e) (edge bodies more p q x)

pub covered : (bodies more : List Body) (mark : Mark) (p : Site) → Covered bodies mark p → Covered (bodies ++ more) mark p
covered bodies more _ _ (rows.started f e at) = rows.started f e (is_entry bodies more e f at)
covered bodies more _ _ (rows.passed f generation number c p at k) =
    rows.passed f generation number c p (is_check_in bodies more c f generation number at) (covers bodies more c p k)

pub behind : (bodies more : List Body) (mark : Mark) (p : Site) → Behind bodies mark p → Behind (bodies ++ more) mark p
behind bodies more mark p b = record {
  function = b.function;
  generation = b.generation;
  number = b.number;
  is_mark = b.is_mark;
  check_in = b.check_in;
  is_check_in = is_check_in bodies more b.check_in b.function b.generation b.number b.is_check_in;
  covers = covers bodies more b.check_in p b.covers;
}

pub at_call : (bodies more : List Body) (c : Site) (f : Bytes) → AtCall bodies c f → AtCall (bodies ++ more) c f
at_call bodies more c f x = record {
  call = is_kind bodies more c _ x.call;
  next = next bodies more c (after_call c) x.next;
  check_in = passes bodies more (after_call c) _ x.check_in;
}

pub stacked : (bodies more : List Body) (p : Site) (below : List Level) → Stacked bodies p below → Stacked (bodies ++ more) p below
stacked bodies more _ _ (bottom p f x) = bottom p f (is_of bodies more p f x)
stacked bodies more _ _ (above p f c below x call under) =
    above p f c below (is_of bodies more p f x) (at_call bodies more c.site f call) (stacked bodies more c.site below under)

-- ---- points that were there

pub same_point : (bodies more : List Body) (p : Site) (b : Body) → slice_get bodies p.body ≡ Some b → point_in (bodies ++ more) p ≡ point_in bodies p
same_point bodies more p b stored = ap (point_of p) (body_kept bodies more p.body b stored ∙ sym stored)

pub uses_before : (bodies more : List Body) (p : Site) (b : Body) (name : Bytes) → slice_get bodies p.body ≡ Some b → Uses (bodies ++ more) p name
    → Uses bodies p name
uses_before bodies more p b name stored x =
    record { uses = ap (option_and_then (λ at. direct_use at.kind)) (sym (same_point bodies more p b stored)) ∙ x.uses }

pub kind_before : (bodies more : List Body) (p : Site) (b : Body) (k : PointKind) → slice_get bodies p.body ≡ Some b → IsKind (bodies ++ more) p k
    → IsKind bodies p k
kind_before bodies more p b k stored x =
    record { is_kind = ap (option_map (λ at. at.kind)) (sym (same_point bodies more p b stored)) ∙ x.is_kind }

pub passes_before : (bodies more : List Body) (p : Site) (b : Body) (test : Point → Bool) → slice_get bodies p.body ≡ Some b
    → Passes (bodies ++ more) p test → Passes bodies p test
passes_before bodies more p b test stored x =
    record { passes = ap (option_map test) (sym (same_point bodies more p b stored)) ∙ x.passes }

pub next_before : (bodies more : List Body) (p q : Site) (b : Body) → slice_get bodies p.body ≡ Some b → Next (bodies ++ more) p q → Next bodies p q
next_before bodies more p q b stored x = record {
  body = x.body;
  stored = stored ∙ sym (body_kept bodies more p.body b stored) ∙ x.stored;
  same = x.same;
  leads = x.leads;
  from = x.from;
  to = x.to;
  is_from = x.is_from;
  is_to = x.is_to;
}

point_before : (bodies more : List Body) (p : Site) (b : Body) → slice_get bodies p.body ≡ Some b → IsPoint (bodies ++ more) p → IsPoint bodies p
point_before bodies more p b stored x = record { point = x.point; is_point = sym (same_point bodies more p b stored) ∙ x.is_point }

-- the body at which a stack stands
pub stored_at : (bodies : List Body) (p : Site) (below : List Level) → Stacked bodies p below → Found bodies p
stored_at bodies _ _ (bottom p f x) = found bodies p (of_is_point bodies p f x)
stored_at bodies _ _ (above p f c below x call under) = found bodies p (of_is_point bodies p f x)

-- frames that stand in a store may use what they may use in it alone, also where bodies are added
pub may_use_before : (bodies more : List Body) (p : Site) (v : ℕ) (below : List Level) (u : ℕ) (name : Bytes)
    → MayUse (bodies ++ more) p v below u name → Stacked bodies p below → MayUse bodies p v below u name
may_use_before bodies more _ _ _ _ _ (stacks.used p v below name x) st =
    let b = stored_at bodies p below st in stacks.used p v below name (uses_before bodies more p b.body name b.stored x)
may_use_before bodies more _ _ _ _ _ (stacks.later p q v below u name x rest) st =
    let b = stored_at bodies p below st in
    let x' = next_before bodies more p q b.body b.stored x in
    stacks.later p q v below u name x'
    (may_use_before bodies more q v below u name rest (stacked_at bodies p q below st x'.same (next_is_to_point bodies p q x')))
may_use_before bodies more _ _ _ _ _ (stacks.returned r v c below u name ret rest) st =
    let b = stored_at bodies r (c ∷ below) st in
    let a = above_of bodies r c below st in
    let d = stored_at bodies c.site below a.under in
    stacks.returned r v c below u name (kind_before bodies more r b.body Return b.stored ret)
    (may_use_before bodies more (after_call c.site) c.version below u name rest
    (stacked_at bodies c.site (after_call c.site) below a.under refl
    (point_before bodies more (after_call c.site) d.body d.stored
    (may_use_is_point (bodies ++ more) (after_call c.site) c.version below u name rest))))
