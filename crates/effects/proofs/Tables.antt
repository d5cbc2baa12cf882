-- A table that passes a test at each point of a store has all names of the effects.
use Rattle.std.proofs.Common.{◌≡◌, Bool, true, ◌&&◌, ◌||◌, not, List}
use Rattle.std.specs.Prelude.{◌==◌}
use Rattle.std.specs.List.{list_any}
use Rattle.std.proofs.lemmas.Bool.Decides.{Decides-eqb}
use Rattle.name_sets.specs.NameLists.{is_among}
use Rattle.con_freeness.specs.Rows.{Names}
use Rattle.run_types.specs.Skeleton.{Call, entry}
use Rattle.c_tree.specs.BareExpr.{Bytes}
use Rattle.c_semantics.specs.Store.{Body}
use Rattle.effects.specs.Sites.{Site, IsOf, IsCall, IsReturn, IsEntry, Next, Uses, after_call, is_enclosed, is_outer_end}
use Rattle.effects.specs.Standard.{Standard, Adds}
use Rattle.effects.specs.Standard as standard
use Rattle.effects.specs.Nested.{Nested, Inside, GoesOn}
use Rattle.effects.specs.Nested as nested
use Rattle.effects.specs.Contextual.{Prior, Future}
use Rattle.effects.specs.Contextual as contextual
use Rattle.effects.specs.Concrete.{Concrete}
use Rattle.effects.specs.Concrete as concrete
use Rattle.effects.proofs.Points.{IsPoint, kind_is_point, of_is_point, uses_is_point, next_is_from_point, goes_on_is_point}
use Rattle.effects.proofs.StoreSites.{sites, point_is_among}
use Rattle.effects.proofs.PointLists.{all, both, each, if_then, conclusion, lie_in, lies, functions_at, calls_at, uses_at, passes_at, is_return, followers, of_at, call_at, use_at, pass_at, return_at, next_at, or_left, or_right, any_of, among_names}

-- names for each function and for each point
pub record Table : Type 0 where
  pub nested : Bytes → Bool
  pub standard : Bytes → Names
  pub prior : Site → Names
  pub future : Site → Names
  pub concrete : Site → Names

abbrev is_inside : List Body → Table → Site → Bool
is_inside bodies t p = passes_at bodies p is_enclosed || list_any t.nested (functions_at bodies p)

abbrev goes_on : List Body → Table → Site → Bool
goes_on bodies t p = passes_at bodies p (λ at. not (is_outer_end at)) || list_any t.nested (functions_at bodies p)

-- what holds for each call of a function
abbrev for_calls : List Body → (Site → Bool) → Bytes → Bool
for_calls bodies test f = all (λ c. if_then (is_among (calls_at bodies c) f) (test c)) (sites bodies)

-- the tests of a point: what it adds is in the table, as the rules of the effects say
abbrev nested_passes : List Body → Table → Site → Bool
nested_passes bodies t p = if_then (is_inside bodies t p) (all t.nested (calls_at bodies p))

abbrev standard_passes : List Body → Table → Site → Bool
standard_passes bodies t p =
    all (λ g. lie_in (uses_at bodies p) (t.standard g) && all (λ f. lie_in (t.standard f) (t.standard g)) (calls_at bodies p))
    (functions_at bodies p)

-- what a point adds is in some names
abbrev adds_to : List Body → Table → Site → Names → Bool
adds_to bodies t p names = lie_in (uses_at bodies p) names && all (λ f. lie_in (t.standard f) names) (calls_at bodies p)

abbrev before_passes : List Body → Table → Site → Bool
before_passes bodies t p =
    all (λ q. if_then (is_inside bodies t q) (lie_in (t.prior p) (t.prior q) && adds_to bodies t p (t.prior q)))
    (followers bodies p)

abbrev entry_passes : List Body → Table → Site → Bool
entry_passes bodies t p =
    if_then (p.point == entry)
    (all
    (λ f. if_then (t.nested f)
    (is_among (t.prior p) f
    && for_calls bodies (λ c. if_then (is_inside bodies t c) (lie_in (t.prior c) (t.prior p))) f))
    (functions_at bodies p))

abbrev future_passes : List Body → Table → Site → Bool
future_passes bodies t p =
    if_then (goes_on bodies t p)
    (adds_to bodies t p (t.future p) && all (λ q. lie_in (t.future q) (t.future p)) (followers bodies p))

abbrev return_passes : List Body → (Site → Names) → Site → Bool
return_passes bodies names p =
    if_then (passes_at bodies p (λ at. is_return at.kind))
    (all (for_calls bodies (λ c. lie_in (names (after_call c)) (names p))) (functions_at bodies p))

abbrev concrete_passes : List Body → Table → Site → Bool
concrete_passes bodies t p =
    lie_in (uses_at bodies p) (t.concrete p) && all (λ q. lie_in (t.concrete q) (t.concrete p)) (followers bodies p)

-- a table that passes at each point
pub record Passed (bodies : List Body) (t : Table) : Type 0 where
  pub nested : all (nested_passes bodies t) (sites bodies) ≡ true
  pub standard : all (standard_passes bodies t) (sites bodies) ≡ true
  pub before : all (before_passes bodies t) (sites bodies) ≡ true
  pub entries : all (entry_passes bodies t) (sites bodies) ≡ true
  pub future : all (future_passes bodies t) (sites bodies) ≡ true
  pub future_returns : all (return_passes bodies t.future) (sites bodies) ≡ true
  pub concrete : all (concrete_passes bodies t) (sites bodies) ≡ true
  pub concrete_returns : all (return_passes bodies t.concrete) (sites bodies) ≡ true

module _ (bodies : List Body) (t : Table) (k : Passed bodies t) where
  -- what a call is and what it is for
  of_call : (test : Site → Bool) (f : Bytes) (c : Site) → for_calls bodies test f ≡ true → IsCall bodies c f → test c ≡ true
  of_call test f c e call =
      conclusion (is_among (calls_at bodies c) f) (test c)
      (each (λ c. if_then (is_among (calls_at bodies c) f) (test c)) (sites bodies) c e
      (point_is_among bodies c (kind_is_point bodies c (Call f) call)))
      (among_names (calls_at bodies c) f (call_at bodies c f call))

  -- a call from within
  called : (c : Site) (f : Bytes) → IsCall bodies c f → is_inside bodies t c ≡ true → t.nested f ≡ true
  called c f call e =
      each t.nested (calls_at bodies c) f
      (conclusion (is_inside bodies t c) (all t.nested (calls_at bodies c))
      (each (nested_passes bodies t) (sites bodies) c k.nested (point_is_among bodies c (kind_is_point bodies c (Call f) call)))
      e)
      (call_at bodies c f call)

  pub nested_in : (f : Bytes) → Nested bodies f → t.nested f ≡ true
  nested_in _ (nested.in_transaction f c call e) =
      called c f call
      (or_left (passes_at bodies c is_enclosed) (list_any t.nested (functions_at bodies c)) (pass_at bodies c is_enclosed e))
  nested_in _ (nested.Nested.in_nested f g c call of n) =
      called c f call
      (or_right (passes_at bodies c is_enclosed) (list_any t.nested (functions_at bodies c))
      (any_of t.nested (functions_at bodies c) g (of_at bodies c g of) (nested_in g n)))

  inside_in : (p : Site) → Inside bodies p → is_inside bodies t p ≡ true
  inside_in _ (nested.enclosed p e) =
      or_left (passes_at bodies p is_enclosed) (list_any t.nested (functions_at bodies p)) (pass_at bodies p is_enclosed e)
  inside_in _ (nested.Inside.in_nested p f of n) =
      or_right (passes_at bodies p is_enclosed) (list_any t.nested (functions_at bodies p))
      (any_of t.nested (functions_at bodies p) f (of_at bodies p f of) (nested_in f n))

  goes_in : (p : Site) → GoesOn bodies p → goes_on bodies t p ≡ true
  goes_in _ (nested.no_outer_end p e) =
      or_left (passes_at bodies p (λ at. not (is_outer_end at))) (list_any t.nested (functions_at bodies p))
      (pass_at bodies p (λ at. not (is_outer_end at)) e)
  goes_in _ (nested.GoesOn.in_nested p f of n) =
      or_right (passes_at bodies p (λ at. not (is_outer_end at))) (list_any t.nested (functions_at bodies p))
      (any_of t.nested (functions_at bodies p) f (of_at bodies p f of) (nested_in f n))

  -- what is used at a point
  used : (p : Site) (z : Bytes) (names : Names) → lie_in (uses_at bodies p) names ≡ true → Uses bodies p z → is_among names z ≡ true
  used p z names e uses = lies (uses_at bodies p) names z e (among_names (uses_at bodies p) z (use_at bodies p z uses))

  standard_at : (g : Bytes) (p : Site) → IsOf bodies p g → adds_to bodies t p (t.standard g) ≡ true
  standard_at g p of =
      each (λ g. adds_to bodies t p (t.standard g)) (functions_at bodies p) g
      (each (standard_passes bodies t) (sites bodies) p k.standard (point_is_among bodies p (of_is_point bodies p g of)))
      (of_at bodies p g of)

  pub standard_in : (f z : Bytes) → Standard bodies f z → is_among (t.standard f) z ≡ true
  standard_in _ _ (standard.used f z p of uses) =
      used p z (t.standard f)
      (both (lie_in (uses_at bodies p) (t.standard f)) (all (λ h. lie_in (t.standard h) (t.standard f)) (calls_at bodies p))
      (standard_at f p of)).0
      uses
  standard_in _ _ (standard.Standard.called f g z c of call more) =
      lies (t.standard g) (t.standard f) z
      (each (λ h. lie_in (t.standard h) (t.standard f)) (calls_at bodies c) g
      (both (lie_in (uses_at bodies c) (t.standard f)) (all (λ h. lie_in (t.standard h) (t.standard f)) (calls_at bodies c))
      (standard_at f c of)).1
      (call_at bodies c g call))
      (standard_in g z more)

  added : (p : Site) (z : Bytes) (names : Names) → adds_to bodies t p names ≡ true → Adds bodies p z → is_among names z ≡ true
  added _ _ names e (standard.direct p z uses) =
      used p z names
      (both (lie_in (uses_at bodies p) names) (all (λ h. lie_in (t.standard h) names) (calls_at bodies p)) e).0
      uses
  added _ _ names e (standard.Adds.called p f z call more) =
      lies (t.standard f) names z
      (each (λ h. lie_in (t.standard h) names) (calls_at bodies p) f
      (both (lie_in (uses_at bodies p) names) (all (λ h. lie_in (t.standard h) names) (calls_at bodies p)) e).1
      (call_at bodies p f call))
      (standard_in f z more)

  -- prior effects
  before_at : (a b : Site) → Inside bodies b → Next bodies a b
      → (lie_in (t.prior a) (t.prior b) ≡ true) × (adds_to bodies t a (t.prior b) ≡ true)
  before_at a b inside next =
      both (lie_in (t.prior a) (t.prior b)) (adds_to bodies t a (t.prior b))
      (conclusion (is_inside bodies t b) (lie_in (t.prior a) (t.prior b) && adds_to bodies t a (t.prior b))
      (each (λ q. if_then (is_inside bodies t q) (lie_in (t.prior a) (t.prior q) && adds_to bodies t a (t.prior q)))
      (followers bodies a) b
      (each (before_passes bodies t) (sites bodies) a k.before (point_is_among bodies a (next_is_from_point bodies a b next)))
      (next_at bodies a b next))
      (inside_in b inside))

  entry_at : (e : Site) (f : Bytes) → IsEntry bodies e f → Nested bodies f
      → (is_among (t.prior e) f ≡ true)
      × (for_calls bodies (λ c. if_then (is_inside bodies t c) (lie_in (t.prior c) (t.prior e))) f ≡ true)
  entry_at e f at n =
      both (is_among (t.prior e) f)
      (for_calls bodies (λ c. if_then (is_inside bodies t c) (lie_in (t.prior c) (t.prior e))) f)
      (conclusion (t.nested f)
      (is_among (t.prior e) f && for_calls bodies (λ c. if_then (is_inside bodies t c) (lie_in (t.prior c) (t.prior e))) f)
      (each
      (λ f. if_then (t.nested f)
      (is_among (t.prior e) f && for_calls bodies (λ c. if_then (is_inside bodies t c) (lie_in (t.prior c) (t.prior e))) f))
      (functions_at bodies e) f
      (conclusion (e.point == entry) _
      (each (entry_passes bodies t) (sites bodies) e k.entries (point_is_among bodies e (of_is_point bodies e f at.is_of)))
      ((Decides-eqb e.point entry).1 at.is_entry))
      (of_at bodies e f at.is_of))
      (nested_in f n))

  pub prior_in : (p : Site) (z : Bytes) → Prior bodies p z → is_among (t.prior p) z ≡ true
  prior_in _ _ (contextual.before a b z inside next x) =
      lies (t.prior a) (t.prior b) z (before_at a b inside next).0 (prior_in a z x)
  prior_in _ _ (contextual.Prior.added a b z inside next x) = added a z (t.prior b) (before_at a b inside next).1 x
  prior_in _ _ (contextual.entered e f at n) = (entry_at e f at n).0
  prior_in _ _ (contextual.before_call e c f z at n call inside x) =
      lies (t.prior c) (t.prior e) z
      (conclusion (is_inside bodies t c) (lie_in (t.prior c) (t.prior e))
      (of_call (λ c. if_then (is_inside bodies t c) (lie_in (t.prior c) (t.prior e))) f c (entry_at e f at n).1 call)
      (inside_in c inside))
      (prior_in c z x)

  -- future effects
  future_at : (p : Site) → GoesOn bodies p
      → (adds_to bodies t p (t.future p) ≡ true) × (all (λ q. lie_in (t.future q) (t.future p)) (followers bodies p) ≡ true)
  future_at p on =
      both (adds_to bodies t p (t.future p)) (all (λ q. lie_in (t.future q) (t.future p)) (followers bodies p))
      (conclusion (goes_on bodies t p)
      (adds_to bodies t p (t.future p) && all (λ q. lie_in (t.future q) (t.future p)) (followers bodies p))
      (each (future_passes bodies t) (sites bodies) p k.future (point_is_among bodies p (goes_on_is_point bodies p on)))
      (goes_in p on))

  -- what returns
  returned : (names : Site → Names) (r c : Site) (f : Bytes) → all (return_passes bodies names) (sites bodies) ≡ true
      → IsReturn bodies r f → IsCall bodies c f → lie_in (names (after_call c)) (names r) ≡ true
  returned names r c f e ret call =
      of_call (λ c. lie_in (names (after_call c)) (names r)) f c
      (each (for_calls bodies (λ c. lie_in (names (after_call c)) (names r))) (functions_at bodies r) f
      (conclusion (passes_at bodies r (λ at. is_return at.kind)) _
      (each (return_passes bodies names) (sites bodies) r e (point_is_among bodies r (of_is_point bodies r f ret.is_of)))
      (return_at bodies r f ret))
      (of_at bodies r f ret.is_of))
      call

  pub future_in : (p : Site) (z : Bytes) → Future bodies p z → is_among (t.future p) z ≡ true
  future_in _ _ (contextual.Future.added p z on x) = added p z (t.future p) (future_at p on).0 x
  future_in _ _ (contextual.Future.later p q z on next x) =
      lies (t.future q) (t.future p) z
      (each (λ q. lie_in (t.future q) (t.future p)) (followers bodies p) q (future_at p on).1 (next_at bodies p q next))
      (future_in q z x)
  future_in _ _ (contextual.Future.returned r c f z ret call x) =
      lies (t.future (after_call c)) (t.future r) z (returned t.future r c f k.future_returns ret call)
      (future_in (after_call c) z x)

  -- concrete effects
  concrete_at : (p : Site) → IsPoint bodies p
      → (lie_in (uses_at bodies p) (t.concrete p) ≡ true)
      × (all (λ q. lie_in (t.concrete q) (t.concrete p)) (followers bodies p) ≡ true)
  concrete_at p is =
      both (lie_in (uses_at bodies p) (t.concrete p)) (all (λ q. lie_in (t.concrete q) (t.concrete p)) (followers bodies p))
      (each (concrete_passes bodies t) (sites bodies) p k.concrete (point_is_among bodies p is))

  pub concrete_in : (p : Site) (z : Bytes) → Concrete bodies p z → is_among (t.concrete p) z ≡ true
  concrete_in _ _ (concrete.used p z uses) =
      used p z (t.concrete p) (concrete_at p (uses_is_point bodies p z uses)).0 uses
  concrete_in _ _ (concrete.later p q z next x) =
      lies (t.concrete q) (t.concrete p) z
      (each (λ q. lie_in (t.concrete q) (t.concrete p)) (followers bodies p) q
      (concrete_at p (next_is_from_point bodies p q next)).1
      (next_at bodies p q next))
      (concrete_in q z x)
  concrete_in _ _ (concrete.returned r c f z ret call x) =
      lies (t.concrete (after_call c)) (t.concrete r) z (returned t.concrete r c f k.concrete_returns ret call)
      (concrete_in (after_call c) z x)
