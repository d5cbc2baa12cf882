-- What a thread may still use in its transaction is in the future effect of its point, and changes little where it goes on.
use Rattle.std.proofs.Common.{◌≡◌, ℕ, ◌⊎◌, inl, inr, Bool, true, false, ◌&&◌, ◌==◌, List, [], ◌∷◌, find, cond, bytes_eq, slice_get, option_map, Option, Some, None, refl, sym, ap, subst, ◌∙◌}
use Rattle.std.specs.Option.{option_and_then}
use Rattle.std.proofs.lemmas.Bool.{and_parts}
use Rattle.std.proofs.lemmas.Option.{none-some, same_Some}
use Rattle.std.proofs.lemmas.Slice.Eq.{bytes_eq-Decides}
use Rattle.run_types.specs.Skeleton.{Point, PointKind, Call, Return, direct_use, kind_at, point_at}
use Rattle.c_tree.specs.BareExpr.{Bytes}
use Rattle.c_semantics.specs.SourceTexts.{Text}
use Rattle.c_semantics.specs.Store.{Body, store, body_in}
use Rattle.effects.specs.Sites.{Site, IsOf, IsCall, Next, Uses, after_call}
use Rattle.effects.specs.Standard.{Standard, Adds}
use Rattle.effects.specs.Standard as standard
use Rattle.effects.specs.Nested.{GoesOn}
use Rattle.effects.specs.Nested as nested
use Rattle.effects.specs.Contextual.{Future}
use Rattle.effects.specs.Contextual as contextual
use Rattle.effects.proofs.Points.{IsPoint, uses_is_point, kind_is_point, next_is_from_point, next_is_to_point}
use Rattle.admission_laws.specs.SoundTexts.{IsInForce, is_function, now_in}
use Rattle.admission_laws.specs.Stacks.{Level, Stacked}
use Rattle.admission_laws.specs.Closures.{ToUse, GoesFurther, Ahead}
use Rattle.admission_laws.specs.Closures as closure
use Rattle.admission_laws.proofs.PointFacts.{has_kind, is_kind_at, is_of_at, uses_by_kind, point_of, kind_of_site, place_of}
use Rattle.admission_laws.proofs.StackUses.{above_of, stacked_at}
use Rattle.admission_laws.proofs.RecordedNames.{nested_by}

-- a body in force is of its function
passes_there : (test : Body → Bool) (bodies : List Body) (b : Body) → find test bodies ≡ Some b → test b ≡ true
passes_there test [] b h = absurd (none-some b h)
passes_there test (x ∷ bodies) b h = by (test x) refl h (passes_there test bodies b)
  where
    by : (t : Bool) → test x ≡ t → cond t (Some x) (find test bodies) ≡ Some b → (find test bodies ≡ Some b → test b ≡ true) → test b ≡ true
    by true is i rest = subst (λ y. test y ≡ true) (same_Some _ _ i) is
    by false is i rest = rest i

pub of_function : (bodies : List Body) (f : Bytes) (generation : ℕ) (b : Body) → body_in bodies f generation ≡ Some b → b.function ≡ f
of_function bodies f generation b h =
    sym ((bytes_eq-Decides f b.function).0 (and_parts _ _ (passes_there (λ x. bytes_eq f x.function && x.generation == generation) bodies b h)).0)

-- over the bodies in force a call uses what the standard effect has
pub to_use_is_standard : (texts : List Text) (f name : Bytes) → ToUse texts f name → Standard (store texts) f name
to_use_is_standard texts _ _ (closure.used f name b n k in_force is use_of) =
    let i = place_of (store texts) _ b in_force.found in
    let p : Site = record { body = i.0; point = n } in
    let at = has_kind b.skeleton n k is in
    standard.used f name p (subst (IsOf (store texts) p) (of_function (store texts) f _ b in_force.found) (is_of_at (store texts) p b at.at i.1 at.here))
    (uses_by_kind (store texts) p k name (is_kind_at (store texts) p b k i.1 is) use_of)
to_use_is_standard texts _ _ (closure.ToUse.called f g name b n in_force is rest) =
    let i = place_of (store texts) _ b in_force.found in
    let p : Site = record { body = i.0; point = n } in
    let at = has_kind b.skeleton n (Call g) is in
    standard.Standard.called f g name p
    (subst (IsOf (store texts) p) (of_function (store texts) f _ b in_force.found) (is_of_at (store texts) p b at.at i.1 at.here))
    (is_kind_at (store texts) p b (Call g) i.1 is) (to_use_is_standard texts g name rest)

-- where an outermost transaction doesn't end
pub goes_on_by : (bodies : List Body) (p : Site) (below : List Level) → GoesFurther bodies p below → Stacked bodies p below → GoesOn bodies p
goes_on_by bodies _ _ (closure.no_end p below x) stacked = nested.no_outer_end p x
goes_on_by bodies _ _ (closure.within p c below n depth positive) stacked =
    let a = above_of bodies p c below stacked in
    nested.GoesOn.in_nested p a.function a.is_of (nested_by bodies c.site below n a.function depth positive a.under a.call.call)

pub ahead_is_point : (texts : List Text) (p : Site) (below : List Level) (name : Bytes) → Ahead texts p below name → IsPoint (store texts) p
ahead_is_point texts _ _ _ (closure.Ahead.used p below name goes uses) = uses_is_point (store texts) p name uses
ahead_is_point texts _ _ _ (closure.Ahead.called p below f name goes call is to_use) = kind_is_point (store texts) p (Call f) call
ahead_is_point texts _ _ _ (closure.later p q below name goes next rest) = next_is_from_point (store texts) p q next
ahead_is_point texts _ _ _ (closure.returned r c below name ret rest) = kind_is_point (store texts) r Return ret

-- what is ahead is in the future effect
pub ahead_is_future : (texts : List Text) (p : Site) (below : List Level) (name : Bytes) → Ahead texts p below name
    → Stacked (store texts) p below → Future (store texts) p name
ahead_is_future texts _ _ _ (closure.Ahead.used p below name goes uses) stacked =
    contextual.Future.added p name (goes_on_by (store texts) p below goes stacked) (standard.direct p name uses)
ahead_is_future texts _ _ _ (closure.Ahead.called p below f name goes call is to_use) stacked =
    contextual.Future.added p name (goes_on_by (store texts) p below goes stacked)
    (standard.Adds.called p f name call (to_use_is_standard texts f name to_use))
ahead_is_future texts _ _ _ (closure.later p q below name goes next rest) stacked =
    contextual.Future.later p q name (goes_on_by (store texts) p below goes stacked) next
    (ahead_is_future texts q below name rest (stacked_at (store texts) p q below stacked next.same (next_is_to_point (store texts) p q next)))
ahead_is_future texts _ _ _ (closure.returned r c below name ret rest) stacked =
    let a = above_of (store texts) r c below stacked in
    contextual.Future.returned r c.site a.function name (record { is_return = ret; is_of = a.is_of }) a.call.call
    (ahead_is_future texts (after_call c.site) below name rest
    (stacked_at (store texts) c.site (after_call c.site) below a.under refl (ahead_is_point texts (after_call c.site) below name rest)))

-- ---- into a function

-- the kind of a point that uses a name
record UsesBy (b : Body) (n : ℕ) (name : Bytes) : Type 0 where
  kind : PointKind
  is : kind_at b.skeleton n ≡ Some kind
  uses : direct_use kind ≡ Some name

uses_by : (bodies : List Body) (p : Site) (b : Body) (name : Bytes) → slice_get bodies p.body ≡ Some b → Uses bodies p name
    → UsesBy b p.point name
uses_by bodies p b name stored x = by (point_at b.skeleton p.point) refl (ap (option_and_then (λ at. direct_use at.kind)) (sym (point_of bodies p b stored)) ∙ x.uses)
  where
    by : (o : Option Point) → point_at b.skeleton p.point ≡ o → option_and_then (λ at. direct_use at.kind) o ≡ Some name → UsesBy b p.point name
    by None e h = absurd (none-some name h)
    by (Some at) e h = record { kind = at.kind; is = ap (option_map (λ p. p.kind)) e; uses = h }

-- what is ahead below, after the call
abbrev pub AheadBelow : List Text → List Level → Bytes → Type 0
AheadBelow texts [] name = ⊥
AheadBelow texts (c ∷ below) name = Ahead texts (after_call c.site) below name

-- what is ahead in the body in force of a function is what a call of it uses, or ahead below
pub to_use_or_below : (texts : List Text) (f : Bytes) (b : Body) (p : Site) (below : List Level) (name : Bytes) → IsInForce texts f b
    → slice_get (store texts) p.body ≡ Some b → Ahead texts p below name → ToUse texts f name ⊎ AheadBelow texts below name
to_use_or_below texts f b _ _ _ in_force stored (closure.Ahead.used p below name goes uses) =
    let k = uses_by (store texts) p b name stored uses in inl (closure.used f name b p.point k.kind in_force k.is k.uses)
to_use_or_below texts f b _ _ _ in_force stored (closure.Ahead.called p below g name goes call is to_use) =
    inl (closure.ToUse.called f g name b p.point in_force (kind_of_site (store texts) p b (Call g) stored call) to_use)
to_use_or_below texts f b _ _ _ in_force stored (closure.later p q below name goes next rest) =
    to_use_or_below texts f b q below name in_force (ap (slice_get (store texts)) next.same ∙ stored) rest
to_use_or_below texts f b _ _ _ in_force stored (closure.returned r c below name ret rest) = inr rest

-- so from the entry of a called function nothing is ahead that wasn't at the call
pub ahead_before_enter : (texts : List Text) (f : Bytes) (b : Body) (e : Site) (c : Level) (below : List Level) (name : Bytes)
    → IsInForce texts f b → slice_get (store texts) e.body ≡ Some b → GoesFurther (store texts) c.site below → IsCall (store texts) c.site f
    → is_function (now_in texts f) ≡ true → Next (store texts) c.site (after_call c.site) → Ahead texts e (c ∷ below) name
    → Ahead texts c.site below name
ahead_before_enter texts f b e c below name in_force stored goes call is next x =
    elim (to_use_or_below texts f b e (c ∷ below) name in_force stored x) [
      | inl to_use ↦ closure.Ahead.called c.site below f name goes call is to_use
      | inr rest ↦ closure.later c.site (after_call c.site) below name goes next rest
    ]
