-- What the frames of a thread may still use is in the concrete effect of the point where it stands, and changes little where
-- the thread goes on.
use Rattle.std.proofs.Common.{◌≡◌, ℕ, ◌⊎◌, inl, inr, List, [], ◌∷◌, refl, ◌∙◌}
use Rattle.run_types.specs.Skeleton.{Return}
use Rattle.c_tree.specs.BareExpr.{Bytes}
use Rattle.c_semantics.specs.Store.{Body}
use Rattle.effects.specs.Sites.{Site, IsOf, Uses, after_call}
use Rattle.effects.specs.Concrete.{Concrete}
use Rattle.effects.specs.Concrete as concrete
use Rattle.effects.proofs.Points.{IsPoint, uses_is_point, kind_is_point, next_is_from_point, next_is_to_point}
use Rattle.admission_laws.specs.Stacks.{Level, AtCall, Stacked, bottom, above, MayUse, used, later, returned}
use Rattle.admission_laws.proofs.PointFacts.{same_function}

-- the innermost frame's function, and what is below
pub record Above (bodies : List Body) (p : Site) (c : Level) (below : List Level) : Type 0 where
  pub function : Bytes
  pub is_of : IsOf bodies p function
  pub call : AtCall bodies c.site function
  pub under : Stacked bodies c.site below

pub above_of : (bodies : List Body) (p : Site) (c : Level) (below : List Level) → Stacked bodies p (c ∷ below) → Above bodies p c below
above_of bodies _ _ _ (above p f c below is_of call under) = record { function = f; is_of = is_of; call = call; under = under }

-- a frame that goes on in its body stays above the same ones
pub stacked_at : (bodies : List Body) (p q : Site) (below : List Level) → Stacked bodies p below → q.body ≡ p.body → IsPoint bodies q
    → Stacked bodies q below
stacked_at bodies _ q _ (bottom p f is_of) same point = bottom q f (same_function bodies p q f is_of same point)
stacked_at bodies _ q _ (above p f c below is_of call under) same point =
    above q f c below (same_function bodies p q f is_of same point) call under

pub may_use_is_point : (bodies : List Body) (p : Site) (v : ℕ) (below : List Level) (u : ℕ) (name : Bytes)
    → MayUse bodies p v below u name → IsPoint bodies p
may_use_is_point bodies _ _ _ _ _ (used p v below name uses) = uses_is_point bodies p name uses
may_use_is_point bodies _ _ _ _ _ (later p q v below u name next rest) = next_is_from_point bodies p q next
may_use_is_point bodies _ _ _ _ _ (returned r v c below u name ret rest) = kind_is_point bodies r Return ret

pub may_use_is_concrete : (bodies : List Body) (p : Site) (v : ℕ) (below : List Level) (u : ℕ) (name : Bytes)
    → MayUse bodies p v below u name → Stacked bodies p below → Concrete bodies p name
may_use_is_concrete bodies _ _ _ _ _ (used p v below name uses) stacked = concrete.used p name uses
may_use_is_concrete bodies _ _ _ _ _ (later p q v below u name next rest) stacked =
    concrete.Concrete.later p q name next
    (may_use_is_concrete bodies q v below u name rest (stacked_at bodies p q below stacked next.same (next_is_to_point bodies p q next)))
may_use_is_concrete bodies _ _ _ _ _ (returned r v c below u name ret rest) stacked =
    let a = above_of bodies r c below stacked in
    concrete.Concrete.returned r c.site a.function name (record { is_return = ret; is_of = a.is_of }) a.call.call
    (may_use_is_concrete bodies (after_call c.site) c.version below u name rest
    (stacked_at bodies c.site (after_call c.site) below a.under refl (may_use_is_point bodies (after_call c.site) c.version below u name rest)))

-- a name that the innermost frame's own body uses, on behalf of its version
pub record UsedThere (bodies : List Body) (p : Site) (v u : ℕ) (name : Bytes) : Type 0 where
  pub same_version : u ≡ v
  pub site : Site
  pub same_body : site.body ≡ p.body
  pub uses : Uses bodies site name

-- what the frames below may use, the nearest after its call
abbrev pub UsedBelow : List Body → List Level → ℕ → Bytes → Type 0
UsedBelow bodies [] u name = ⊥
UsedBelow bodies (c ∷ below) u name = MayUse bodies (after_call c.site) c.version below u name

onward : (bodies : List Body) (p q : Site) (v : ℕ) (below : List Level) (u : ℕ) (name : Bytes) → q.body ≡ p.body
    → UsedThere bodies q v u name ⊎ UsedBelow bodies below u name → UsedThere bodies p v u name ⊎ UsedBelow bodies below u name
onward bodies p q v below u name same (inl y) =
    inl (record { same_version = y.same_version; site = y.site; same_body = y.same_body ∙ same; uses = y.uses })
onward bodies p q v below u name same (inr y) = inr y

-- what the frames may use is what the body of the innermost uses, or what those below may use
pub own_or_below : (bodies : List Body) (p : Site) (v : ℕ) (below : List Level) (u : ℕ) (name : Bytes)
    → MayUse bodies p v below u name → UsedThere bodies p v u name ⊎ UsedBelow bodies below u name
own_or_below bodies _ _ _ _ _ (used p v below name uses) =
    inl (record { same_version = refl; site = p; same_body = refl; uses = uses })
own_or_below bodies _ _ _ _ _ (later p q v below u name next rest) =
    onward bodies p q v below u name next.same (own_or_below bodies q v below u name rest)
own_or_below bodies _ _ _ _ _ (returned r v c below u name ret rest) = inr rest
