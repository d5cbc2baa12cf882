-- What a thread may still use until its outermost transaction ends: the actual frames, and the bodies now in force of what
-- they call.
use Rattle.std.specs.Prelude.{◌≡◌, ℕ, ◌<◌, true, List, ◌∷◌, Some, not}
use Rattle.run_types.specs.Skeleton.{PointKind, Call, Return, direct_use, kind_at}
use Rattle.c_tree.specs.BareExpr.{Bytes}
use Rattle.c_semantics.specs.SourceTexts.{Text}
use Rattle.c_semantics.specs.Store.{Body, store}
use Rattle.effects.specs.Sites.{Site, IsCall, IsKind, Next, Passes, Uses, after_call, is_outer_end}
use Rattle.admission_laws.specs.SoundTexts.{IsInForce, is_function, now_in}
use Rattle.admission_laws.specs.Stacks.{Level}
use Rattle.admission_laws.specs.Transactions.{Depth}

-- a name that a call of f uses, over the bodies in force
pub data ToUse (texts : List Text) : Bytes → Bytes → Type 0 where
  used : (f name : Bytes) (b : Body) (n : ℕ) (k : PointKind)
      → IsInForce texts f b → kind_at b.skeleton n ≡ Some k → direct_use k ≡ Some name → ToUse texts f name
  called : (f g name : Bytes) (b : Body) (n : ℕ)
      → IsInForce texts f b → kind_at b.skeleton n ≡ Some (Call g) → ToUse texts g name → ToUse texts f name

-- a point that isn't the end of a thread's outermost transaction: no outer end of its text, or the calls below are in one
pub data GoesFurther (bodies : List Body) : Site → List Level → Type 0 where
  no_end : (p : Site) (below : List Level) → Passes bodies p (λ at. not (is_outer_end at)) → GoesFurther bodies p below
  within : (p : Site) (c : Level) (below : List Level) (n : ℕ) → Depth bodies c.site below n → 0 < n → GoesFurther bodies p (c ∷ below)

-- a name that a thread may use from where it stands, until its outermost transaction ends
pub data Ahead (texts : List Text) : Site → List Level → Bytes → Type 0 where
  used : (p : Site) (below : List Level) (name : Bytes)
      → GoesFurther (store texts) p below → Uses (store texts) p name → Ahead texts p below name
  called : (p : Site) (below : List Level) (f name : Bytes)
      → GoesFurther (store texts) p below → IsCall (store texts) p f → is_function (now_in texts f) ≡ true → ToUse texts f name
      → Ahead texts p below name
  later : (p q : Site) (below : List Level) (name : Bytes)
      → GoesFurther (store texts) p below → Next (store texts) p q → Ahead texts q below name → Ahead texts p below name
  returned : (r : Site) (c : Level) (below : List Level) (name : Bytes)
      → IsKind (store texts) r Return → Ahead texts (after_call c.site) below name → Ahead texts r (c ∷ below) name
