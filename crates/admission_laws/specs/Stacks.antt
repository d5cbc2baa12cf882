-- The active frames of a thread as points of a store, and what the code still to run in them may use directly.
use Rattle.std.specs.Prelude.{ℕ, List, [], ◌∷◌}
use Rattle.run_types.specs.Skeleton.{Return}
use Rattle.c_tree.specs.BareExpr.{Bytes}
use Rattle.c_semantics.specs.Skeletons.{is_check_in_kind}
use Rattle.c_semantics.specs.Store.{Body}
use Rattle.effects.specs.Sites.{Site, IsOf, IsCall, IsKind, Next, Passes, Uses, after_call}

-- a frame that another is above: the call at which it is, and the version under which it was entered
pub record Level : Type 0 where
  pub site : Site
  pub version : ℕ

-- a site is a call of a function, from which control goes to the check-in after it
pub record AtCall (bodies : List Body) (c : Site) (f : Bytes) : Type 0 where
  pub call : IsCall bodies c f
  pub next : Next bodies c (after_call c)
  pub check_in : Passes bodies (after_call c) (λ at. is_check_in_kind at.kind)

-- the innermost frame stands at a site, and each frame below, the nearest first, is at the call of the function above it
pub data Stacked (bodies : List Body) : Site → List Level → Type 0 where
  bottom : (p : Site) (f : Bytes) → IsOf bodies p f → Stacked bodies p []
  above : (p : Site) (f : Bytes) (c : Level) (below : List Level)
      → IsOf bodies p f → AtCall bodies c.site f → Stacked bodies c.site below → Stacked bodies p (c ∷ below)

-- a name that the frames may still use directly, with the version on whose behalf: at the point of the innermost frame and
-- from there on in its body, and after its return in the frames below. That is the concrete effect, of these frames alone
pub data MayUse (bodies : List Body) : Site → ℕ → List Level → ℕ → Bytes → Type 0 where
  used : (p : Site) (version : ℕ) (below : List Level) (name : Bytes)
      → Uses bodies p name → MayUse bodies p version below version name
  later : (p q : Site) (version : ℕ) (below : List Level) (on_behalf : ℕ) (name : Bytes)
      → Next bodies p q → MayUse bodies q version below on_behalf name → MayUse bodies p version below on_behalf name
  returned : (r : Site) (version : ℕ) (c : Level) (below : List Level) (on_behalf : ℕ) (name : Bytes)
      → IsKind bodies r Return → MayUse bodies (after_call c.site) c.version below on_behalf name
      → MayUse bodies r version (c ∷ below) on_behalf name
