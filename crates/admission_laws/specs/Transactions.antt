-- The transactions that a thread is in, and what is known of the names that it recorded in the outermost one.
use Rattle.std.specs.Prelude.{◌≡◌, ℕ, ◌+◌, ◌<◌, ◌⊎◌, List, [], ◌∷◌, Option, Some, None, option_map}
use Rattle.c_tree.specs.BareExpr.{Bytes}
use Rattle.c_semantics.specs.Store.{Body}
use Rattle.c_semantics.specs.Threads.{Enter}
use Rattle.effects.specs.Sites.{Site, Uses, point_in}
use Rattle.effects.specs.Standard.{Adds}
use Rattle.effects.specs.Contextual.{Prior}
use Rattle.admission_laws.specs.Stacks.{Level}

-- how many transactions enclose a point in the text of its function
pub record HasDepth (bodies : List Body) (p : Site) (depth : ℕ) : Type 0 where
  pub has_depth : option_map (λ at. at.depth) (point_in bodies p) ≡ Some depth

-- how many transactions a thread is in: those that enclose its point, and those that enclose the calls below
pub data Depth (bodies : List Body) : Site → List Level → ℕ → Type 0 where
  bottom : (p : Site) (depth : ℕ) → HasDepth bodies p depth → Depth bodies p [] depth
  above : (p : Site) (depth : ℕ) (c : Level) (below : List Level) (n : ℕ)
      → HasDepth bodies p depth → Depth bodies c.site below n → Depth bodies p (c ∷ below) (depth + n)

-- a name that was recorded is known below: at each call that is in a transaction, it was used before the call or by what is
-- called
abbrev pub KnownBelow : List Body → List Level → Bytes → Type 0
KnownBelow bodies [] name = Unit {0}
KnownBelow bodies (c ∷ below) name =
    ((n : ℕ) → Depth bodies c.site below n → 0 < n → Prior bodies c.site name ⊎ Adds bodies c.site name) × KnownBelow bodies below name

-- a name that was recorded is known where a thread stands: it was used before the point, or at it, but not at a call whose
-- enter is due
pub record Known (bodies : List Body) (p : Site) (due : Option Enter) (below : List Level) (name : Bytes) : Type 0 where
  pub here : Prior bodies p name ⊎ ((due ≡ None) × Uses bodies p name)
  pub under : KnownBelow bodies below name
