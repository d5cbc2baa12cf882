-- The standard effect (contextual effects, POPL 2008): what a function and all that it calls may use.
use Rattle.std.specs.Prelude.{List}
use Rattle.c_tree.specs.BareExpr.{Bytes}
use Rattle.c_semantics.specs.Store.{Body}
use Rattle.effects.specs.Sites.{Site, IsOf, IsCall, Uses}

-- a name of the standard effect of f, over all its bodies. What a spawned function uses isn't in it: a spawn uses the
-- function's name alone
pub data Standard (bodies : List Body) : Bytes → Bytes → Type 0 where
  -- what a body of f uses directly, the function of a call among it
  used : (f name : Bytes) (p : Site) → IsOf bodies p f → Uses bodies p name → Standard bodies f name
  -- what a function uses that a body of f calls
  called : (f g name : Bytes) (c : Site) → IsOf bodies c f → IsCall bodies c g → Standard bodies g name → Standard bodies f name

-- a name that a thread may use at a point, until it is at the next one of this body: what the point uses directly, and
-- at a call what the called function may use
pub data Adds (bodies : List Body) : Site → Bytes → Type 0 where
  direct : (p : Site) (name : Bytes) → Uses bodies p name → Adds bodies p name
  called : (p : Site) (f name : Bytes) → IsCall bodies p f → Standard bodies f name → Adds bodies p name
