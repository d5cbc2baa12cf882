-- The prior and the future effect of a point (contextual effects, POPL 2008), over the outermost transaction in progress.
use Rattle.std.specs.Prelude.{List}
use Rattle.c_tree.specs.BareExpr.{Bytes}
use Rattle.c_semantics.specs.Store.{Body}
use Rattle.effects.specs.Sites.{Site, IsCall, IsReturn, IsEntry, Next, after_call}
use Rattle.effects.specs.Standard.{Adds}
use Rattle.effects.specs.Nested.{Nested, Inside, GoesOn}

-- a name of the prior effect: what the outermost transaction in progress may have used before the point. It is empty at
-- points that aren't inside
pub data Prior (bodies : List Body) : Site → Bytes → Type 0 where
  -- what it may have used before a point from which control comes, and at that point
  before : (a b : Site) (name : Bytes) → Inside bodies b → Next bodies a b → Prior bodies a name → Prior bodies b name
  added : (a b : Site) (name : Bytes) → Inside bodies b → Next bodies a b → Adds bodies a name → Prior bodies b name
  -- at the entry of a nested function the function, and what it may have used before an inside call of it
  entered : (e : Site) (f : Bytes) → IsEntry bodies e f → Nested bodies f → Prior bodies e f
  before_call : (e c : Site) (f name : Bytes)
      → IsEntry bodies e f → Nested bodies f → IsCall bodies c f → Inside bodies c → Prior bodies c name → Prior bodies e name

-- a name of the future effect: what a thread may use from the point on until its outermost transaction ends, callees and
-- callers included. It is empty at an ending end
pub data Future (bodies : List Body) : Site → Bytes → Type 0 where
  -- what it may use at the point, and from a point on to which control may go
  added : (p : Site) (name : Bytes) → GoesOn bodies p → Adds bodies p name → Future bodies p name
  later : (p q : Site) (name : Bytes) → GoesOn bodies p → Next bodies p q → Future bodies q name → Future bodies p name
  -- at a return what it may use after the call, for each call of the function
  returned : (r c : Site) (f name : Bytes)
      → IsReturn bodies r f → IsCall bodies c f → Future bodies (after_call c) name → Future bodies r name
