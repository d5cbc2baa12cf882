-- What the code still to run in a thread's active frames may use directly.
use Rattle.std.specs.Prelude.{List}
use Rattle.c_tree.specs.BareExpr.{Bytes}
use Rattle.c_semantics.specs.Store.{Body}
use Rattle.effects.specs.Sites.{Site, IsCall, IsReturn, Next, Uses, after_call}

-- a name of the concrete effect of a point: what the point uses directly, and from the point on the rest of its body and,
-- after the return, of the callers. It has no part of what is called, and no transaction ends it
pub data Concrete (bodies : List Body) : Site → Bytes → Type 0 where
  used : (p : Site) (name : Bytes) → Uses bodies p name → Concrete bodies p name
  later : (p q : Site) (name : Bytes) → Next bodies p q → Concrete bodies q name → Concrete bodies p name
  returned : (r c : Site) (f name : Bytes)
      → IsReturn bodies r f → IsCall bodies c f → Concrete bodies (after_call c) name → Concrete bodies r name
