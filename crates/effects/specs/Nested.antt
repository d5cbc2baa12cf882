-- Where a thread may be in a transaction that it began in this function or in a caller of it.
use Rattle.std.specs.Prelude.{List, not}
use Rattle.c_tree.specs.BareExpr.{Bytes}
use Rattle.c_semantics.specs.Store.{Body}
use Rattle.effects.specs.Sites.{Site, IsOf, IsCall, Passes, is_enclosed, is_outer_end}

-- f is nested: some call of it is in a transaction of the text, or in a body of a function that is nested
pub data Nested (bodies : List Body) : Bytes → Type 0 where
  in_transaction : (f : Bytes) (c : Site) → IsCall bodies c f → Passes bodies c is_enclosed → Nested bodies f
  in_nested : (f g : Bytes) (c : Site) → IsCall bodies c f → IsOf bodies c g → Nested bodies g → Nested bodies f

-- a point is inside: a transaction of the text encloses it, or its function is nested
pub data Inside (bodies : List Body) : Site → Type 0 where
  enclosed : (p : Site) → Passes bodies p is_enclosed → Inside bodies p
  in_nested : (p : Site) (f : Bytes) → IsOf bodies p f → Nested bodies f → Inside bodies p

-- an ending end: the end of a transaction that no other encloses in the text, in a function that isn't nested. There
-- each transaction that a thread is in ends
pub record IsEndingEnd (bodies : List Body) (p : Site) (f : Bytes) : Type 0 where
  pub is_end : Passes bodies p is_outer_end
  pub is_of : IsOf bodies p f
  pub not_nested : Nested bodies f → ⊥

-- a point that is no ending end. This is said without a negation of `Nested`, so that it stays true when bodies are added
pub data GoesOn (bodies : List Body) : Site → Type 0 where
  no_outer_end : (p : Site) → Passes bodies p (λ at. not (is_outer_end at)) → GoesOn bodies p
  in_nested : (p : Site) (f : Bytes) → IsOf bodies p f → Nested bodies f → GoesOn bodies p
