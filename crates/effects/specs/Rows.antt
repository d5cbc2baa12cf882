-- What a check-in covers, and the row of a mark: the union of the three effects over the covered points.
use Rattle.std.specs.Prelude.{◌≡◌, ℕ, ◌↔◌, IsTrue, List, Some, not, slice_get}
use Rattle.name_sets.specs.NameLists.{is_among, name_set}
use Rattle.con_freeness.specs.Rows.{Names, Row}
use Rattle.c_tree.specs.BareExpr.{Bytes}
use Rattle.c_semantics.specs.Skeletons.{is_check_in_kind}
use Rattle.c_semantics.specs.Store.{Body, Mark, Start, CheckInOf, check_in_number}
use Rattle.effects.specs.Sites.{Site, IsCall, IsReturn, IsEntry, Next, Passes, after_call, stays}
use Rattle.effects.specs.Contextual.{Prior, Future}
use Rattle.effects.specs.Concrete.{Concrete}

-- a thread may go from one point to another without a point between, over calls and returns too
pub data Edge (bodies : List Body) : Site → Site → Type 0 where
  on : (p q : Site) → Passes bodies p (λ at. stays at.kind) → Next bodies p q → Edge bodies p q
  call : (c e : Site) (f : Bytes) → IsCall bodies c f → IsEntry bodies e f → Edge bodies c e
  return : (r c : Site) (f : Bytes) → IsReturn bodies r f → IsCall bodies c f → Edge bodies r (after_call c)

-- a point that is reached from check-in c with no check-in between: c itself, and what a path leads to. A path ends at the
-- next check-in, which is covered too
pub data Covers (bodies : List Body) (c : Site) : Site → Type 0 where
  itself : Covers bodies c c
  first : (p : Site) → Edge bodies c p → Covers bodies c p
  then : (p q : Site)
      → Covers bodies c p → Passes bodies p (λ at. not (is_check_in_kind at.kind)) → Edge bodies p q → Covers bodies c q

-- site p is the check-in of that number in the body of f of a generation
pub record IsCheckIn (bodies : List Body) (p : Site) (f : Bytes) (generation number : ℕ) : Type 0 where
  pub body : Body
  pub stored : slice_get bodies p.body ≡ Some body
  pub function : body.function ≡ f
  pub of_generation : body.generation ≡ generation
  pub is_check_in : Passes bodies p (λ at. is_check_in_kind at.kind)
  pub counted : check_in_number body p.point ≡ number

-- a point that a mark covers. A thread that was started covers the entry of each body of its function
pub data Covered (bodies : List Body) : Mark → Site → Type 0 where
  started : (f : Bytes) (e : Site) → IsEntry bodies e f → Covered bodies (Start f) e
  passed : (f : Bytes) (generation number : ℕ) (c p : Site)
      → IsCheckIn bodies c f generation number → Covers bodies c p → Covered bodies (CheckInOf f generation number) p

-- a name of the prior set of a mark's row
pub record InPrior (bodies : List Body) (mark : Mark) (name : Bytes) : Type 0 where
  pub site : Site
  pub covered : Covered bodies mark site
  pub prior : Prior bodies site name

-- of its future set
pub record InFuture (bodies : List Body) (mark : Mark) (name : Bytes) : Type 0 where
  pub site : Site
  pub covered : Covered bodies mark site
  pub future : Future bodies site name

-- of its concrete set; the function of a start is in it, since its enter is still to come
pub data InConcrete (bodies : List Body) : Mark → Bytes → Type 0 where
  entering : (f : Bytes) → InConcrete bodies (Start f) f
  covered : (mark : Mark) (p : Site) (name : Bytes)
      → Covered bodies mark p → Concrete bodies p name → InConcrete bodies mark name

-- a list has exactly the names of a set, in the order of their bytes and each once
pub record IsSet (names : Names) (In : Bytes → Type 0) : Type 0 where
  pub ordered : name_set names ≡ names
  pub same : (name : Bytes) → IsTrue (is_among names name) ↔ In name

-- the row of a mark over the bodies of a store
pub record IsRowOf (bodies : List Body) (mark : Mark) (row : Row) : Type 0 where
  pub prior : IsSet row.prior (InPrior bodies mark)
  pub future : IsSet row.future (InFuture bodies mark)
  pub concrete : IsSet row.concrete (InConcrete bodies mark)

-- a function that gives each mark its row over each list of bodies
abbrev pub AreRows : (List Body → Mark → Row) → Type 0
AreRows row = (bodies : List Body) (mark : Mark) → IsRowOf bodies mark (row bodies mark)
