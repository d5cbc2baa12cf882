-- Each family is the least that its rules allow, and has nothing where it is to be empty. Each mark has exactly one row.
use Rattle.std.specs.Prelude.{◌≡◌, Bool, IsTrue, List, ◌⊎◌, ◌↔◌}
use Rattle.c_tree.specs.BareExpr.{Bytes}
use Rattle.con_freeness.specs.Rows.{Row}
use Rattle.c_semantics.specs.Store.{Body, Mark}
use Rattle.effects.specs.Sites.{Site, IsOf, IsCall, IsReturn, IsEntry, Next, Passes, Uses, after_call, is_enclosed}
use Rattle.effects.specs.Standard.{Standard, Adds}
use Rattle.effects.specs.Nested.{Nested, Inside, IsEndingEnd, GoesOn}
use Rattle.effects.specs.Contextual.{Prior, Future}
use Rattle.effects.specs.Concrete.{Concrete}
use Rattle.effects.specs.Rows.{IsRowOf}

-- a family of sets is closed under the rules of `Nested`
pub record NestedClosed (bodies : List Body) (In : Bytes → Type 0) : Type 0 where
  pub in_transaction : (f : Bytes) (c : Site) → IsCall bodies c f → Passes bodies c is_enclosed → In f
  pub in_nested : (f g : Bytes) (c : Site) → IsCall bodies c f → IsOf bodies c g → In g → In f

-- under those of `Standard`
pub record StandardClosed (bodies : List Body) (In : Bytes → Bytes → Type 0) : Type 0 where
  pub used : (f name : Bytes) (p : Site) → IsOf bodies p f → Uses bodies p name → In f name
  pub called : (f g name : Bytes) (c : Site) → IsOf bodies c f → IsCall bodies c g → In g name → In f name

-- under those of `Prior`
pub record PriorClosed (bodies : List Body) (In : Site → Bytes → Type 0) : Type 0 where
  pub before : (a b : Site) (name : Bytes) → Inside bodies b → Next bodies a b → In a name → In b name
  pub added : (a b : Site) (name : Bytes) → Inside bodies b → Next bodies a b → Adds bodies a name → In b name
  pub entered : (e : Site) (f : Bytes) → IsEntry bodies e f → Nested bodies f → In e f
  pub before_call : (e c : Site) (f name : Bytes)
      → IsEntry bodies e f → Nested bodies f → IsCall bodies c f → Inside bodies c → In c name → In e name

-- under those of `Future`; here what it is to go on is said by ending ends
pub record FutureClosed (bodies : List Body) (In : Site → Bytes → Type 0) : Type 0 where
  pub added : (p : Site) (f name : Bytes)
      → IsOf bodies p f → (IsEndingEnd bodies p f → ⊥) → Adds bodies p name → In p name
  pub later : (p q : Site) (f name : Bytes)
      → IsOf bodies p f → (IsEndingEnd bodies p f → ⊥) → Next bodies p q → In q name → In p name
  pub returned : (r c : Site) (f name : Bytes) → IsReturn bodies r f → IsCall bodies c f → In (after_call c) name → In r name

-- under those of `Concrete`
pub record ConcreteClosed (bodies : List Body) (In : Site → Bytes → Type 0) : Type 0 where
  pub used : (p : Site) (name : Bytes) → Uses bodies p name → In p name
  pub later : (p q : Site) (name : Bytes) → Next bodies p q → In q name → In p name
  pub returned : (r c : Site) (f name : Bytes) → IsReturn bodies r f → IsCall bodies c f → In (after_call c) name → In r name

-- a family is closed, and what is closed and decided by a test contains it
pub record NestedIsLeast (bodies : List Body) : Type 0 where
  pub closed : NestedClosed bodies (Nested bodies)
  pub least : (has : Bytes → Bool) → NestedClosed bodies (λ f. IsTrue (has f)) → (f : Bytes) → Nested bodies f → IsTrue (has f)

pub record StandardIsLeast (bodies : List Body) : Type 0 where
  pub closed : StandardClosed bodies (Standard bodies)
  pub least : (has : Bytes → Bytes → Bool) → StandardClosed bodies (λ f name. IsTrue (has f name))
      → (f name : Bytes) → Standard bodies f name → IsTrue (has f name)

pub record PriorIsLeast (bodies : List Body) : Type 0 where
  pub closed : PriorClosed bodies (Prior bodies)
  pub least : (has : Site → Bytes → Bool) → PriorClosed bodies (λ p name. IsTrue (has p name))
      → (p : Site) (name : Bytes) → Prior bodies p name → IsTrue (has p name)

pub record FutureIsLeast (bodies : List Body) : Type 0 where
  pub closed : FutureClosed bodies (Future bodies)
  pub least : (has : Site → Bytes → Bool) → FutureClosed bodies (λ p name. IsTrue (has p name))
      → (p : Site) (name : Bytes) → Future bodies p name → IsTrue (has p name)

pub record ConcreteIsLeast (bodies : List Body) : Type 0 where
  pub closed : ConcreteClosed bodies (Concrete bodies)
  pub least : (has : Site → Bytes → Bool) → ConcreteClosed bodies (λ p name. IsTrue (has p name))
      → (p : Site) (name : Bytes) → Concrete bodies p name → IsTrue (has p name)

abbrev pub NestedLeast : Type 0
NestedLeast = (bodies : List Body) → NestedIsLeast bodies

abbrev pub StandardLeast : Type 0
StandardLeast = (bodies : List Body) → StandardIsLeast bodies

abbrev pub PriorLeast : Type 0
PriorLeast = (bodies : List Body) → PriorIsLeast bodies

abbrev pub FutureLeast : Type 0
FutureLeast = (bodies : List Body) → FutureIsLeast bodies

abbrev pub ConcreteLeast : Type 0
ConcreteLeast = (bodies : List Body) → ConcreteIsLeast bodies

-- a function is nested or not
abbrev pub NestedOrNot : Type 0
NestedOrNot = (bodies : List Body) (f : Bytes) → Nested bodies f ⊎ (Nested bodies f → ⊥)

-- a point of a function goes on exactly if it is no ending end
abbrev pub GoesOnOrEnds : Type 0
GoesOnOrEnds = (bodies : List Body) (p : Site) (f : Bytes) → IsOf bodies p f → GoesOn bodies p ↔ (IsEndingEnd bodies p f → ⊥)

-- the prior effect is empty at points that aren't inside
abbrev pub PriorIsInside : Type 0
PriorIsInside = (bodies : List Body) (p : Site) (name : Bytes) → Prior bodies p name → Inside bodies p

-- the future effect is empty at an ending end
abbrev pub FutureEnds : Type 0
FutureEnds = (bodies : List Body) (p : Site) (f name : Bytes) → IsEndingEnd bodies p f → Future bodies p name → ⊥

-- a mark has at most one row
abbrev pub OneRow : Type 0
OneRow = (bodies : List Body) (mark : Mark) (a b : Row) → IsRowOf bodies mark a → IsRowOf bodies mark b → a ≡ b

-- each mark has a row over the bodies of a store
abbrev pub EachHasARow : Type 0
EachHasARow = (bodies : List Body) (mark : Mark) → (row : Row) × IsRowOf bodies mark row
