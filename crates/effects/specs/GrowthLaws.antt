-- When bodies are added to a store, each of its sets stays or grows.
use Rattle.std.specs.Prelude.{◌≡◌, IsTrue, List, ◌++◌}
use Rattle.name_sets.specs.NameLists.{is_among}
use Rattle.con_freeness.specs.Rows.{Row}
use Rattle.c_tree.specs.BareExpr.{Bytes}
use Rattle.c_semantics.specs.SourceTexts.{Text}
use Rattle.c_semantics.specs.Store.{Body, Mark, store}
use Rattle.effects.specs.Sites.{Site}
use Rattle.effects.specs.Standard.{Standard}
use Rattle.effects.specs.Nested.{Nested}
use Rattle.effects.specs.Contextual.{Prior, Future}
use Rattle.effects.specs.Concrete.{Concrete}
use Rattle.effects.specs.Rows.{IsRowOf}

-- functions that are nested stay so
abbrev pub NestedGrows : Type 0
NestedGrows = (bodies more : List Body) (f : Bytes) → Nested bodies f → Nested (bodies ++ more) f

-- standard effects grow
abbrev pub StandardGrows : Type 0
StandardGrows = (bodies more : List Body) (f name : Bytes) → Standard bodies f name → Standard (bodies ++ more) f name

-- the effects of a point grow; where a function becomes nested, its ending ends go on from then
abbrev pub PriorGrows : Type 0
PriorGrows = (bodies more : List Body) (p : Site) (name : Bytes) → Prior bodies p name → Prior (bodies ++ more) p name

abbrev pub FutureGrows : Type 0
FutureGrows = (bodies more : List Body) (p : Site) (name : Bytes) → Future bodies p name → Future (bodies ++ more) p name

abbrev pub ConcreteGrows : Type 0
ConcreteGrows = (bodies more : List Body) (p : Site) (name : Bytes) → Concrete bodies p name → Concrete (bodies ++ more) p name

-- a row lies in another
pub record LiesIn (a b : Row) : Type 0 where
  pub prior : (name : Bytes) → IsTrue (is_among a.prior name) → IsTrue (is_among b.prior name)
  pub future : (name : Bytes) → IsTrue (is_among a.future name) → IsTrue (is_among b.future name)
  pub concrete : (name : Bytes) → IsTrue (is_among a.concrete name) → IsTrue (is_among b.concrete name)

-- the row of a mark lies in its row over the larger store
abbrev pub RowsGrow : Type 0
RowsGrow =
    (bodies more : List Body) (mark : Mark) (a b : Row)
    → IsRowOf bodies mark a → IsRowOf (bodies ++ more) mark b → LiesIn a b

-- with further texts the store of a run has bodies added, after those that it had
abbrev pub StoresGrow : Type 0
StoresGrow = (texts later : List Text) → (new : List Body) × (store (texts ++ later) ≡ store texts ++ new)
