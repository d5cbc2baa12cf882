-- Which sets are the effects of the points and functions of a store.
use Rattle.std.specs.Prelude.{◌≡◌, ℕ, List, Some, length, slice_get, slice_index}
use Rattle.name_sets.specs.IdSet.{Holds}
use Rattle.c_tree.specs.BareExpr.{Bytes}
use Rattle.c_semantics.specs.Store.{Body}
use Rattle.effects.specs.Sites.{Site}
use Rattle.effects.specs.Standard.{Standard}
use Rattle.effects.specs.Contextual.{Prior, Future}
use Rattle.effects.specs.Concrete.{Concrete}
use Rattle.effect_flow.specs.Flows.{place_of}

-- sets of ids: three for each point, by its place, and one for each function, by its id
pub record Sets : Type 0 where
  pub prior : List ℕ
  pub future : List ℕ
  pub concrete : List ℕ
  pub standard : List ℕ

-- there are so many sets for points
pub record AreForPoints (points : ℕ) (e : Sets) : Type 0 where
  pub prior : length e.prior ≡ points
  pub future : length e.future ≡ points
  pub concrete : length e.concrete ≡ points

-- a set has exactly the ids of the names in a family, by a table of names; each name in the family has an id
pub record HasNames (names : List Bytes) (set : ℕ) (In : Bytes → Type 0) : Type 0 where
  pub only : (id : ℕ) → Holds set id → (z : Bytes) × (slice_get names id ≡ Some z) × In z
  pub all : (z : Bytes) → In z → (id : ℕ) × (slice_get names id ≡ Some z) × Holds set id

-- the sets are the effects of the points and of the functions in the table
pub record AreEffectsOf (names : List Bytes) (bodies : List Body) (e : Sets) : Type 0 where
  pub prior : (p : Site) (i : ℕ) → place_of bodies p ≡ Some i → HasNames names (slice_index e.prior i) (Prior bodies p)
  pub future : (p : Site) (i : ℕ) → place_of bodies p ≡ Some i → HasNames names (slice_index e.future i) (Future bodies p)
  pub concrete : (p : Site) (i : ℕ) → place_of bodies p ≡ Some i → HasNames names (slice_index e.concrete i) (Concrete bodies p)
  pub standard : (f : Bytes) (i : ℕ) → slice_get names i ≡ Some f → HasNames names (slice_index e.standard i) (Standard bodies f)
