-- What the steps of the solution promise one another.
use Rattle.std.specs.Prelude.{◌≡◌, ◌≢◌, ℕ, ◌+◌, ◌<◌, ◌≤◌, ◌↔◌, List, [], ◌∷◌, ◌++◌, All, length, replicate, take, slice_get, slice_index, Some}
use Rattle.name_sets.specs.IdSet.{Holds}
use Rattle.c_tree.specs.BareExpr.{Bytes}
use Rattle.c_semantics.specs.Store.{Body}
use Rattle.effects.specs.Standard.{Standard}
use Rattle.effects.specs.Nested.{Nested}
use Rattle.effect_flow.specs.Parts.{Contents, HasIdsBelow}
use Rattle.set_constraints.specs.Constraints.{Reaches}
use Rattle.contextual_effects.specs.declared.constraints.System.{System}
use Rattle.contextual_effects.specs.declared.constraints.System.TheVariants as of
use Rattle.contextual_effects.specs.Edges.{edges_of}
use Rattle.contextual_effects.specs.Effects.{HasNames}

-- there are so many points, and the number is the least above their ids
pub record Numbers (points ids : ℕ) (flow : Contents) : Type 0 where
  pub many : length flow.points ≡ points
  pub known : All (HasIdsBelow ids) flow.points
  pub least : (n : ℕ) → All (HasIdsBelow n) flow.points → ids ≤ n

-- the set has the id alone
abbrev pub IsSingle : ℕ → ℕ → Type 0
IsSingle set id = (other : ℕ) → Holds set other ↔ (other ≡ id)

abbrev pub IsEmptySet : ℕ → Type 0
IsEmptySet set = (id : ℕ) → Holds set id → ⊥

-- for each id the set that has it alone
pub record AreSingles (ids : ℕ) (sets : List ℕ) : Type 0 where
  pub many : length sets ≡ ids
  pub single : (i : ℕ) → i < ids → IsSingle (slice_index sets i) i

-- points and calls have no names of their own, functions have given sets, and names themselves
pub record AreSeeds (points ids : ℕ) (whole seeds : List ℕ) : Type 0 where
  pub empty : ℕ
  pub singles : List ℕ
  pub is_empty : IsEmptySet empty
  pub are_singles : AreSingles ids singles
  pub seeds_are : seeds ≡ replicate (points + ids) empty ++ whole ++ singles

-- the nodes of the system are those for points, calls, functions and names
abbrev pub HasNodes : System → Type 0
HasNodes system = system ≢ of.Nested

-- the sets of a system that begins with given sets of functions
pub record AreSetsOf (system : System) (points ids nested : ℕ) (whole : List ℕ) (flow : Contents) (sets : List ℕ) : Type 0 where
  pub seeds : List ℕ
  pub are_seeds : AreSeeds points ids whole seeds
  pub many : length sets ≡ length seeds
  pub least : (n id : ℕ) → Holds (slice_index sets n) id ↔ Reaches seeds (edges_of system points ids nested flow) n id

-- so many empty sets
pub record AreNone (count : ℕ) (sets : List ℕ) : Type 0 where
  pub empty : ℕ
  pub is_empty : IsEmptySet empty
  pub sets_are : sets ≡ replicate count empty

-- functions have no token, and the transactions the token 0
pub record AreTokens (ids : ℕ) (seeds : List ℕ) : Type 0 where
  pub empty : ℕ
  pub token : ℕ
  pub is_empty : IsEmptySet empty
  pub is_token : IsSingle token 0
  pub seeds_are : seeds ≡ replicate ids empty ++ token ∷ []

-- the functions below a number that have the token
abbrev pub IsMarked : ℕ → List ℕ → ℕ → Type 0
IsMarked ids sets nested = (f : ℕ) → Holds nested f ↔ ((f < ids) × Holds (slice_index sets f) 0)

-- those of the points alone
pub record BeginSetsOf (system : System) (points ids nested : ℕ) (whole : List ℕ) (flow : Contents) (sets : List ℕ) : Type 0 where
  pub all : List ℕ
  pub are_sets : AreSetsOf system points ids nested whole flow all
  pub begin : sets ≡ take points all

-- the set has the ids of the nested functions
pub record HasNested (names : List Bytes) (bodies : List Body) (nested : ℕ) : Type 0 where
  pub same : (f : Bytes) (i : ℕ) → slice_get names i ≡ Some f → Holds nested i ↔ Nested bodies f

-- the sets are the standard effects of functions, by their ids
pub record AreStandard (names : List Bytes) (bodies : List Body) (sets : List ℕ) : Type 0 where
  pub of_function : (f : Bytes) (i : ℕ) → slice_get names i ≡ Some f → HasNames names (slice_index sets i) (Standard bodies f)
