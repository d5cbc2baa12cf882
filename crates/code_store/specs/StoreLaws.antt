-- What a store says of the bodies of the definitions.
use Rattle.std.specs.Prelude.{◌≡◌, ℕ, ◌<◌, ◌↔◌, List, ◌++◌, length, Some, Contains}
use Rattle.name_sets.specs.Texts.{IsTable, text_of}
use Rattle.run_types.specs.Skeleton.{Point, direct_use}
use Rattle.c_tree.specs.BareExpr.{Bytes}
use Rattle.c_semantics.specs.Store.{Body}
use Rattle.code_store.specs.declared.body.StoredBody.{StoredBody}
use Rattle.code_store.specs.Stored.{IsStoreOf}
use Rattle.code_store.specs.Uses.{ids_used_by}

-- where names are added to the table, the store still has the same bodies
abbrev pub StoresStay : Type 0
StoresStay =
    (names more : List Bytes) (bodies : List Body) (stored : List StoredBody)
    → IsStoreOf names bodies stored → IsTable (names ++ more) → IsStoreOf (names ++ more) bodies stored

-- some of the points uses a name
pub record IsUsedAmong (points : List Point) (name : Bytes) : Type 0 where
  pub point : Point
  pub among : Contains points point
  pub uses : direct_use point.kind ≡ Some name

-- a body of a function uses a name directly
pub record UsesDirectly (bodies : List Body) (function name : Bytes) : Type 0 where
  pub body : Body
  pub stored : Contains bodies body
  pub of_function : body.function ≡ function
  pub uses : IsUsedAmong body.skeleton.points name

-- the ids that a function's bodies use are those of the names that they use directly
abbrev pub UsesAreDirect : Type 0
UsesAreDirect =
    (names : List Bytes) (bodies : List Body) (stored : List StoredBody)
    → IsStoreOf names bodies stored
    → (function id : ℕ) → function < length names → id < length names
    → Contains (ids_used_by function stored) id ↔ UsesDirectly bodies (text_of names function) (text_of names id)
