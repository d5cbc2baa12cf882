-- When stores have the same bodies, whatever room their lists have.
use Rattle.std.specs.Prelude.{◌≡◌, ℕ, List, ◌++◌, map}
use Rattle.skeletons.specs.declared.point.Point.{Point}
use Rattle.c_tree.specs.BareExpr.{Bytes}
use Rattle.c_semantics.specs.Store.{Body}
use Rattle.code_store.specs.declared.body.StoredBody.{StoredBody}
use Rattle.code_store.specs.Stored.{meant_body, IsStoreOf}

-- what a body says: its function, the version that brought it, its tokens, its points, and the ways between them
pub record Content : Type 0 where
  pub function : ℕ
  pub generation : ℕ
  pub tokens : ℕ
  pub points : List Point
  pub next : List (List ℕ)

abbrev pub content_of : StoredBody → Content
content_of b = record {
  function = b.function;
  generation = b.generation;
  tokens = b.tokens;
  points = b.skeleton.points.items;
  next = b.skeleton.next.items;
}

-- two lists have the same bodies in the same order
abbrev pub HaveSameBodies : List StoredBody → List StoredBody → Type 0
HaveSameBodies bodies others = map content_of bodies ≡ map content_of others

-- they mean the same bodies of the definitions
abbrev pub SameMeaning : Type 0
SameMeaning =
    (names : List Bytes) (stored others : List StoredBody) → HaveSameBodies stored others
    → map (meant_body names) stored ≡ map (meant_body names) others

-- and are stores of the same bodies
abbrev pub SameStores : Type 0
SameStores =
    (names : List Bytes) (bodies : List Body) (stored others : List StoredBody) → HaveSameBodies stored others
    → IsStoreOf names bodies stored → IsStoreOf names bodies others

-- with some more bodies they still have the same
abbrev pub SameWithMore : Type 0
SameWithMore =
    (stored others more : List StoredBody) → HaveSameBodies stored others → HaveSameBodies (stored ++ more) (others ++ more)
