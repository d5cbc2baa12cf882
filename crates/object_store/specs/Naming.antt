-- Objects by number, in the order of their creation, and the handles that name them.
use Rattle.std.specs.Prelude.{◌≡◌, ◌+◌, ◌<◌, ◌==◌, not, ℕ, List, [], ◌∷◌, ◌++◌, length, Option, Some, None, is_some, IsSome, count_by, slice_index_or, slice_set, if◌then◌else◌}
use Rattle.std.specs.FinMap.{empty, get, len}
use Rattle.object_store.specs.declared.object.Object.{Object}
use Rattle.object_store.specs.Handles.{creation_of}
use Rattle.object_store.specs.Stores.{Store, Creates, with_object, without_object}

-- all objects so far, by number: each that lives, and nothing for each that was ended
abbrev pub Objects : Type 0
Objects = List (Option Object)

-- the handle of each number leads to its object, and is of its creation; no other handle leads to an object
pub record IsNamed (handle : ℕ → ℕ) (objects : Objects) (s : Store) : Type 0 where
  pub created : s.created ≡ length objects
  pub creation : (n : ℕ) → n < length objects → creation_of (handle n) ≡ n + 1
  pub leads : (n : ℕ) → n < length objects → get s.live (handle n) ≡ slice_index_or objects n None
  pub only : (h : ℕ) → IsSome (get s.live h) → (n : ℕ) × ((n < length objects) × (handle n ≡ h))
  pub living : len s.live ≡ count_by is_some objects

-- one more handle
abbrev pub extended : (ℕ → ℕ) → ℕ → ℕ → ℕ → ℕ
extended handle number h n = if n == number then h else handle n

-- no object's handle is that of another, or null, whether they live or were ended
abbrev pub HandlesAreApart : Type 0
HandlesAreApart =
    (handle : ℕ → ℕ) (objects : Objects) (s : Store) → IsNamed handle objects s
    → ((a b : ℕ) → a < length objects → b < length objects → handle a ≡ handle b → a ≡ b)
    × ((n : ℕ) → n < length objects → 0 < handle n)

-- at the start there are no objects
abbrev pub StartsNamed : Type 0
StartsNamed = (handle : ℕ → ℕ) (capacity : ℕ) → IsNamed handle [] (record { capacity = capacity; created = 0; live = empty })

-- a creation gives the next number its handle, and the other numbers keep theirs
abbrev pub CreationNames : Type 0
CreationNames =
    (handle : ℕ → ℕ) (objects : Objects) (s t : Store) (object : Object) (h : ℕ)
    → IsNamed handle objects s → Creates s object (Some h) t
    → IsNamed (extended handle (length objects) h) (objects ++ Some object ∷ []) t

-- there is no creation exactly where as many objects live as may
abbrev pub CreationFails : Type 0
CreationFails =
    (handle : ℕ → ℕ) (objects : Objects) (s t : Store) (object : Object) (result : Option ℕ)
    → IsNamed handle objects s → Creates s object result t
    → is_some result ≡ not (count_by is_some objects == s.capacity)

-- a change of an object that lives
abbrev pub ChangeKeepsNames : Type 0
ChangeKeepsNames =
    (handle : ℕ → ℕ) (objects : Objects) (s : Store) (object : Object) (n : ℕ)
    → IsNamed handle objects s → IsSome (slice_index_or objects n None)
    → IsNamed handle (slice_set objects n (Some object)) (with_object s (handle n) object)

-- the end of an object
abbrev pub EndKeepsNames : Type 0
EndKeepsNames =
    (handle : ℕ → ℕ) (objects : Objects) (s : Store) (n : ℕ)
    → IsNamed handle objects s → n < length objects
    → IsNamed handle (slice_set objects n None) (without_object s (handle n))
