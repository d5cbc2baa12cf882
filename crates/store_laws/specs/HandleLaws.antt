-- Handles are the words of objects in code, and lead to the objects of the source machine that live.
use Rattle.std.specs.Prelude.{◌≡◌, ℕ, ◌+◌, ◌<◌, ◌==◌, not, length, map, Option, Some, is_some, slice_get, option_map}
use Rattle.std.specs.FinMap.{get}
use Rattle.c_semantics.specs.Values.{ThreadRef}
use Rattle.source_model.specs.Worlds.{World, live_objects}
use Rattle.bytecode.specs.Words.{Naming, Distinguishes}
use Rattle.object_store.specs.declared.object.Object.{Object}
use Rattle.object_store.specs.Stores.{Store, Creates}
use Rattle.object_store.specs.Naming.{Objects, IsNamed, extended}

-- a naming with the handle of one more object
abbrev pub with_handle : Naming → ℕ → ℕ → Naming
with_handle n number h = record n { object = extended n.object number h }

-- where each thread has a word, handles tell all objects so far from one another and from null
abbrev pub HandlesDistinguish : Type 0
HandlesDistinguish =
    (n : Naming) (objects : Objects) (s : Store) → IsNamed n.object objects s → ((t : ThreadRef) → 0 < n.thread t)
    → Distinguishes (length objects) n

-- and they do after a creation, with the handle of the object that was created
abbrev pub CreationDistinguishes : Type 0
CreationDistinguishes =
    (n : Naming) (objects : Objects) (s t : Store) (object : Object) (h : ℕ)
    → IsNamed n.object objects s → Distinguishes (length objects) n → Creates s object (Some h) t
    → Distinguishes (length objects + 1) (with_handle n (length objects) h)

-- the objects of a world are those of a list by number, and the same live
abbrev pub LiveAlike : Objects → World → Type 0
LiveAlike objects w = map is_some objects ≡ map (λ o. o.live) w.objects

-- a creation fails exactly where the world gives null
abbrev pub CreationsFailAlike : Type 0
CreationsFailAlike =
    (handle : ℕ → ℕ) (objects : Objects) (w : World) (s t : Store) (object : Object) (result : Option ℕ)
    → IsNamed handle objects s → LiveAlike objects w → s.capacity ≡ w.capacity → Creates s object result t
    → is_some result ≡ not (live_objects w == w.capacity)

-- the handle of a number leads to an object exactly where the world's object of that number lives
abbrev pub LeadsAlike : Type 0
LeadsAlike =
    (handle : ℕ → ℕ) (objects : Objects) (w : World) (s : Store) (n : ℕ)
    → IsNamed handle objects s → LiveAlike objects w → n < length objects
    → option_map (λ o. o.live) (slice_get w.objects n) ≡ Some (is_some (get s.live (handle n)))
