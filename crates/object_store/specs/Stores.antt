-- What objects live, and what a creation does.
use Rattle.std.specs.Prelude.{◌≡◌, ◌+◌, ◌<◌, ℕ, List, Option, Some, None, refl}
use Rattle.std.specs.Ordering.{nat_cmp}
use Rattle.std.specs.FinMap.{FinMap, insert, remove, len, code}
use Rattle.std.specs.Coded.{Coded, code_by, coded×, coded_ℕ, coded_list}
use Rattle.object_store.specs.declared.object.Object.{Object}
use Rattle.object_store.specs.Handles.{creation_of}

-- how many objects may live at once, how many were created so far, and those that live, each under its handle
pub record Store : Type 0 where
  pub capacity : ℕ
  pub created : ℕ
  pub live : FinMap nat_cmp Object

-- an object is stored as the tuple of its fields
abbrev pub object_code : Coded Object
object_code =
    code_by
    (ℕ × (ℕ × List ℕ))
    (coded× coded_ℕ (coded× coded_ℕ (coded_list coded_ℕ)))
    (λ o. (o.tag, (o.layout, o.fields)))
    (λ p. record { tag = p.0; layout = p.1.0; fields = p.1.1 })
    (λ _. refl)

-- and a store too
abbrev pub store_code : Coded Store
store_code =
    code_by
    (ℕ × (ℕ × FinMap nat_cmp Object))
    (coded× coded_ℕ (coded× coded_ℕ (code coded_ℕ object_code)))
    (λ s. (s.capacity, (s.created, s.live)))
    (λ p. record { capacity = p.0; created = p.1.0; live = p.1.1 })
    (λ _. refl)

-- the object of a handle changed
abbrev pub with_object : Store → ℕ → Object → Store
with_object s handle object = record s { live = insert s.live handle object }

-- the object of a handle ended
abbrev pub without_object : Store → ℕ → Store
without_object s handle = record s { live = remove s.live handle }

-- a creation: there is no room and nothing changes, or the object lives under a handle of this creation
abbrev pub Creates : Store → Object → Option ℕ → Store → Type 0
Creates old object None new = (len old.live ≡ old.capacity) × (new ≡ old)
Creates old object (Some handle) new =
    (len old.live < old.capacity) × (creation_of handle ≡ old.created + 1)
    × (new ≡ record old { created = old.created + 1; live = insert old.live handle object })
