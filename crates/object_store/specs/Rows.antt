-- How objects are kept: each live one in a slot, with the number of its creation.
use Rattle.std.specs.Prelude.{ℕ, ◌<◌, ◌≤◌, ◌^◌, map}
use Rattle.std.specs.Ordering.{nat_cmp}
use Rattle.std.specs.FinMap.{FinMap, from_entries}
use Rattle.slab.specs.Slab.{Slab, ContainsKey, entries, slab_len}
use Rattle.object_store.specs.declared.object.Object.{Object}
use Rattle.object_store.specs.declared.objects.Row.{Row}
use Rattle.object_store.specs.Handles.{handle_of}

-- the object of a slot, under its handle
abbrev pub entry_of : ℕ × Row → ℕ × Object
entry_of e = (handle_of e.1.creation e.0, e.1.object)

-- the objects that live, each under its handle
abbrev pub live_of : Slab Row → FinMap nat_cmp Object
live_of rows = from_entries (map entry_of (entries rows))

-- as many live as may, at most; there is room for so many; a handle can name each slot
pub record IsKept (rows : Slab Row) (capacity : ℕ) : Type 0 where
  pub few : slab_len rows ≤ capacity
  pub room : capacity ≤ rows.capacity
  pub small : rows.capacity ≤ 2 ^ 32
  pub within : (slot : ℕ) → ContainsKey rows slot → slot < 2 ^ 32
