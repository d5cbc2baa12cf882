-- The uses of names: when one is a misuse, and the record of a transaction.
use Rattle.std.specs.Prelude.{◌≡◌, ℕ, zero, suc, Bool, true, [], ◌∷◌, ◌++◌, Contains, All, slice_get, Option, Some, None, unwrap_or, if◌then◌else◌}
use Rattle.run_types.specs.Skeleton.{PointKind, Call, direct_use}
use Rattle.c_tree.specs.BareExpr.{Bytes}
use Rattle.c_semantics.specs.Changes.{same_interface, agree}
use Rattle.c_semantics.specs.Stops.{Stop, kind_of}
use Rattle.c_semantics.specs.Threads.{Use, Record, Thread}
use Rattle.source_model.specs.Versions.{Entry, Table, entries_of, entry_in, in_version, current}
use Rattle.source_model.specs.Worlds.{World}

-- the name that the move to a stop uses, if it uses one: a called function is used at its enter, a spawned one at the spawn
abbrev pub use_at_kind : PointKind → Option Bytes
use_at_kind (Call name) = None
use_at_kind kind = direct_use kind

abbrev pub use_at : Stop → Option Bytes
use_at s = use_at_kind (kind_of s)

-- a use of a name on behalf of version n is right where the name has a current definition whose interface is the one
-- that it has in version n
abbrev pub is_right : Table → ℕ → Bytes → Bool
is_right table n name = agree same_interface (in_version table n name) (in_version table (current table) name)

-- a use of a name, with the entry that is current
abbrev pub use_of : Table → Bytes → Use
use_of table name = record { name = name; entry = unwrap_or (entry_in table (current table) name) 0 }

-- a use is recorded in a transaction
abbrev pub recorded_at : ℕ → Record → Use → Record
recorded_at zero uses use_made = uses
recorded_at (suc depth) uses use_made = uses ++ use_made ∷ []

abbrev pub recorded : Table → Bytes → Thread → Thread
recorded table name th = record th { uses = recorded_at th.depth th.uses (use_of table name) }

-- a world in which a definition was misused
abbrev pub marked : World → World
marked w = record w { misused = true }

-- the use of a name on behalf of version n, and what follows it; a misuse marks the world and changes nothing else
abbrev pub using : World → Thread → ℕ → Bytes → (Thread → Option World) → Option World
using w th n name then_do =
    if is_right w.table n name then then_do (recorded w.table name th) else Some (marked w)

-- an entry of a recorded use has version v
abbrev pub HasVersion : Table → ℕ → Use → Type 0
HasVersion table v use_made =
    (e : Entry) × (slice_get (entries_of table use_made.name) use_made.entry ≡ Some e) × Contains e.versions v

-- a record is consistent: some version lies in the lists of all its entries
abbrev pub IsConsistent : Table → Record → Type 0
IsConsistent table uses = (v : ℕ) × All (HasVersion table v) uses
