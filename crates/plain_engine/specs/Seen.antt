-- The slots as a decision sees them.
use Rattle.std.specs.Prelude.{◌≡◌, ℕ, ◌<◌, List, length, Option, Some, None, option_map, slice_get, if◌then◌else◌}
use Rattle.std.specs.Option.{ForSome}
use Rattle.c_tree.specs.BareExpr.{Bytes}
use Rattle.name_sets.specs.NameLists.{is_among}
use Rattle.c_semantics.specs.Store.{Body, Mark, Start, CheckInOf}
use Rattle.source_model.specs.Worlds.{World, in_slot}
use Rattle.source_model.specs.Guards.{in_transaction}
use Rattle.resolved_tree.specs.Nodes.{Table}
use Rattle.rows_in_force.specs.declared.origin.Origin.{Origin}
use Rattle.rows_in_force.specs.Origins.{function_of}
use Rattle.rows_in_force.specs.Origins as origin
use Rattle.offer_decision.specs.declared.seat.Seat.{Seat as Seen}
use Rattle.plain_engine.specs.declared.seat.Kept.{Kept}
use Rattle.plain_engine.specs.declared.seat.Seat.{Seat}
use Rattle.plain_engine.specs.Kept.{IsOfVersion, mark_of}

-- the function of a mark
abbrev pub marked : Mark → Bytes
marked (Start f) = f
marked (CheckInOf f generation number) = f

-- a mark by some names: none where its function isn't among them, so that its row has no name of them
abbrev pub mark_among : List Bytes → Option Mark → Option Mark
mark_among names None = None
mark_among names (Some m) = if is_among names (marked m) then Some m else None

-- a row comes from what is kept of a thread, by a table of names, where there are so many versions
pub record IsOriginOf (t : Table) (names : List Bytes) (versions : ℕ) (kept : Kept) (from : Option Origin) : Type 0 where
  pub mark : (bodies : List Body) → IsOfVersion versions kept
      → mark_among names (mark_of t bodies kept) ≡ option_map (origin.mark_of names bodies) from
  pub known : ForSome from (λ o. function_of o < length names)

-- a slot is seen as it is kept
pub record IsSeen (t : Table) (names : List Bytes) (versions : ℕ) (kept : Seat) (seen : Seen) : Type 0 where
  pub origin : IsOriginOf t names versions kept.kept seen.origin
  pub pinned : kept.pinned ≡ seen.pinned

-- so are all slots
abbrev pub AreSeen : Table → List Bytes → ℕ → List Seat → List Seen → Type 0
AreSeen t names versions seats all =
    (n : ℕ) (seen : Seen) → slice_get all n ≡ Some seen
    → (kept : Seat) × (slice_get seats n ≡ Some kept) × IsSeen t names versions kept seen

-- and which threads are in transactions
abbrev pub AreWithin : World → List Seen → Type 0
AreWithin w all = (n : ℕ) (seen : Seen) → slice_get all n ≡ Some seen → in_transaction (in_slot w n) ≡ seen.in_transaction
