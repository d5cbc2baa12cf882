-- What a move of a thread does to the records of transactions.
use Rattle.std.specs.Prelude.{◌≡◌, ◌≢◌, ℕ, Bool, true, false, not, ◌&&◌, List, [], ◌∷◌, ◌++◌, Option, Some, None, if◌then◌else◌}
use Rattle.std.specs.Option.{is_some, option_map_or}
use Rattle.c_tree.specs.BareExpr.{Bytes}
use Rattle.c_semantics.specs.Threads.{Record}
use Rattle.source_model.specs.Versions.{Table}
use Rattle.source_model.specs.Uses.{use_of}
use Rattle.source_model.specs.Worlds.{World, Slot, Closed, in_slot, now}
use Rattle.source_model.specs.Moves.{move}
use Rattle.source_model.specs.Runs.{is_live, open_of}
use Rattle.source_model.specs.Guards.{in_transaction}
use Rattle.source_runner.specs.Queries.{use_due}

-- the use of a name now, if there is one
abbrev pub uses_by : Table → Option Bytes → Record
uses_by table name = option_map_or (λ n. use_of table n ∷ []) name []

-- the use that the next move of the thread in a slot makes, if it makes one
abbrev pub use_made : World → ℕ → Record
use_made w t = uses_by w.table (use_due (in_slot w t))

-- a record that is open, with some uses more
abbrev pub with_uses : Record → Option Record → Option Record
with_uses made None = None
with_uses made (Some uses) = Some (uses ++ made)

-- the record of a thread that has moved, by whether it is in a transaction now: where it had none, it begins one
abbrev pub open_by : Bool → Option Record → Option Record
open_by false before = None
open_by true None = Some []
open_by true (Some uses) = Some uses

-- whether a thread that has moved goes on in no transaction
abbrev pub is_outside : Slot → Bool
is_outside s = is_live s && not (in_transaction s)

-- the closed records with that of slot t, if it has one and its thread goes on outside; a thread that has ended takes its
-- record with it
abbrev pub closed_by : Bool → ℕ → Option Record → List Closed → List Closed
closed_by outside t None closed = closed
closed_by outside t (Some uses) closed = if outside then closed ++ record { slot = t; uses = uses } ∷ [] else closed

-- the records where slot t of a world has moved: those of other slots stay, and its own has the move's use, goes on, begins,
-- is closed or is gone, by what is in the slot after the move; what the move uses is defined
pub record RecordsMoved (t : ℕ) (w after : World) : Type 0 where
  pub others : (k : ℕ) → k ≢ t → open_of (in_slot after k) ≡ open_of (in_slot w k)
  pub own : open_of (in_slot after t) ≡ open_by (in_transaction (in_slot after t)) (with_uses (use_made w t) (open_of (in_slot w t)))
  pub closed : after.closed
      ≡ closed_by (is_outside (in_slot after t)) t (with_uses (use_made w t) (open_of (in_slot w t))) w.closed
  pub defined : (name : Bytes) → use_due (in_slot w t) ≡ Some name → is_some (now w name) ≡ true

-- no record is another
pub record RecordsStay (w after : World) : Type 0 where
  pub each : (k : ℕ) → open_of (in_slot after k) ≡ open_of (in_slot w k)
  pub closed : after.closed ≡ w.closed

-- a move that misuses a definition leaves the records as they are; each other one moves those of its slot
abbrev pub MovesKeepRecords : Type 0
MovesKeepRecords =
    (w after : World) (t : ℕ) → move w t ≡ Some after
    → (after.misused ≡ true → RecordsStay w after) × (after.misused ≡ false → RecordsMoved t w after)
