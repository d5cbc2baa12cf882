-- What is kept of a slot, and what becomes of it in a move.
use Rattle.std.specs.Prelude.{◌≡◌, ℕ, ◌≤◌, ◌<◌, ◌==◌, Bool, true, false, ◌&&◌, List, [], Option, Some, None, length, option_map, slice_get, slice_index_or, if◌then◌else◌}
use Rattle.c_tree.specs.BareExpr.{Bytes}
use Rattle.c_semantics.specs.Store.{Body, Mark}
use Rattle.c_semantics.specs.Store as store
use Rattle.slot_sets.specs.Members.{is_in}
use Rattle.source_model.specs.Worlds.{World, Slot, in_slot, is_over}
use Rattle.source_model.specs.Runs.{is_live}
use Rattle.source_model.specs.Guards.{in_transaction}
use Rattle.source_model.specs.Guards as guard
use Rattle.resolved_tree.specs.Nodes.{Table, word}
use Rattle.resolved_tree.specs.declared.words.Word.{Word}
use Rattle.rows_in_force.specs.Origins.{mark_at}
use Rattle.source_runner.specs.declared.queries.FrameAt.{FrameAt}
use Rattle.source_runner.specs.Queries.{entering_in}
use Rattle.plain_engine.specs.declared.seat.Kept.{Kept}
use Rattle.plain_engine.specs.declared.seat.Kept.TheVariants.{Empty, Started, Passed}
use Rattle.plain_engine.specs.declared.seat.Seat.{Seat}

-- a slot without a live thread, and one in which a thread was started
abbrev pub empty : Seat
empty = record { kept = Empty; at_check_in = false; pinned = false }

abbrev pub started : Option Word → Seat
started function = record { kept = Started function; at_check_in = false; pinned = false }

-- whether a thread lives there
abbrev pub is_there : Kept → Bool
is_there Empty = false
is_there (Started function) = true
is_there (Passed frame) = true

-- whether a thread lives in a slot, by what is kept of the slots
abbrev pub has_thread : List Seat → ℕ → Bool
has_thread seats slot = is_there (slice_index_or seats slot empty).kept

-- the slots in which a thread lives are the members of a set
pub record AreThreads (seats : List Seat) (live : ℕ) : Type 0 where
  pub many : length seats ≡ 16
  pub each : (slot : ℕ) → is_in live slot ≡ has_thread seats slot

-- no thread lives in a slot from one on
abbrev pub HasNoThreadFrom : List Seat → ℕ → Type 0
HasNoThreadFrom seats from = (slot : ℕ) → from ≤ slot → has_thread seats slot ≡ false

-- the first slot from one on in which a thread lives
pub record IsFirstThreadFrom (seats : List Seat) (from slot : ℕ) : Type 0 where
  pub past : from ≤ slot
  pub there : has_thread seats slot ≡ true
  pub before : (n : ℕ) → from ≤ n → n < slot → has_thread seats n ≡ false

-- the name of the function with which a thread starts
abbrev pub name_of : Table → Option Word → Bytes
name_of t None = []
name_of t (Some function) = word t function

-- the mark of the row in force
abbrev pub mark_in_frame : Table → List Body → FrameAt → Mark
mark_in_frame t bodies f = mark_at bodies (word t f.function) f.version f.point

abbrev pub mark_of : Table → List Body → Kept → Option Mark
mark_of t bodies Empty = None
mark_of t bodies (Started function) = Some (store.Start (name_of t function))
mark_of t bodies (Passed frame) = option_map (mark_in_frame t bodies) frame

-- the frame was entered under a version that there is
abbrev pub IsOfVersion : ℕ → Kept → Type 0
IsOfVersion count (Passed (Some f)) = f.version ≤ count
IsOfVersion count _ = Unit {0}

-- what is kept of a slot is what a guard has of it; the mark matters as long as threads move
pub record IsSeat (t : Table) (bodies : List Body) (count : ℕ) (over : Bool) (alive : Slot) (kept : Seat) (own : guard.Seat) : Type 0 where
  pub at_check_in : own.at_check_in ≡ kept.at_check_in
  pub pinned : own.pinned ≡ kept.pinned
  pub there : is_there kept.kept ≡ is_live alive
  pub lives : kept.at_check_in ≡ true → is_live alive ≡ true
  pub idle : is_there kept.kept ≡ false → kept.pinned ≡ false
  pub mark : over ≡ false → own.mark ≡ mark_of t bodies kept.kept
  pub version : over ≡ false → IsOfVersion count kept.kept

-- the slot of the thread that moved, by what is there afterwards
pub record IsMoved (slot : Slot) (leads : Bool) (old new : Seat) : Type 0 where
  pub kept : new.kept ≡ (if is_live slot then old.kept else Empty)
  pub at_check_in : new.at_check_in ≡ (is_live slot && leads)
  pub pinned : new.pinned ≡ (is_live slot && (old.pinned && in_transaction slot))

-- a slot in which a thread was started, by whether the run is over and what is there
abbrev pub IsNew : Table → Bool → Slot → Seat → Type 0
IsNew t over slot new =
    (function : Option Word) × (new ≡ started function) × (over ≡ false → option_map (word t) function ≡ entering_in slot)

-- another slot, by whether a thread lived there, and whether one lives there now
abbrev pub IsOther : Bool → Bool → Table → Bool → Slot → Seat → Seat → Type 0
IsOther true lives t over slot old new = new ≡ old
IsOther false true t over slot old new = IsNew t over slot new
IsOther false false t over slot old new = new ≡ empty

-- a slot after a move, by whether its thread moved, and by whether the move led to a check-in
abbrev pub IsAfter : Table → Bool → Slot → Bool → Bool → Seat → Seat → Type 0
IsAfter t over slot true leads old new = IsMoved slot leads old new
IsAfter t over slot false leads old new = IsOther (is_there old.kept) (is_live slot) t over slot old new

-- the slots after a move are those before it, changed so
abbrev pub AreAfter : Table → World → ℕ → Bool → List Seat → List Seat → Type 0
AreAfter t w mover leads seats later =
    (n : ℕ) (new : Seat) → slice_get later n ≡ Some new
    → (old : Seat) × (slice_get seats n ≡ Some old) × IsAfter t (is_over w) (in_slot w n) (n == mover) leads old new

-- a move started no thread: a slot other than the mover's in which no thread is kept is empty, and none lives there after it
abbrev pub NoneNew : World → ℕ → List Seat → Type 0
NoneNew w mover seats =
    (n : ℕ) (old : Seat) → slice_get seats n ≡ Some old → (n == mover) ≡ false → is_there old.kept ≡ false
    → (is_live (in_slot w n) ≡ false) × (old ≡ empty)

-- the slots with other pins
abbrev pub ArePinned : List Bool → List Seat → List Seat → Type 0
ArePinned pins seats later =
    (n : ℕ) (new : Seat) → slice_get later n ≡ Some new
    → (old : Seat) × (slice_get seats n ≡ Some old) × (new.kept ≡ old.kept) × (new.at_check_in ≡ old.at_check_in)
    × (slice_get pins n ≡ Some new.pinned)
