-- What a thread waits for. A thread that waits can't move.
use Rattle.std.specs.Prelude.{ℕ, ◌==◌, Bool, false, List, [], ◌∷◌, Option, Some, None, if◌then◌else◌}
use Rattle.std.specs.Option.{is_some}
use Rattle.c_tree.specs.BareExpr.{Bytes}
use Rattle.c_semantics.specs.Stops.{Stop, Lock, Join}
use Rattle.c_semantics.specs.Values.{ThreadRef, Value, Started}
use Rattle.c_semantics.specs.Pieces.{Halt, Stopped}
use Rattle.c_semantics.specs.Threads.{Frame, Enter, next_of}
use Rattle.source_model.specs.Worlds.{World, Slot, Live, in_slot, holder_of}

-- what is waited for
pub data Waiting : Type 0 where
  -- the name of a mutex, and the slot of the thread that holds it
  ForMutex : Bytes → ℕ → Waiting
  -- the slot of the thread that is joined
  ForThread : ℕ → Waiting

-- whether a named thread lives in a slot
abbrev pub is_there : ThreadRef → Slot → Bool
is_there named (Live th) = th.serial == named.serial
is_there named _ = false

-- the mutex that a lock waits for: another slot holds it
abbrev pub held_by : Bytes → ℕ → Option ℕ → Option Waiting
held_by name slot None = None
held_by name slot (Some holder) = if holder == slot then None else Some (ForMutex name holder)

-- the thread that a join waits for: it lives
abbrev pub joined : World → List Value → Option Waiting
joined w (Started (Some named) ∷ values) = if is_there named (in_slot w named.slot) then Some (ForThread named.slot) else None
joined w _ = None

-- what the thread in a slot waits for at a stop with these values
abbrev pub at_stop : Stop → World → ℕ → List Value → Option Waiting
at_stop (Lock name) w slot values = held_by name slot (holder_of w name)
at_stop Join w slot values = joined w values
at_stop _ w slot values = None

-- after the private work of its innermost frame
abbrev pub waits_after : Halt → World → ℕ → Option Waiting
waits_after (Stopped s n rest values scopes) w slot = at_stop s w slot values
waits_after _ w slot = None

abbrev pub waits_in_frames : List Frame → World → ℕ → Option Waiting
waits_in_frames [] w slot = None
waits_in_frames (f ∷ below) w slot = waits_after (next_of f) w slot

-- an enter that is due waits for nothing
abbrev pub waits_in_thread : Option Enter → List Frame → World → ℕ → Option Waiting
waits_in_thread (Some e) frames w slot = None
waits_in_thread None frames w slot = waits_in_frames frames w slot

-- nor does a slot where no thread lives
abbrev pub waits_of : Slot → World → ℕ → Option Waiting
waits_of (Live th) w slot = waits_in_thread th.entering th.frames w slot
waits_of _ w slot = None

-- what the thread in a slot waits for
abbrev pub waits_for : World → ℕ → Option Waiting
waits_for w slot = waits_of (in_slot w slot) w slot

-- whether it waits for something
abbrev pub must_wait : World → ℕ → Bool
must_wait w slot = is_some (waits_for w slot)
