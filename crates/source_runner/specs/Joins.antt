-- What slots say of the threads that were started in them.
use Rattle.std.specs.Prelude.{ℕ, ◌==◌, Bool, true, false, List, slice_index_or, Option, Some, None, if◌then◌else◌}
use Rattle.local_evaluation.specs.declared.value.ThreadRef.{ThreadRef}
use Rattle.local_evaluation.specs.declared.value.Value.{Value}
use Rattle.source_runner.specs.declared.thread.Slot.{Slot}
use Rattle.source_runner.specs.declared.thread.Slot.TheVariants.{Free, Live, Over}

-- nothing is in a slot
abbrev pub is_free_slot : Slot → Bool
is_free_slot Free = true
is_free_slot (Live th n) = false
is_free_slot (Over serial value) = false

-- the result of the thread of a number that ended in a slot
abbrev pub result_in : Slot → ℕ → Option Value
result_in Free serial = None
result_in (Live th n) serial = None
result_in (Over ended value) serial = if ended == serial then Some value else None

-- the result of a named thread that ended; the thread that asks was taken from its slot
abbrev pub result_of : List Slot → ℕ → ThreadRef → Option Value
result_of slots slot named =
    if named.slot == slot then None else result_in (slice_index_or slots named.slot Free) named.serial
