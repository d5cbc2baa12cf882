-- What the calls on a mutex answer, and who holds it then, by who held it before.
use Rattle.std.specs.Prelude.{ℕ, ◌==◌, List, Option, Some, None, slice_index_or, if◌then◌else◌}
use Rattle.run_types.specs.declared.trap.TrapKind.TheVariants.{Relock, Unlock, MutexHeld}
use Rattle.program_locks.specs.declared.answer.LockAnswer.{LockAnswer}
use Rattle.program_locks.specs.declared.answer.LockAnswer.TheVariants.{Done, Waits, Trap}

-- who holds the mutex of a name
abbrev pub holder_of : List (Option ℕ) → ℕ → Option ℕ
holder_of holders name = slice_index_or holders name None

-- a thread locks: it waits for another holder, and traps if it is the holder itself
abbrev pub lock_answer : Option ℕ → ℕ → LockAnswer
lock_answer None slot = Done
lock_answer (Some holder) slot = if holder == slot then Trap Relock else Waits holder

-- a free mutex is its own then
abbrev pub locked : Option ℕ → ℕ → Option ℕ
locked None slot = Some slot
locked (Some holder) slot = Some holder

-- a thread unlocks: it traps unless it is the holder
abbrev pub unlock_answer : Option ℕ → ℕ → LockAnswer
unlock_answer None slot = Trap Unlock
unlock_answer (Some holder) slot = if holder == slot then Done else Trap Unlock

-- a mutex that was its own is free then
abbrev pub unlocked : Option ℕ → ℕ → Option ℕ
unlocked None slot = None
unlocked (Some holder) slot = if holder == slot then None else Some holder

-- a mutex is initialised: that traps where it is held, and changes nothing
abbrev pub init_answer : Option ℕ → LockAnswer
init_answer None = Done
init_answer (Some holder) = Trap MutexHeld
