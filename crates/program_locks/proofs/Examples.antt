-- Calls on a mutex that the thread in slot 2 holds, and on a free one.
use Rattle.std.proofs.Common.{◌≡◌, [], ◌∷◌, Some, None, set, refl}
use Rattle.run_types.specs.declared.trap.TrapKind.TheVariants.{Relock, Unlock, MutexHeld}
use Rattle.program_locks.specs.declared.answer.LockAnswer.TheVariants.{Done, Waits, Trap}
use Rattle.program_locks.specs.Locking.{lock_answer, locked, unlock_answer, unlocked, init_answer}

other_waits : lock_answer (Some 2) 1 ≡ Waits 2
other_waits = refl

holder_traps : lock_answer (Some 2) 2 ≡ Trap Relock
holder_traps = refl

free_is_taken : set (None ∷ Some 2 ∷ None ∷ []) 0 (locked None 1) ≡ Some 1 ∷ Some 2 ∷ None ∷ []
free_is_taken = refl

other_cannot_unlock : unlock_answer (Some 2) 1 ≡ Trap Unlock
other_cannot_unlock = refl

holder_unlocks : set (None ∷ Some 2 ∷ None ∷ []) 1 (unlocked (Some 2) 2) ≡ None ∷ None ∷ None ∷ []
holder_unlocks = refl

held_traps : init_answer (Some 2) ≡ Trap MutexHeld
held_traps = refl
