-- Calls on mutexes are the source machine's stops.
use Rattle.std.specs.Prelude.{◌≡◌, ℕ, ◌<◌, List, [], ◌∷◌, length, replicate, Option, Some, None, slice_index_or, slice_set}
use Rattle.c_tree.specs.BareExpr.{Bytes}
use Rattle.c_semantics.specs.Values.{Value, int_of}
use Rattle.c_semantics.specs.Stops.{Stop, InitMutex, Lock, Unlock}
use Rattle.source_model.specs.Worlds.{World, released}
use Rattle.source_model.specs.Worlds as world
use Rattle.source_model.specs.Moves.{Standing, goes_on, traps, perform}
use Rattle.source_model.specs.Waits.{ForMutex, at_stop}
use Rattle.program_locks.specs.declared.answer.LockAnswer.{LockAnswer}
use Rattle.program_locks.specs.declared.answer.LockAnswer.TheVariants.{Done, Waits, Trap}
use Rattle.program_locks.specs.Locking.{holder_of, lock_answer, locked, unlock_answer, unlocked, init_answer}

-- the name of a number
abbrev pub name_at : List Bytes → ℕ → Bytes
name_at names n = slice_index_or names n []

-- no name stands twice
abbrev pub AreDistinct : List Bytes → Type 0
AreDistinct names = (a b : ℕ) → a < length names → b < length names → name_at names a ≡ name_at names b → a ≡ b

-- the mutex of each number is held as that of its name in a world
abbrev pub AreHolders : List Bytes → World → List (Option ℕ) → Type 0
AreHolders names w holders = (n : ℕ) → n < length names → holder_of holders n ≡ world.holder_of w (name_at names n)

-- a call's answer, and the holders after it, are what a thread comes to at a stop: it goes on, it can't move, or it traps
abbrev pub Agrees : List Bytes → Standing → Bytes → Stop → List Value → LockAnswer → List (Option ℕ) → Type 0
Agrees names s name stop values Done after =
    (at_stop stop s.world s.slot values ≡ None)
    × ((w : World) × ((perform stop s values ≡ goes_on s w (int_of 0 ∷ values)) × AreHolders names w after))
Agrees names s name stop values (Waits holder) after =
    (at_stop stop s.world s.slot values ≡ Some (ForMutex name holder)) × AreHolders names s.world after
Agrees names s name stop values (Trap kind) after =
    (at_stop stop s.world s.slot values ≡ None) × (perform stop s values ≡ traps s kind) × AreHolders names s.world after

-- mutexes by number as a world has them by name, and the number of one of them
pub record Mutexes (names : List Bytes) (w : World) (holders : List (Option ℕ)) (n : ℕ) : Type 0 where
  pub distinct : AreDistinct names
  pub held : AreHolders names w holders
  pub each : length holders ≡ length names
  pub within : n < length names

-- where no mutex is held in a world, none is by number
abbrev pub StartAgrees : Type 0
StartAgrees = (names : List Bytes) (w : World) → w.holders ≡ [] → AreHolders names w (replicate (length names) None)

abbrev pub LockAgrees : Type 0
LockAgrees =
    (names : List Bytes) (s : Standing) (values : List Value) (holders : List (Option ℕ)) (n : ℕ) → Mutexes names s.world holders n
    → let name = name_at names n in let holder = holder_of holders n in
    Agrees names s name (Lock name) values (lock_answer holder s.slot) (slice_set holders n (locked holder s.slot))

abbrev pub UnlockAgrees : Type 0
UnlockAgrees =
    (names : List Bytes) (s : Standing) (values : List Value) (holders : List (Option ℕ)) (n : ℕ) → Mutexes names s.world holders n
    → let name = name_at names n in let holder = holder_of holders n in
    Agrees names s name (Unlock name) values (unlock_answer holder s.slot) (slice_set holders n (unlocked holder s.slot))

abbrev pub InitAgrees : Type 0
InitAgrees =
    (names : List Bytes) (s : Standing) (values : List Value) (holders : List (Option ℕ)) (n : ℕ) → Mutexes names s.world holders n
    → let name = name_at names n in
    Agrees names s name (InitMutex name) values (init_answer (holder_of holders n)) holders

-- a mutex that is released in a world is forgotten by number
abbrev pub ForgetAgrees : Type 0
ForgetAgrees =
    (names : List Bytes) (w : World) (holders : List (Option ℕ)) (n : ℕ) → Mutexes names w holders n
    → AreHolders names (released (name_at names n) w) (slice_set holders n None)
