-- What a stop came to, as the definitions of runs of code have it.
use Rattle.std.specs.Prelude.{◌≡◌, ℕ, ◌+◌, ◌-◌, ◌<◌, List, [], Vec, length, vec_capacity}
use Rattle.std.specs.declared.alloc.Global.{Global}
use Rattle.c_tree.specs.BareExpr.{Bytes}
use Rattle.c_tree.specs.BareDef.{BareDef}
use Rattle.c_semantics.specs.Stops.{Stop, Lock}
use Rattle.object_store.specs.Handles.{creation_limit}
use Rattle.program_locks.specs.declared.answer.LockAnswer.{LockAnswer}
use Rattle.program_locks.specs.declared.answer.LockAnswer.TheVariants.{Done as LockDone, Waits as LockWaits}
use Rattle.program_locks.specs.Locking.{holder_of, lock_answer}
use Rattle.resolved_tree.specs.Nodes.{Table, word}
use Rattle.code_runs.specs.CodeData.{Data, Names, number_of}
use Rattle.code_runs.specs.SharedStops as shared
use Rattle.code_runs.specs.SharedStops.{Answered, Does, Done}
use Rattle.word_data.specs.declared.stop.SharedStop.{SharedStop}
use Rattle.word_data.specs.declared.stop.SharedStop.TheVariants.{New, Print}
use Rattle.word_data.specs.declared.stop.Stack.{Stack}
use Rattle.word_data.specs.declared.stop.Did.{Did}
use Rattle.word_data.specs.declared.stop.Did.TheVariants.{On, Trap, Waits}
use Rattle.word_data.specs.Stacks.{stack_at, stack_of}
use Rattle.word_data.specs.Lengths.{longest_print}

-- a stop was made, and what it came to is as a definition says: with what is shared after it, the words of the frame's stack in a row, and
-- what it printed
abbrev pub Made : Data → List ℕ → Stack → List ℕ → Did → (Done → Type 0) → Type 0
Made new after stack printed (On height) means = means (record { shared = new; printed = printed; came = shared.On (stack_at after stack height) })
Made new after stack printed (Trap kind) means = means (record { shared = new; printed = printed; came = shared.Traps kind })
Made new after stack printed (Waits holder) means = ⊥

-- nothing changes where a call on a mutex isn't made
abbrev pub Settles : LockAnswer → Data → Data → Type 0
Settles LockDone old new = Unit {0}
Settles _ old new = new ≡ old

-- a call on a mutex that has an answer: it is made, or the thread waits for the holder and nothing has changed
abbrev pub Calls : LockAnswer → Data → Data → List ℕ → Stack → Did → List ℕ → Type 0
Calls answer old new words stack (Waits holder) after = (answer ≡ LockWaits holder) × (new ≡ old) × (after ≡ words)
Calls answer old new words stack did after = Made new after stack [] did (Answered answer old new (stack_of words stack))

-- a stop of a thread in a slot, with these words before, and what it came to: it was made, or it is a lock that waits and nothing has
-- changed
abbrev pub Performs : Names → List BareDef → ℕ → Stop → Stack → Data → List ℕ → Did → Data → List ℕ → List ℕ → Type 0
Performs names text slot stop stack old words (Waits holder) new after printed =
    (name : Bytes) × ((stop ≡ Lock name) × (lock_answer (holder_of old.holders (number_of names.mutexes name)) slot ≡ LockWaits holder)
    × (new ≡ old) × (after ≡ words) × (printed ≡ []))
Performs names text slot stop stack old words did new after printed =
    Made new after stack printed did (Does names text slot stop old (stack_of words stack))

-- a frame that goes on has one word in place of those that were taken; where it doesn't go on no word has changed
abbrev pub LeavesOne : ℕ → Stack → Did → List ℕ → List ℕ → Type 0
LeavesOne taken stack (On height) old new = height ≡ stack.height - taken + 1
LeavesOne taken stack (Trap kind) old new = new ≡ old
LeavesOne taken stack (Waits holder) old new = new ≡ old

-- when a stop may be out of memory: all handles were given, or where bytes are printed to, there is no room for as many as its print
-- writes at most
abbrev pub MayFail : Table → SharedStop → Data → Vec ℕ Global → Type 0
MayFail t (New tag) d printed = d.objects.created ≡ creation_limit
MayFail t (Print format count) d printed = vec_capacity printed < length printed.items + longest_print (word t format)
MayFail t _ d printed = ⊥
