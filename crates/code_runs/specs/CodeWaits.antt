-- What threads of code wait for, and which can't move.
use Rattle.std.specs.Prelude.{◌≡◌, ℕ, suc, ◌==◌, Bool, false, List, [], ◌∷◌, slice_index_or, Option, Some, None, if◌then◌else◌}
use Rattle.std.specs.Option.{is_some}
use Rattle.run_types.specs.declared.trap.TrapKind.{TrapKind}
use Rattle.c_tree.specs.BareDef.{BareDef}
use Rattle.c_semantics.specs.Stops.{Stop, Lock, Join, End}
use Rattle.source_model.specs.Waits.{Waiting, ForThread, held_by}
use Rattle.bytecode.specs.Meaning.{step, Traps as TrapsAt}
use Rattle.tree_code.specs.CodedPieces.{Stops}
use Rattle.program_locks.specs.Locking.{holder_of}
use Rattle.code_runs.specs.CodeData.{Names, number_of, thread_word}
use Rattle.code_runs.specs.CodeThreads.{CodeFrame, CodeEnter, CodeNext, CodeThread, CodeSlot, CodeWorld, Enters, Rests, Free, Live, Over}
use Rattle.code_runs.specs.CodeMoves.{frame_code}

-- what is in a slot; nothing is in one that isn't there
abbrev pub in_slot : CodeWorld → ℕ → CodeSlot
in_slot w t = slice_index_or w.slots t Free

-- the thread of a word lives in a slot
abbrev pub lives_as : ℕ → ℕ → CodeSlot → Bool
lives_as w t (Live th) = thread_word (record { slot = t; serial = th.serial }) == w
lives_as w t Free = false
lives_as w t (Over serial v) = false

-- the thread of a word that a join waits for: it lives
abbrev pub joined_from : ℕ → ℕ → List CodeSlot → Option Waiting
joined_from w t [] = None
joined_from w t (s ∷ ss) = if lives_as w t s then Some (ForThread t) else joined_from w (suc t) ss

abbrev pub joined : List CodeSlot → List ℕ → Option Waiting
joined slots [] = None
joined slots (w ∷ under) = joined_from w 0 slots

-- what the thread in a slot waits for at a stop with these words on its stack
abbrev pub at_stop : Names → CodeWorld → ℕ → Stop → List ℕ → Option Waiting
at_stop names w t (Lock name) stack = held_by name t (holder_of w.shared.holders (number_of names.mutexes name))
at_stop names w t Join stack = joined w.slots stack
at_stop names w t _ stack = None

-- what a thread waits for by what it does next: for nothing where it enters a function or traps
pub data WaitsNext (texts : List (List BareDef)) (names : Names) (w : CodeWorld) (t : ℕ) : CodeNext → Option Waiting → Type 0 where
  entering : (e : CodeEnter) → WaitsNext texts names w t (Enters e) None
  trapping : (f : CodeFrame) (kind : TrapKind) → step (frame_code texts f) f.state ≡ TrapsAt kind → WaitsNext texts names w t (Rests f) None
  stopping : (f : CodeFrame) (s : Stop) (point after : ℕ) → Stops (frame_code texts f) s point f.state.place after
      → WaitsNext texts names w t (Rests f) (at_stop names w t s f.state.stack)

-- what is in a slot waits for something
abbrev pub Waits : List (List BareDef) → Names → CodeWorld → ℕ → CodeSlot → Option Waiting → Type 0
Waits texts names w t (Live th) what = WaitsNext texts names w t th.next what
Waits texts names w t _ what = what ≡ None

-- a thread would end a transaction and is in none, so that it can't move
pub record EndsNone (texts : List (List BareDef)) (th : CodeThread) : Type 0 where
  pub frame : CodeFrame
  pub next : th.next ≡ Rests frame
  pub point : ℕ
  pub after : ℕ
  pub stops : Stops (frame_code texts frame) End point frame.state.place after
  pub none : th.depth ≡ 0

-- why the thread in a slot can't move: the run has ended, no thread lives there, it waits, or it would end a transaction outside
-- of each
pub data Stays (texts : List (List BareDef)) (names : Names) (w : CodeWorld) (t : ℕ) : Type 0 where
  over : is_some w.finish ≡ Bool.true → Stays texts names w t
  none_lives : ((th : CodeThread) → in_slot w t ≡ Live th → ⊥) → Stays texts names w t
  waits : (what : Waiting) → Waits texts names w t (in_slot w t) (Some what) → Stays texts names w t
  ends_none : (th : CodeThread) → in_slot w t ≡ Live th → EndsNone texts th → Stays texts names w t
