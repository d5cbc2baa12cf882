-- Threads of code: frames of words, and slots.
use Rattle.std.specs.Prelude.{ℕ, List, [], Option}
use Rattle.c_tree.specs.BareExpr.{Bytes}
use Rattle.source_model.specs.Worlds.{Finish}
use Rattle.bytecode.specs.Meaning.{State}
use Rattle.code_runs.specs.CodeData.{Data}

-- a call in progress: its function, the version under which it was entered, the number of the point at which it last stopped
-- (0 before its first stop), and where it is in its code with its words
pub record CodeFrame : Type 0 where
  pub function : Bytes
  pub version : ℕ
  pub standing : ℕ
  pub state : State

-- an enter that is due: the function, the words of its arguments in order, and the version of the frame that called or spawned
pub record CodeEnter : Type 0 where
  pub function : Bytes
  pub arguments : List ℕ
  pub version : ℕ

-- what a thread does next: it enters a function; or its innermost frame, whose private instructions were executed as far as its
-- next stop or trap, makes that
pub data CodeNext : Type 0 where
  Enters : CodeEnter → CodeNext
  Rests : CodeFrame → CodeNext

-- a thread: its number among all threads, how many transactions it is in, what it does next, and the frames that wait, the
-- innermost first
pub record CodeThread : Type 0 where
  pub serial : ℕ
  pub depth : ℕ
  pub next : CodeNext
  pub below : List CodeFrame

-- a slot: nothing is in it, a thread lives in it, or the thread of a number ended there with a word and wasn't joined yet
pub data CodeSlot : Type 0 where
  Free : CodeSlot
  Live : CodeThread → CodeSlot
  Over : (serial : ℕ) → ℕ → CodeSlot

-- a thread that starts
abbrev pub starting : ℕ → CodeEnter → CodeThread
starting serial e = record { serial = serial; depth = 0; next = Enters e; below = [] }

-- the state of a run: what is shared, the slots, how many threads were started, and how the run has ended, if it has
pub record CodeWorld : Type 0 where
  pub shared : Data
  pub slots : List CodeSlot
  pub threads : ℕ
  pub finish : Option Finish
