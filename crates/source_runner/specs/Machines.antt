-- The state of a run, as the definitions have it.
use Rattle.std.specs.Prelude.{◌≡◌, ℕ, suc, ◌<◌, Bool, true, false, List, [], ◌∷◌, map, length, slice_index_or, slice_set, Option, Some, None, option_map, Result, IfOk}
use Rattle.std.specs.List.{position}
use Rattle.std.specs.declared.alloc.AllocError.{AllocError}
use Rattle.c_ints.specs.Number.{value_of}
use Rattle.c_semantics.specs.Threads.{Frame as SeenFrame, Enter as SeenEnter, Thread as SeenThread, next_of, started}
use Rattle.c_semantics.specs.Values.{ThreadRef as SeenRef}
use Rattle.source_model.specs.Worlds.{World, is_over, in_slot, with_thread}
use Rattle.source_model.specs.Worlds as world
use Rattle.source_model.specs.Moves.{Standing, is_free}
use Rattle.resolved_tree.specs.declared.words.Word.{Word}
use Rattle.local_evaluation.specs.declared.value.ThreadRef.{ThreadRef}
use Rattle.local_evaluation.specs.declared.value.Value.{Value}
use Rattle.local_evaluation.specs.declared.value.Value.TheVariants.{Started}
use Rattle.local_evaluation.specs.declared.work.Halt.{Halt}
use Rattle.local_evaluation.specs.declared.work.Halt.TheVariants.{At}
use Rattle.local_evaluation.specs.declared.piece.Stop.{Stop}
use Rattle.source_runner.specs.declared.thread.Frame.{Frame}
use Rattle.source_runner.specs.declared.thread.Enter.{Enter}
use Rattle.source_runner.specs.declared.thread.Next.{Next}
use Rattle.source_runner.specs.declared.thread.Next.TheVariants as next
use Rattle.source_runner.specs.declared.thread.Thread.{Thread}
use Rattle.source_runner.specs.declared.thread.Stopped.{Stopped}
use Rattle.source_runner.specs.declared.thread.Slot.{Slot}
use Rattle.source_runner.specs.declared.thread.Slot.TheVariants.{Free, Live, Over}
use Rattle.source_runner.specs.declared.machine.Finish.{Finish}
use Rattle.source_runner.specs.declared.machine.Finish.TheVariants.{Finished, Trapped}
use Rattle.source_runner.specs.declared.machine.Machine.{Machine}
use Rattle.resolved_tree.specs.Nodes.{Table, word}
use Rattle.local_evaluation.specs.Values.{seen, seen_thread}
use Rattle.local_evaluation.specs.Pieces.{pending}
use Rattle.local_evaluation.specs.Work.{newest, scopes_of, went}
use Rattle.source_runner.specs.Frames.{frame_of, frames_of}
use Rattle.version_laws.specs.Histories.{IsHistory}
use Rattle.source_programs.specs.Programs.{ArePrograms, current_of, table_of, versions_of}
use Rattle.source_data.specs.Stores.{with_store}

-- an enter that is due
abbrev pub enter_of : Table → Enter → SeenEnter
enter_of t e = record { function = word t e.function; arguments = map seen e.arguments.items; version = e.version }

-- a frame whose private work was done as far as its next stop stands for one that has that work before it
pub record IsFrame (t : Table) (f : Frame) (halt : Halt) (own : SeenFrame) : Type 0 where
  pub function : own.function ≡ word t f.function
  pub version : own.version ≡ f.version
  pub standing : own.standing ≡ f.standing
  pub next : next_of own
      ≡ went t (Some halt) (pending t f.work.pieces.items) (newest f.work.values.items) (scopes_of t f.work.scopes.items)

-- what a thread does next, over the frames that wait
abbrev pub IsNext : Table → Next → List SeenFrame → Option SeenEnter → List SeenFrame → Type 0
IsNext t (next.Enter e) below entering frames = (entering ≡ Some (enter_of t e)) × (frames ≡ below)
IsNext t (next.Halt f halt) below entering frames =
    (entering ≡ None) × ((own : SeenFrame) × (frames ≡ own ∷ below) × IsFrame t f halt own)

-- a thread; where the run has ended, what it does next is no matter
pub record IsThread (t : Table) (over : Bool) (th : Thread) (n : Next) (own : SeenThread) : Type 0 where
  pub serial : own.serial ≡ th.serial
  pub depth : own.depth ≡ th.depth
  pub does : over ≡ false → IsNext t n (frames_of t th.below.items) own.entering own.frames

-- a slot
abbrev pub IsSlot : Table → Bool → Slot → world.Slot → Type 0
IsSlot t over Free own = own ≡ world.Free
IsSlot t over (Live th n) own = (m : SeenThread) × (own ≡ world.Live m) × IsThread t over th n m
IsSlot t over (Over serial value) own = own ≡ world.Over serial (seen value)

-- the slot with a number; a slot that isn't there is free
abbrev pub slot_at : List Slot → ℕ → Slot
slot_at slots n = slice_index_or slots n Free

-- how a run has ended
abbrev pub finish_of : Finish → world.Finish
finish_of (Finished r) = world.Finished (value_of r)
finish_of (Trapped kind slot) = world.Trapped kind slot

-- all of a machine but its slots stands for a world
pub record StandsFor (m : Machine) (w : World) : Type 0 where
  pub program : ArePrograms m.program
  pub history : IsHistory (versions_of m.program) w.table
  pub text : w.text ≡ current_of m.program
  pub store : w ≡ with_store (table_of m.program) m.store w
  pub threads : w.threads ≡ m.threads
  pub misused : w.misused ≡ m.misused
  pub finish : w.finish ≡ option_map finish_of m.finish
  pub count : length w.slots ≡ length m.slots.items

-- a machine stands for a world
pub record Stands (m : Machine) (w : World) : Type 0 where
  pub all : StandsFor m w
  pub slots : (n : ℕ) → IsSlot (table_of m.program) (is_over w) (slot_at m.slots.items n) (in_slot w n)

-- a machine stands for a world but for one slot, whose thread moves: in the world the thread is there still, and the
-- machine has only that the slot isn't free
pub record StandsBut (m : Machine) (slot : ℕ) (w : World) (before : SeenThread) : Type 0 where
  pub all : StandsFor m w
  pub within : slot < length m.slots.items
  pub others : (n : ℕ) → (n ≡ slot → ⊥) → IsSlot (table_of m.program) (is_over w) (slot_at m.slots.items n) (in_slot w n)
  pub taken : slot_at m.slots.items slot ≡ Over 0 (Started None)
  pub own : in_slot w slot ≡ world.Live before

-- a thread whose frame is after a stop
pub record IsReady (t : Table) (th : Thread) (f : Frame) (own : SeenThread) : Type 0 where
  pub serial : own.serial ≡ th.serial
  pub depth : own.depth ≡ th.depth
  pub entering : own.entering ≡ None
  pub frames : own.frames ≡ frame_of t f ∷ frames_of t th.below.items

-- a thread at a stop whose use was made; its frames are those with which the stop is made
pub record IsUser (th : Thread) (own : SeenThread) : Type 0 where
  pub serial : own.serial ≡ th.serial
  pub depth : own.depth ≡ th.depth
  pub entering : own.entering ≡ None

-- a frame at the stop of a point
abbrev pub frame_at : Table → Frame → ℕ → SeenFrame
frame_at t f point = record (frame_of t f) { standing = point }

-- the thread that was taken from a slot is at a stop, and nothing has changed yet but that its use was made
pub record IsAtStop (m : Machine) (slot : ℕ) (th : Thread) (f : Frame) (stop : Stop) (point : ℕ) (w : World) (before user : SeenThread) : Type 0 where
  pub but : StandsBut m slot w before
  pub going : is_over w ≡ false
  pub same : IsThread (table_of m.program) false th (next.Halt f (At stop point)) before
  pub used : IsUser th user

-- how it stands there
abbrev pub standing_at : Table → World → ℕ → Thread → Frame → ℕ → SeenThread → Standing
standing_at t w slot th f point user =
    record { world = w; slot = slot; thread = user; frame = frame_at t f point; below = frames_of t th.below.items }

-- the same of a thread at a stop that is handed on
abbrev pub IsStopped : Machine → Stopped → Stop → World → SeenThread → SeenThread → Type 0
IsStopped m at stop w before user = IsAtStop m at.slot at.thread at.frame stop at.point w before user

abbrev pub stands_at : Table → World → Stopped → SeenThread → Standing
stands_at t w at user = standing_at t w at.slot at.thread at.frame at.point user

-- the enter of a thread that is started with an argument
abbrev pub enter_with : Table → Word → Value → ℕ → SeenEnter
enter_with t name argument version = record { function = word t name; arguments = seen argument ∷ []; version = version }

-- the world where a thread is started in a slot, if one is free, and what its handle names
abbrev pub started_in : World → SeenEnter → Option ℕ → World
started_in w enter None = w
started_in w enter (Some place) = with_thread place (started w.threads enter) (record w { threads = suc w.threads })

abbrev pub started_as : World → Option ℕ → Option SeenRef
started_as w None = None
started_as w (Some place) = Some (record { slot = place; serial = w.threads })

-- a new thread was put into a slot
pub record IsPut (old new : Machine) (place : ℕ) (name : Word) (argument : Value) (version : ℕ) : Type 0 where
  pub same : new ≡ record old { slots = new.slots; threads = suc old.threads }
  pub slot : (s : Slot) × (new.slots.items ≡ slice_set old.slots.items place s)
      × ((t : Table) (over : Bool)
      → IsSlot t over s (world.Live (started old.threads (enter_with t name argument version))))

-- a thread was started in the least free slot, if there is one
pub record IsStarted (m : Machine) (slot : ℕ) (w : World) (before : SeenThread) (enter : SeenEnter) (ref : Option ThreadRef) : Type 0 where
  pub stands : StandsBut m slot (started_in w enter (position is_free w.slots)) before
  pub named : option_map seen_thread ref ≡ started_as w (position is_free w.slots)

-- what a move came to: it was made, and the machine stands for the world after it; or it can't be made, and the
-- machine stands for the world that there was
abbrev pub Came : Machine → World → Bool → Option World → Type 0
Came m w false None = Stands m w
Came m w true (Some after) = Stands m after
Came m w false (Some after) = ⊥
Came m w true None = ⊥

-- the same of an answer, which may also be that memory ran out
pub record Moves (m : Machine) (w : World) (r : Result Bool AllocError) (o : Option World) : Type 0 where
  pub came : IfOk r (λ made. Came m w made o)
