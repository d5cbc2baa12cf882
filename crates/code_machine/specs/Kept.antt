-- What is kept of threads, whatever the texts and their names are: each step finds what it needs.
use Rattle.std.specs.Prelude.{◌≡◌, ℕ, suc, ◌-◌, ◌<◌, ◌≤◌, ◌^◌, true, false, List, ◌∷◌, length, slice_get, Option, Some, None}
use Rattle.resolved_tree.specs.Nodes.{Table}
use Rattle.bytecode.specs.Meaning.{Step, Goes, Traps, Rests, Lost, step}
use Rattle.bytecode.specs.Seen.{code_of}
use Rattle.thread_state.specs.declared.steps.End.{End}
use Rattle.thread_state.specs.declared.steps.End.TheVariants.{Rests as RestsThere, Traps as TrapsThere}
use Rattle.thread_state.specs.Heights.{HasHeight}
use Rattle.program_locks.specs.Slots.{most_slots}
use Rattle.code_runs.specs.CodeThreads.{CodeFrame}
use Rattle.word_frames.specs.declared.frame.Frame.{Frame}
use Rattle.word_frames.specs.declared.frames.Frames.{Frames}
use Rattle.word_frames.specs.Seen.{HasArguments, IsKept, depth_of, frame_at, frames_of, innermost}
use Rattle.code_image.specs.declared.function.CodeFunction.{CodeFunction}
use Rattle.code_image.specs.declared.image.CodeImage.{CodeImage}
use Rattle.code_image.specs.Stacks.{AreNeverHigher}
use Rattle.code_machine.specs.declared.running.Next.TheVariants.{Enters, Continues, Stands}
use Rattle.code_machine.specs.declared.running.Running.{Running}
use Rattle.code_machine.specs.declared.state.RunState.{RunState}

-- how many threads a run may start, so that their words have 64 bits
abbrev pub most_threads : ℕ
most_threads = 2 ^ 48

-- a frame is one of the function with the number of its unit
pub record IsFrame (functions : List CodeFunction) (f : Frame) : Type 0 where
  pub inside : f.unit < length functions
  pub function : (g : CodeFunction) → slice_get functions f.unit ≡ Some g → f.function ≡ g.name

-- at a place the stack of a frame's function has a height
abbrev pub HasHeightAt : List CodeFunction → Frame → ℕ → ℕ → Type 0
HasHeightAt functions f place height =
    (g : CodeFunction) → slice_get functions f.unit ≡ Some g → HasHeight g.verified.heights.items place height

-- the outermost frames, as many as are asked for, wait for the word of a call
abbrev pub Wait : List CodeFunction → Frames → ℕ → Type 0
Wait functions s count =
    (n : ℕ) → n < count → HasHeightAt functions (frame_at s n) (frame_at s n).place (suc (frame_at s n).height)

-- how a burst ended, if it did
abbrev pub end_of : Step → Option End
end_of (Goes s) = None
end_of (Traps kind) = Some (TrapsThere kind)
end_of Rests = Some RestsThere
end_of Lost = None

-- the innermost frame is where its burst ended, and the others wait
pub record Stood (functions : List CodeFunction) (s : Frames) (end : End) : Type 0 where
  pub some : 0 < depth_of s
  pub height : HasHeightAt functions (innermost s) (innermost s).place (innermost s).height
  pub ends : (t : Table) (g : CodeFunction) (f : CodeFrame) (below : List CodeFrame) → slice_get functions (innermost s).unit ≡ Some g
      → frames_of t s ≡ f ∷ below → end_of (step (code_of t g.verified.body.code.items) f.state) ≡ Some end
  pub wait : Wait functions s (depth_of s - 1)

-- the innermost frame has private instructions to execute from its place on, and the others wait
pub record Owes (functions : List CodeFunction) (s : Frames) : Type 0 where
  pub some : 0 < depth_of s
  pub height : HasHeightAt functions (innermost s) (innermost s).place (innermost s).height
  pub wait : Wait functions s (depth_of s - 1)

-- the enter of a function with one of so many names is due, and all frames wait
pub record Due (functions : List CodeFunction) (callees : ℕ) (s : Frames) (n count : ℕ) : Type 0 where
  pub inside : n < callees
  pub there : HasArguments s count
  pub wait : Wait functions s (depth_of s)

-- the frames of a slot fit some functions, with so many names, whose stacks they have the words for, and what its thread does next
pub record Fits (functions : List CodeFunction) (callees : ℕ) (r : Running) : Type 0 where
  pub kept : IsKept r.frames
  pub serial : r.serial < most_threads
  pub frames : (n : ℕ) → n < depth_of r.frames → IsFrame functions (frame_at r.frames n)
  pub due : (n count : ℕ) → r.next ≡ Enters n count → Due functions callees r.frames n count
  pub owes : r.next ≡ Continues → Owes functions r.frames
  pub leaves : r.next ≡ Continues → r.leaves_work ≡ true
  pub stood : (end : End) → r.next ≡ Stands end → Stood functions r.frames end
  pub stacks : AreNeverHigher r.frames.highest_stack functions

-- so they fit an image
abbrev pub FitsImage : CodeImage → Running → Type 0
FitsImage image r = Fits image.functions.items (length image.callees.items) r

-- all slots do; there aren't many, nor were too many threads started
pub record AreKept (image : CodeImage) (slots : List Running) (threads : ℕ) : Type 0 where
  pub fit : (n : ℕ) (r : Running) → slice_get slots n ≡ Some r → FitsImage image r
  pub few : length slots ≤ most_slots
  pub counted : threads ≤ most_threads

-- those of a run do, its versions are few enough to be counted, and where it leaves no private work for later, no thread does
pub record IsKeptRun (image : CodeImage) (run : RunState) : Type 0 where
  pub slots : AreKept image run.slots.items run.threads
  pub versions : length run.versions.items < 2 ^ 32
  pub version : suc run.shared.version ≡ length run.versions.items
  pub leaves : run.leaves_work ≡ false → (n : ℕ) (r : Running) → slice_get run.slots.items n ≡ Some r → r.leaves_work ≡ false

-- ---- private work

-- the thread in a slot has private work to do
pub record IsDueAt (run : RunState) (n : ℕ) : Type 0 where
  pub running : Running
  pub there : slice_get run.slots.items n ≡ Some running
  pub due : running.next ≡ Continues

-- no thread has
abbrev pub IsSettledRun : RunState → Type 0
IsSettledRun run = (n : ℕ) → IsDueAt run n → ⊥
