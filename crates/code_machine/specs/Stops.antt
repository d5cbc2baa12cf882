-- What is done at a stop, step by step: a thread goes on, and what its stop came to.
use Rattle.std.specs.Prelude.{◌≡◌, ◌⊎◌, ℕ, ◌<◌, ◌-◌, false, List, [], ◌∷◌, ◌++◌, slice_get, Some, None}
use Rattle.c_tree.specs.BareDef.{BareDef}
use Rattle.c_semantics.specs.Stops.{Stop, End as AtEnd}
use Rattle.source_model.specs.Waits.{Waiting}
use Rattle.local_evaluation.specs.Pieces.{stop_of}
use Rattle.thread_state.specs.declared.steps.End.{End}
use Rattle.thread_state.specs.declared.steps.End.TheVariants.{Rests as RestsThere}
use Rattle.code_runs.specs.CodeData.{Data, Names}
use Rattle.code_runs.specs.CodeThreads.{CodeFrame, CodeSlot, CodeThread, CodeWorld, Rests}
use Rattle.code_runs.specs.CodeMoves.{At, GoesOn, IsEntered, StopMade, with_slot}
use Rattle.code_runs.specs.CodeWaits.{at_stop}
use Rattle.word_frames.specs.Changes as change
use Rattle.word_frames.specs.Seen.{IsKept, depth_of, frame_at, frames_of, innermost, stack_of}
use Rattle.code_image.specs.declared.act.Act.{Act}
use Rattle.code_image.specs.declared.act.Act.TheVariants.{Spawn, Join}
use Rattle.code_image.specs.declared.act.StopPlace.{StopPlace}
use Rattle.code_image.specs.StopHeights.{act_leaves, act_takes, returns}
use Rattle.code_image.specs.declared.function.CodeFunction.{CodeFunction}
use Rattle.code_image.specs.declared.image.CodeImage.{CodeImage}
use Rattle.code_image.specs.Stacks.{AreNeverHigher}
use Rattle.code_machine.specs.declared.running.Next.{Next}
use Rattle.code_machine.specs.declared.running.Next.TheVariants.{Enters, Stands}
use Rattle.code_machine.specs.declared.running.Stand.TheVariants.{Live}
use Rattle.code_machine.specs.declared.running.Running.{Running}
use Rattle.code_machine.specs.declared.state.RunState.{RunState}
use Rattle.code_machine.specs.declared.stops.Outcome.{Outcome}
use Rattle.code_machine.specs.declared.stops.Outcome.TheVariants.{Goes, Stays, Ends}
use Rattle.code_machine.specs.Kept.{Fits, HasHeightAt, IsFrame, Wait, most_threads}
use Rattle.code_machine.specs.Seen.{enter_of, finish_of, slot_of, thread_of, words_of}

-- ---- one thread

-- its innermost frame can go on at a place with a height, and the others wait
pub record CanGoOn (functions : List CodeFunction) (r : Running) (place height : ℕ) : Type 0 where
  pub kept : IsKept r.frames
  pub serial : r.serial < most_threads
  pub frames : (n : ℕ) → n < depth_of r.frames → IsFrame functions (frame_at r.frames n)
  pub some : 0 < depth_of r.frames
  pub high : HasHeightAt functions (innermost r.frames) place height
  pub wait : Wait functions r.frames (depth_of r.frames - 1)
  pub stacks : AreNeverHigher r.frames.highest_stack functions

-- no thread was in a slot yet; its next is that of main
pub record IsFresh (r : Running) (main : ℕ) : Type 0 where
  pub next : r.next ≡ Enters main 0
  pub serial : r.serial ≡ 0
  pub depth : r.depth ≡ 0
  pub version : r.version ≡ 1
  pub none : r.frames.frames.items ≡ []
  pub leaves : r.leaves_work ≡ false

-- only what it does next and its frames changed
pub record SameThread (old new : Running) : Type 0 where
  pub stand : new.stand ≡ old.stand
  pub serial : new.serial ≡ old.serial
  pub depth : new.depth ≡ old.depth
  pub version : new.version ≡ old.version
  pub leaves : new.leaves_work ≡ old.leaves_work

-- a thread with a frame that rests, over frames that wait
abbrev pub resting : Running → CodeFrame → List CodeFrame → CodeThread
resting r f below = record { serial = r.serial; depth = r.depth; next = Rests f; below = below }

-- its innermost frame went on from a place with a stack, having stopped at a point
pub record WentOn (texts : List (List BareDef)) (image : CodeImage) (old new : Running) (point place height : ℕ) : Type 0 where
  pub frame : CodeFrame
  pub next : CodeFrame
  pub below : List CodeFrame
  pub before : frames_of (words_of image) old.frames ≡ frame ∷ below
  pub after : thread_of image new ≡ resting old next below
  pub goes : GoesOn texts frame place (stack_of old.frames height) point next

-- its innermost frame executed its private instructions from a place on with a height, having stopped at a point
pub record Executed (image : CodeImage) (old new : Running) (point place height : ℕ) : Type 0 where
  pub function : CodeFunction
  pub there : slice_get image.functions.items (innermost old.frames).unit ≡ Some function
  pub end : End
  pub goes : change.WentOn (words_of image) function.verified.body.code.items old.frames new.frames point place height end
  pub is : new ≡ record old { frames = new.frames; next = Stands end }

-- it entered a function
pub record Entered (texts : List (List BareDef)) (image : CodeImage) (old new : Running) (n count : ℕ) : Type 0 where
  pub frame : CodeFrame
  pub next : CodeFrame
  pub entered : IsEntered texts (enter_of image old n count) frame
  pub goes : GoesOn texts frame 1 [] 0 next
  pub after : thread_of image new ≡ resting old next (frames_of (words_of image) old.frames)

-- a live thread rests at a stop of these functions, with so many names
pub record RestsAt (functions : List CodeFunction) (callees : ℕ) (r : Running) (x : StopPlace) : Type 0 where
  pub fits : Fits functions callees r
  pub live : r.stand ≡ Live
  pub next : r.next ≡ Stands RestsThere
  pub there : (g : CodeFunction) → slice_get functions (innermost r.frames).unit ≡ Some g
      → slice_get g.stops.items (innermost r.frames).place ≡ Some (Some x)

-- the stop as the definitions have it
abbrev pub at : ℕ → Running → StopPlace → CodeFrame → List CodeFrame → At
at slot r x f below = record { slot = slot; thread = resting r f below; frame = f; point = x.point; after = x.after }

-- an act takes one word and leaves one
pub record Exchanges (act : Act) : Type 0 where
  pub takes : act_takes act ≡ 1
  pub leaves : act_leaves act ≡ 1
  pub returns : returns act ≡ false

-- an act takes no word and leaves none
pub record LeavesStack (act : Act) : Type 0 where
  pub takes : act_takes act ≡ 0
  pub leaves : act_leaves act ≡ 0
  pub returns : returns act ≡ false

-- its innermost frame went on after a stop, with the stack that it had
pub record Resumed (texts : List (List BareDef)) (image : CodeImage) (old new : Running) (x : StopPlace) : Type 0 where
  pub frame : CodeFrame
  pub next : CodeFrame
  pub below : List CodeFrame
  pub before : frames_of (words_of image) old.frames ≡ frame ∷ below
  pub after : thread_of image new ≡ resting old next below
  pub goes : GoesOn texts frame x.after frame.state.stack x.point next

-- it answered a stop: a word came in place of the newest one, and it went on
pub record Answered (texts : List (List BareDef)) (image : CodeImage) (old new : Running) (x : StopPlace) (word : ℕ) : Type 0 where
  pub frame : CodeFrame
  pub next : CodeFrame
  pub below : List CodeFrame
  pub newest : ℕ
  pub under : List ℕ
  pub before : frames_of (words_of image) old.frames ≡ frame ∷ below
  pub stack : frame.state.stack ≡ newest ∷ under
  pub after : thread_of image new ≡ resting old next below
  pub goes : GoesOn texts frame x.after (word ∷ under) x.point next

-- ---- stops that change no other thread

-- the world after a stop, by what it came to, what is in the slot of its thread then, and what is shared then
abbrev pub settled : Outcome → ℕ → CodeSlot → Data → CodeWorld → CodeWorld
settled Goes t s d w = with_slot t s (record w { shared = d })
settled Stays t s d w = w
settled (Ends finish) t s d w = record w { shared = d; finish = Some (finish_of finish) }

-- why a stop can't be made: its thread waits, or would end a transaction outside of each
abbrev pub CannotStop : Names → CodeWorld → At → Stop → Type 0
CannotStop names w a s =
    ((what : Waiting) × (at_stop names w a.slot s a.frame.state.stack ≡ Some what)) ⊎ ((s ≡ AtEnd) × (a.thread.depth ≡ 0))

-- a stop was made, or can't be
abbrev pub StopCame : List (List BareDef) → Names → At → Stop → CodeWorld → Outcome → CodeWorld → List ℕ → Type 0
StopCame texts names a s w Stays new printed = (printed ≡ []) × CannotStop names w a s
StopCame texts names a s w outcome new printed =
    (at_stop names w a.slot s a.frame.state.stack ≡ None) × StopMade texts names a s w new printed

-- what is unchanged where it can't be made; only where it goes on has its thread changed
abbrev pub Unchanged : Outcome → CodeImage → Running → Running → Data → Data → Type 0
Unchanged Goes image old new before after = Unit {0}
Unchanged Stays image old new before after = (slot_of image new ≡ slot_of image old) × (after ≡ before)
Unchanged (Ends finish) image old new before after = slot_of image new ≡ slot_of image old

-- a stop of the thread in a slot: what it came to, in each world that has what is shared
pub record Stopped (texts : List (List BareDef)) (names : Names) (image : CodeImage) (slot : ℕ) (x : StopPlace) (old new : Running) (before after : Data)
    (output_before output_after : List ℕ) (outcome : Outcome) : Type 0 where
  pub frame : CodeFrame
  pub below : List CodeFrame
  pub frames : frames_of (words_of image) old.frames ≡ frame ∷ below
  pub printed : List ℕ
  pub output : output_after ≡ output_before ++ printed
  pub unchanged : Unchanged outcome image old new before after
  pub came : (w : CodeWorld) → w.shared ≡ before
      → StopCame texts names (at slot old x frame below) (stop_of (words_of image) x.stop) w outcome
      (settled outcome slot (slot_of image new) after w) printed

-- the same of a stop that doesn't use what is shared, nor the slot of its thread
abbrev pub StoppedAlone : List (List BareDef) → Names → CodeImage → StopPlace → Running → Running → Outcome → Type 0
StoppedAlone texts names image x old new outcome =
    (slot : ℕ) (d : Data) (output : List ℕ) → Stopped texts names image slot x old new d d output output outcome

-- an act changes no other thread
abbrev pub IsAlone : Act → Type 0
IsAlone (Spawn n) = ⊥
IsAlone Join = ⊥
IsAlone act = Unit {0}

-- ---- the state of a run

-- a thread lives in a slot of a run that hasn't ended, and does this next
pub record Lives (run : RunState) (slot : ℕ) (next : Next) : Type 0 where
  pub running : Running
  pub there : slice_get run.slots.items slot ≡ Some running
  pub live : running.stand ≡ Live
  pub does : running.next ≡ next
  pub going : run.finish ≡ None

-- it rests at a stop
pub record LivesAt (functions : List CodeFunction) (callees : ℕ) (run : RunState) (slot : ℕ) (x : StopPlace) : Type 0 where
  pub running : Running
  pub there : slice_get run.slots.items slot ≡ Some running
  pub rests : RestsAt functions callees running x
  pub going : run.finish ≡ None
