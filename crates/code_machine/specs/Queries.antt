-- What is asked of a run.
use Rattle.std.specs.Prelude.{◌≡◌, ◌⊎◌, ℕ, nat_lt, Bool, true, false, List, [], ◌∷◌, slice_get, Option, Some, None}
use Rattle.std.specs.Option.{is_some}
use Rattle.run_types.specs.declared.trap.TrapKind.{TrapKind}
use Rattle.c_tree.specs.BareExpr.{Bytes}
use Rattle.c_tree.specs.BareDef.{BareDef}
use Rattle.c_semantics.specs.Stops.{Stop}
use Rattle.source_model.specs.Waits.{Waiting, ForMutex, ForThread}
use Rattle.version_laws.specs.Histories.{text_in}
use Rattle.resolved_tree.specs.Nodes.{Table, word}
use Rattle.local_evaluation.specs.Pieces.{stop_of}
use Rattle.bytecode.specs.Meaning.{step, Traps}
use Rattle.tree_code.specs.CodedPieces.{Stops}
use Rattle.code_runs.specs.CodeData.{Names}
use Rattle.code_runs.specs.CodeThreads.{CodeFrame, CodeNext, CodeSlot, CodeThread, CodeWorld, Enters, Rests, Free, Live, Over}
use Rattle.code_runs.specs.CodeMoves.{frame_code}
use Rattle.code_runs.specs.CodeWaits.{Waits, in_slot}
use Rattle.word_data.specs.declared.stop.SharedStop.TheVariants.{Lock}
use Rattle.code_image.specs.declared.act.Act.{Act}
use Rattle.code_image.specs.declared.act.Act.TheVariants.{Shared, Join}
use Rattle.code_image.specs.declared.act.StopPlace.{StopPlace}
use Rattle.code_image.specs.declared.image.CodeImage.{CodeImage}
use Rattle.code_image.specs.Acts.{Acts, named}
use Rattle.code_machine.specs.declared.queries.FramePlace.{FramePlace}
use Rattle.code_machine.specs.declared.queries.CodeWait.{CodeWait}
use Rattle.code_machine.specs.declared.queries.CodeWait.TheVariants as wait
use Rattle.code_machine.specs.declared.machine.CodeMachine.{CodeMachine}
use Rattle.code_machine.specs.declared.running.Running.{Running}
use Rattle.code_machine.specs.Kept.{FitsImage, IsDueAt, IsSettledRun}
use Rattle.code_machine.specs.Seen.{code_world, thread_of, words_of}
use Rattle.code_machine.specs.Steps.{RestsNowhere}

-- whether a thread lives in a slot, and whether it is in a transaction
abbrev pub is_live : CodeSlot → Bool
is_live (Live th) = true
is_live Free = false
is_live (Over serial w) = false

abbrev pub in_transaction : CodeSlot → Bool
in_transaction (Live th) = nat_lt 0 th.depth
in_transaction Free = false
in_transaction (Over serial w) = false

-- the frames of the thread in a slot, the innermost first; those below an enter
abbrev pub frames_by : CodeNext → List CodeFrame → List CodeFrame
frames_by (Enters e) below = below
frames_by (Rests f) below = f ∷ below

abbrev pub frames_in : CodeSlot → List CodeFrame
frames_in (Live th) = frames_by th.next th.below
frames_in Free = []
frames_in (Over serial w) = []

-- where a frame is: its function, its version, and the point at which it last stopped
pub record Place : Type 0 where
  pub function : Bytes
  pub version : ℕ
  pub point : ℕ

abbrev pub place_of : CodeFrame → Place
place_of f = record { function = f.function; version = f.version; point = f.standing }

abbrev pub place_seen : Table → FramePlace → Place
place_seen t p = record { function = word t p.function; version = p.version; point = p.point }

-- the function that the thread in a slot enters next, if it enters one
abbrev pub entered_by : CodeNext → Option Bytes
entered_by (Enters e) = Some e.function
entered_by (Rests f) = None

abbrev pub entering_in : CodeSlot → Option Bytes
entering_in (Live th) = entered_by th.next
entering_in Free = None
entering_in (Over serial w) = None

-- the innermost frame of the thread in a slot rests
pub record RestsIn (w : CodeWorld) (t : ℕ) (f : CodeFrame) : Type 0 where
  pub thread : CodeThread
  pub lives : in_slot w t ≡ Live thread
  pub next : thread.next ≡ Rests f

-- it rests at a stop, which is known
pub record IsNextStop (texts : List (List BareDef)) (names : Names) (image : CodeImage) (w : CodeWorld) (t : ℕ) (x : StopPlace) : Type 0
  where
    pub frame : CodeFrame
    pub rests : RestsIn w t frame
    pub stops : Stops (frame_code texts frame) (stop_of (words_of image) x.stop) x.point frame.state.place x.after
    pub acts : Acts (words_of image) names (text_in texts frame.version) (named (words_of image) image.callees.items)
        (stop_of (words_of image) x.stop) x.act

-- it rests at none: an operator traps, or no stop is there
abbrev pub HasNoStop : List (List BareDef) → CodeWorld → ℕ → Type 0
HasNoStop texts w t =
    (f : CodeFrame) → RestsIn w t f
    → ((kind : TrapKind) × (step (frame_code texts f) f.state ≡ Traps kind))
    ⊎ ((s : Stop) (n after : ℕ) → Stops (frame_code texts f) s n f.state.place after → ⊥)

-- what is waited for, by the table of names
abbrev pub waiting_of : Table → CodeWait → Waiting
waiting_of t (wait.Mutex name holder) = ForMutex (word t name) holder
waiting_of t (wait.Thread slot) = ForThread slot

-- what the thread in a slot waits for; a thread that is lost waits for nothing
abbrev pub WaitsFor : List (List BareDef) → Names → CodeWorld → ℕ → Option Waiting → Type 0
WaitsFor texts names w t what = Waits texts names w t (in_slot w t) what ⊎ ((what ≡ None) × RestsNowhere texts w t)

-- whether the thread in a slot waits
abbrev pub IsHeld : List (List BareDef) → Names → CodeWorld → ℕ → Bool → Type 0
IsHeld texts names w t held = (what : Option Waiting) × WaitsFor texts names w t what × (held ≡ is_some what)

-- an act that never waits: it is neither a lock nor a join
pub record NeverWaits (act : Act) : Type 0 where
  pub no_lock : (n : ℕ) → act ≡ Shared (Lock n) → ⊥
  pub no_join : act ≡ Join → ⊥

-- a thread lives in a slot of a machine, and fits its code
pub record LivesIn (m : CodeMachine) (slot : ℕ) (r : Running) : Type 0 where
  pub there : slice_get m.run.slots.items slot ≡ Some r
  pub fits : FitsImage m.image.value r
  pub lives : in_slot (code_world m) slot ≡ Live (thread_of m.image.value r)

-- ---- private work

-- the thread in a slot has no private work to do, so it can be asked what it does next
abbrev pub IsSettledAt : CodeMachine → ℕ → Type 0
IsSettledAt m slot = IsDueAt m.run slot → ⊥

-- no thread has, and moves leave none
pub record IsSettled (m : CodeMachine) : Type 0 where
  pub none : IsSettledRun m.run
  pub leaves : m.run.leaves_work ≡ false
