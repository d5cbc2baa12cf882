-- What a step of a machine comes to, and how a machine starts.
use Rattle.std.specs.Prelude.{◌≡◌, ◌⊎◌, ℕ, ◌-◌, Bool, true, false, List, [], ◌∷◌, ◌++◌, length, replicate, codes, None}
use Rattle.std.specs.FinMap.{empty}
use Rattle.run_types.specs.declared.trap.TrapKind.{TrapKind}
use Rattle.c_tree.specs.BareDef.{BareDef}
use Rattle.c_semantics.specs.Stops.{Stop}
use Rattle.c_semantics.specs.Texts.{definition}
use Rattle.version_laws.specs.Histories.{last_text}
use Rattle.bytecode.specs.Meaning.{step, Traps}
use Rattle.tree_code.specs.CodedPieces.{Stops}
use Rattle.code_runs.specs.CodeData.{Names}
use Rattle.code_runs.specs.CodeThreads.{CodeEnter, CodeFrame, CodeThread, CodeWorld, Enters, Rests, Free, Live, starting}
use Rattle.code_runs.specs.CodeMoves.{Moves, frame_code}
use Rattle.code_runs.specs.CodeWaits.{Stays, WaitsNext, in_slot}
use Rattle.code_image.specs.declared.image.CodeImage.{CodeImage}
use Rattle.code_image.specs.Images.{has_body, names_in}
use Rattle.code_machine.specs.declared.state.RunState.{RunState}
use Rattle.code_machine.specs.declared.machine.CodeMachine.{CodeMachine}
use Rattle.code_machine.specs.Seen.{code_world, world_of}
use Rattle.code_machine.specs.Versions.{texts_of}

-- the innermost frame of the thread in a slot rests where code has no stop
pub record RestsNowhere (texts : List (List BareDef)) (w : CodeWorld) (t : ℕ) : Type 0 where
  pub thread : CodeThread
  pub frame : CodeFrame
  pub lives : in_slot w t ≡ Live thread
  pub next : thread.next ≡ Rests frame
  pub traps : (kind : TrapKind) → step (frame_code texts frame) frame.state ≡ Traps kind → ⊥
  pub stops : (s : Stop) (n after : ℕ) → Stops (frame_code texts frame) s n frame.state.place after → ⊥

-- or it enters a function that the last text doesn't have
pub record EntersNone (texts : List (List BareDef)) (w : CodeWorld) (t : ℕ) : Type 0 where
  pub thread : CodeThread
  pub enter : CodeEnter
  pub lives : in_slot w t ≡ Live thread
  pub next : thread.next ≡ Enters enter
  pub none : has_body (definition (last_text texts) enter.function) ≡ false

-- then it is lost. No thread of a run of the source machine is that misuses nothing
abbrev pub IsLost : List (List BareDef) → CodeWorld → ℕ → Type 0
IsLost texts w t = RestsNowhere texts w t ⊎ EntersNone texts w t

-- the thread in a slot can't move
abbrev pub CannotMove : List (List BareDef) → Names → CodeWorld → ℕ → Type 0
CannotMove texts names w t = Stays texts names w t ⊎ IsLost texts w t

-- the thread in a slot moved, and printed bytes
pub record Moved (texts : List (List BareDef)) (names : Names) (t : ℕ) (old new : CodeWorld) (before after : List ℕ) : Type 0 where
  pub going : old.finish ≡ None
  pub thread : CodeThread
  pub lives : in_slot old t ≡ Live thread
  pub ready : WaitsNext texts names old t thread.next None
  pub printed : List ℕ
  pub moves : Moves texts names old t thread new printed
  pub output : after ≡ before ++ printed

-- nothing has changed, since it can't
pub record Stayed (texts : List (List BareDef)) (names : Names) (t : ℕ) (old new : CodeWorld) (before after : List ℕ) : Type 0 where
  pub world : new ≡ old
  pub output : after ≡ before
  pub cannot : CannotMove texts names old t

abbrev pub Comes : List (List BareDef) → Names → ℕ → CodeWorld → CodeWorld → List ℕ → List ℕ → Bool → Type 0
Comes texts names t old new before after true = Moved texts names t old new before after
Comes texts names t old new before after false = Stayed texts names t old new before after

-- the same of the state of a run of some texts
abbrev pub StepsTo : List (List BareDef) → CodeImage → ℕ → RunState → RunState → Bool → Type 0
StepsTo all image t old new moved =
    Comes (texts_of all old) (names_in all) t (world_of image old) (world_of image new) old.output.items new.output.items moved

-- the same of a machine, by whether it answers that the thread moved
abbrev pub Came : List (List BareDef) → CodeMachine → ℕ → CodeMachine → Bool → Type 0
Came all old t new moved =
    Comes (texts_of all old.run) (names_in all) t (code_world old) (code_world new) old.run.output.items new.run.output.items moved

-- ---- the start

-- the words of globals and arrays are those given, there are no objects, no mutex is held, and main's thread is in the first slot
pub record IsStart (names : Names) (cells : List (List ℕ)) (objects slots : ℕ) (w : CodeWorld) : Type 0 where
  pub cells_are : w.shared.cells ≡ cells
  pub objects_are : w.shared.objects ≡ record { capacity = objects; created = 0; live = empty }
  pub holders : w.shared.holders ≡ replicate (length names.mutexes) None
  pub slots_are : w.slots ≡ Live (starting 0 (record { function = codes "main"; arguments = []; version = 1 })) ∷ replicate (slots - 1) Free
  pub version : w.shared.version ≡ 0
  pub threads : w.threads ≡ 1
  pub finish : w.finish ≡ None
