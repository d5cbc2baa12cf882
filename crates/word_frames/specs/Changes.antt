-- What calls do to the frames of a thread.
use Rattle.std.specs.Prelude.{◌≡◌, ℕ, ◌-◌, List, [], ◌∷◌, length, drop, reverse, slice_set, take}
use Rattle.c_tree.specs.BareDef.{BareDef}
use Rattle.resolved_tree.specs.declared.words.Word.{Word}
use Rattle.resolved_tree.specs.Nodes.{Table}
use Rattle.resolved_tree.specs.Words.{text_of}
use Rattle.bytecode.specs.declared.instr.Instr.{Instr}
use Rattle.bytecode.specs.Meaning.{State}
use Rattle.bytecode.specs.Seen.{code_of}
use Rattle.thread_state.specs.declared.steps.End.{End}
use Rattle.thread_state.specs.Bursts.{Bursts}
use Rattle.code_runs.specs.CodeThreads.{CodeEnter, CodeFrame}
use Rattle.code_runs.specs.CodeMoves.{GoesOn, IsEntered, frame_code}
use Rattle.word_frames.specs.declared.frame.Frame.{Frame}
use Rattle.word_frames.specs.declared.frames.Frames.{Frames}
use Rattle.word_frames.specs.Seen.{arguments_of, depth_of, frames_of, stack_of}

-- the frame of a function that is entered, before its first stop and after its entry check-in
abbrev pub new_frame : Word → ℕ → ℕ → Frame
new_frame function version unit =
    record { function = function; version = version; unit = unit; point = 0; place = 1; height = 0 }

-- the innermost frame changed
abbrev pub with_innermost : Frames → Frame → List Frame
with_innermost s f = slice_set s.frames.items (depth_of s - 1) f

-- a function was entered with so many arguments
pub record Enters (t : Table) (old new : Frames) (function : Word) (version count : ℕ) : Type 0 where
  pub frame : CodeFrame
  pub frames : frames_of t new ≡ frame ∷ frames_of t old
  pub standing : frame.standing ≡ 0
  pub place : frame.state.place ≡ 1
  pub stack : frame.state.stack ≡ []
  pub entered : (texts : List (List BareDef)) (e : CodeEnter) → e.function ≡ text_of t.words function
      → e.arguments ≡ arguments_of old count → version ≡ length texts → IsEntered texts e frame

-- the innermost frame, whose code this is, went on from a place with so many words on its stack, having stopped at a point
pub record WentOn (t : Table) (code : List Instr) (old new : Frames) (point place height : ℕ) (end : End) : Type 0 where
  pub frame : CodeFrame
  pub next : CodeFrame
  pub below : List CodeFrame
  pub before : frames_of t old ≡ frame ∷ below
  pub after : frames_of t new ≡ next ∷ below
  pub goes : (texts : List (List BareDef)) → frame_code texts frame ≡ code_of t code
      → GoesOn texts frame place (stack_of old height) point next
  pub bursts : Bursts (code_of t code) (record { place = place; stack = stack_of old height; locals = frame.state.locals }) end next.state
  pub function : next.function ≡ frame.function
  pub version : next.version ≡ frame.version
  pub standing : next.standing ≡ point

-- a frame at a place with a stack, after its stop at a point
abbrev pub put_at : (point place : ℕ) → List ℕ → CodeFrame → CodeFrame
put_at point place stack f = record f { standing = point; state = record f.state { place = place; stack = stack } }

-- the innermost frame is at a place with so many words on its stack, having stopped at a point; it has executed nothing
pub record PutOff (t : Table) (old new : Frames) (point place height : ℕ) : Type 0 where
  pub frame : CodeFrame
  pub below : List CodeFrame
  pub before : frames_of t old ≡ frame ∷ below
  pub after : frames_of t new ≡ put_at point place (stack_of old height) frame ∷ below

-- the innermost frame has another state, and nothing else has changed
pub record StateSet (t : Table) (old new : Frames) (state : State) : Type 0 where
  pub frame : CodeFrame
  pub below : List CodeFrame
  pub before : frames_of t old ≡ frame ∷ below
  pub after : frames_of t new ≡ record frame { state = state } ∷ below

-- a frame that waits at a place after its stop at a point, without the newest words of its stack
abbrev pub waiting : (count point place : ℕ) → CodeFrame → CodeFrame
waiting count point place f =
    record f { standing = point; state = record f.state { place = place; stack = drop count f.state.stack } }

-- the innermost frame waits after a call with so many arguments, the newest words of its stack
pub record Waits (t : Table) (old new : Frames) (count point place : ℕ) : Type 0 where
  pub frame : CodeFrame
  pub below : List CodeFrame
  pub before : frames_of t old ≡ frame ∷ below
  pub after : frames_of t new ≡ waiting count point place frame ∷ below
  pub arguments : arguments_of new count ≡ reverse (take count frame.state.stack)

-- a frame with one more word on its stack
abbrev pub with_word : ℕ → CodeFrame → CodeFrame
with_word w f = record f { state = record f.state { stack = w ∷ f.state.stack } }

-- the innermost frame returned its newest word to the next one
pub record Leaves (t : Table) (old new : Frames) : Type 0 where
  pub frame : CodeFrame
  pub next : CodeFrame
  pub below : List CodeFrame
  pub word : ℕ
  pub under : List ℕ
  pub before : frames_of t old ≡ frame ∷ next ∷ below
  pub newest : frame.state.stack ≡ word ∷ under
  pub after : frames_of t new ≡ with_word word next ∷ below
