-- A change of the innermost frame's stack.
use Rattle.std.specs.Prelude.{◌≡◌, ℕ, ◌+◌, ◌<◌, List, ◌∷◌}
use Rattle.resolved_tree.specs.Nodes.{Table}
use Rattle.thread_state.specs.Frames.{IsSameOutside, most_words}
use Rattle.code_runs.specs.CodeThreads.{CodeFrame}
use Rattle.word_frames.specs.declared.frames.Frames.{Frames}
use Rattle.word_frames.specs.Seen.{IsKept, depth_of, frames_of, innermost, stack_base, stack_of}

-- a frame with other words on its stack
abbrev pub with_stack : List ℕ → CodeFrame → CodeFrame
with_stack stack f = record f { state = record f.state { stack = stack } }

-- the innermost frame has the words on its stack that are there now, and nothing else has changed
pub record StackChanged (t : Table) (old new : Frames) : Type 0 where
  pub frame : CodeFrame
  pub below : List CodeFrame
  pub before : frames_of t old ≡ frame ∷ below
  pub after : frames_of t new ≡ with_stack (stack_of new (innermost new).height) frame ∷ below

abbrev pub StackChangesAlone : Type 0
StackChangesAlone =
    (t : Table) (old new : Frames) → IsKept old → 0 < depth_of old → new.frames.items ≡ old.frames.items
    → new.highest_stack ≡ old.highest_stack
    → IsSameOutside (stack_base old) (stack_base old + most_words) old.words.items new.words.items
    → StackChanged t old new
