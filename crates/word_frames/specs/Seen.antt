-- The frames of a thread, as runs of code have them.
use Rattle.std.specs.Prelude.{ℕ, zero, suc, ◌+◌, ◌-◌, ◌<◌, ◌≤◌, List, [], ◌∷◌, length, slice_index_or, vec_capacity}
use Rattle.resolved_tree.specs.Nodes.{Table}
use Rattle.resolved_tree.specs.Words.{text_of}
use Rattle.code_kinds.specs.WellFormed.{most_variables}
use Rattle.source_model.specs.Moves.{frame_count}
use Rattle.bytecode.specs.Meaning.{State}
use Rattle.thread_state.specs.Frames.{downward, most_words, state_at, upward}
use Rattle.code_runs.specs.CodeThreads.{CodeFrame}
use Rattle.word_frames.specs.declared.frame.Frame.{Frame}
use Rattle.word_frames.specs.declared.frames.Frames.{Frames}
use Rattle.word_frames.specs.Blocks.{base_of, low_of, room, words_for}

-- a frame that isn't there
abbrev pub no_frame : Frame
no_frame = record { function = record { 0 = 0 }; version = 0; unit = 0; point = 0; place = 0; height = 0 }

-- the frame with a number, with its words, where no stack is higher than this
abbrev pub frame_of : Table → ℕ → List ℕ → ℕ → Frame → CodeFrame
frame_of t highest words n f = record {
  function = text_of t.words f.function;
  version = f.version;
  standing = f.point;
  state = state_at words (base_of highest n) room f.place f.height;
}

-- the outermost frames, as many as are asked for, the innermost of them first
abbrev pub frames_below : Table → ℕ → List ℕ → List Frame → ℕ → List CodeFrame
frames_below t highest words frames zero = []
frames_below t highest words frames (suc n) =
    frame_of t highest words n (slice_index_or frames n no_frame) ∷ frames_below t highest words frames n

-- how many frames there are
abbrev pub depth_of : Frames → ℕ
depth_of s = length s.frames.items

-- all frames
abbrev pub frames_of : Table → Frames → List CodeFrame
frames_of t s = frames_below t s.highest_stack s.words.items s.frames.items (depth_of s)

-- the frame with a number, and the innermost one, without its words
abbrev pub frame_at : Frames → ℕ → Frame
frame_at s n = slice_index_or s.frames.items n no_frame

abbrev pub innermost : Frames → Frame
innermost s = frame_at s (depth_of s - 1)

-- where the innermost frame's stack begins, and its words, if it has that height
abbrev pub stack_base : Frames → ℕ
stack_base s = low_of s.highest_stack (depth_of s - 1)

abbrev pub stack_of : Frames → ℕ → List ℕ
stack_of s height = downward s.words.items (stack_base s) height

-- its state, if it is at a place with that height
abbrev pub innermost_state : Frames → (place height : ℕ) → State
innermost_state s place height = state_at s.words.items (base_of s.highest_stack (depth_of s - 1)) room place height

-- where arguments for a function that is to be entered are: above the stack of the innermost of so many frames, or in the
-- first word where there is none
abbrev pub arguments_at : (highest depth : ℕ) → List Frame → ℕ
arguments_at highest zero frames = 0
arguments_at highest (suc n) frames = low_of highest n + (slice_index_or frames n no_frame).height

-- so many of them, in order
abbrev pub arguments_of : Frames → ℕ → List ℕ
arguments_of s count = upward s.words.items (arguments_at s.highest_stack (depth_of s) s.frames.items) count

-- there are so many, and a function may have as many
pub record HasArguments (s : Frames) (count : ℕ) : Type 0 where
  pub few : count ≤ most_variables
  pub inside : arguments_at s.highest_stack (depth_of s) s.frames.items + count ≤ base_of s.highest_stack (depth_of s)

-- the words of each frame are there, and those after them; no stack is too high, and there is memory for as many frames as a thread
-- may have
pub record IsKept (s : Frames) : Type 0 where
  pub few : depth_of s ≤ frame_count
  pub most : s.highest_stack ≤ most_words
  pub words : base_of s.highest_stack (depth_of s) + most_words < length s.words.items
  pub low : (n : ℕ) → n < depth_of s → (frame_at s n).height ≤ s.highest_stack
  pub words_fit : words_for s.highest_stack ≤ vec_capacity s.words
  pub frames_fit : frame_count ≤ vec_capacity s.frames
