-- What is said of private work that was executed.
use Rattle.std.specs.Prelude.{◌≡◌, ℕ, ◌<◌, List, length, slice_get, Some}
use Rattle.bytecode.specs.Meaning.{step}
use Rattle.code_kinds.specs.WellFormed.{most_variables}
use Rattle.thread_state.specs.declared.steps.End.{End}
use Rattle.thread_state.specs.Frames.{state_at}
use Rattle.settled_code.specs.Settled.{settled_state}
use Rattle.code_image.specs.declared.function.CodeFunction.{CodeFunction}
use Rattle.code_image.specs.declared.image.CodeImage.{CodeImage}
use Rattle.code_image.specs.Images.{code_in_image}
use Rattle.code_machine.specs.declared.work.Start.{Start}
use Rattle.code_machine.specs.Kept.{end_of}
use Rattle.code_machine.specs.Seen.{words_of}

-- private instructions of a function of an image were executed from a state, and ended so in another
pub record IsDone (image : CodeImage) (from : Start) (before : List ℕ) (end : End) (place height : ℕ) (after : List ℕ) : Type 0 where
  pub inside : from.unit < length image.functions.items
  pub comes : (g : CodeFunction) → slice_get image.functions.items from.unit ≡ Some g
      → settled_state (code_in_image (words_of image) g) (state_at before 0 most_variables from.place from.height)
      ≡ state_at after 0 most_variables place height
  pub ends : (g : CodeFunction) → slice_get image.functions.items from.unit ≡ Some g
      → end_of (step (code_in_image (words_of image) g) (state_at after 0 most_variables place height)) ≡ Some end
