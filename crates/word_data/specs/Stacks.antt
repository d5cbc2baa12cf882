-- The words on a frame's stack, the newest first.
use Rattle.std.specs.Prelude.{◌≡◌, ℕ, List}
use Rattle.thread_state.specs.Frames.{downward}
use Rattle.word_data.specs.declared.stop.Stack.{Stack}
use Rattle.word_data.specs.declared.stop.Did.{Did}
use Rattle.word_data.specs.declared.stop.Did.TheVariants.{On}

-- the words on a stack
abbrev pub stack_of : List ℕ → Stack → List ℕ
stack_of words s = downward words s.low s.height

-- those of a stack of another height
abbrev pub stack_at : List ℕ → Stack → ℕ → List ℕ
stack_at words s height = downward words s.low height

-- the frame goes on with these words on its stack
abbrev pub Leaves : List ℕ → Stack → Did → List ℕ → Type 0
Leaves words s (On height) ws = stack_at words s height ≡ ws
Leaves words s _ ws = ⊥
