-- Bursts and settled states.
use Rattle.std.specs.Prelude.{◌≡◌, ℕ, List, Option, length}
use Rattle.bytecode.specs.Instructions.{Instruction}
use Rattle.bytecode.specs.Meaning.{State}
use Rattle.thread_state.specs.declared.steps.End.{End}
use Rattle.thread_state.specs.Bursts.{Bursts}
use Rattle.thread_state.specs.Heights.{HasHeight, Sound}
use Rattle.settled_code.specs.Settled.{settled_state}

-- a burst comes to the settled state
abbrev pub BurstsSettle : Type 0
BurstsSettle = (code : List Instruction) (from to : State) (end : End) → Bursts code from end to → settled_state code from ≡ to

-- a state of a frame at a place of code whose heights are right for so many variables
pub record IsAt (code : List Instruction) (room : ℕ) (heights : List (Option ℕ)) (s : State) : Type 0 where
  pub sound : Sound code room heights
  pub height : HasHeight heights s.place (length s.stack)
  pub locals : length s.locals ≡ room

-- from there a burst comes to the settled state, where the heights are right too
pub record Settles (code : List Instruction) (room : ℕ) (heights : List (Option ℕ)) (s : State) : Type 0 where
  pub end : End
  pub bursts : Bursts code s end (settled_state code s)
  pub there : IsAt code room heights (settled_state code s)

abbrev pub SoundCodeSettles : Type 0
SoundCodeSettles =
    (code : List Instruction) (room : ℕ) (heights : List (Option ℕ)) (s : State) → IsAt code room heights s → Settles code room heights s
