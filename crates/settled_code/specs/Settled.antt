-- The state in which private instructions end.
use Rattle.std.specs.Prelude.{ℕ, zero, suc, List, length}
use Rattle.bytecode.specs.Instructions.{Instruction}
use Rattle.bytecode.specs.Meaning.{State, Step, Goes, Traps, Rests, Lost, step}

-- go on where an instruction goes on, and stay where a burst ends
abbrev pub or_stay : Step → State → (State → State) → State
or_stay (Goes t) s k = k t
or_stay (Traps kind) s k = s
or_stay Rests s k = s
or_stay Lost s k = s

-- at most so many instructions
abbrev pub after_at_most : List Instruction → ℕ → State → State
after_at_most code zero s = s
after_at_most code (suc n) s = or_stay (step code s) s (after_at_most code n)

-- as many as the code has: private control goes forward, so that no burst has more. Proofs don't see the number, so that they don't
-- compute so many
unfoldable pub settled_state : List Instruction → State → State
settled_state code s = after_at_most code (length code) s
