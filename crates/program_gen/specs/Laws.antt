-- A law of generated programs.
use Rattle.std.specs.Prelude.{ℕ, ◌<◌}
use Rattle.program_gen.specs.Generated.{callee, partner}

-- each function but the first calls an earlier one, so calls end; main calls functions of the program only
abbrev pub CallsAreDefined : Type 0
CallsAreDefined = (seed size i : ℕ) → i < size → (0 < i → callee seed i < i) × (partner seed size i < size)
