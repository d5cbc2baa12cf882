use Rattle.std.proofs.Common.{ℕ, ◌<◌}
use Rattle.code_machine.specs.Kept.{IsDueAt}
use Rattle.code_machine.proofs.state.RunState.is_settled.Given as goal

abbrev pub invariant-loop-slot : goal.invariant-loop-slot
invariant-loop-slot l = (n : ℕ) → n < l.slot → IsDueAt l.self n → ⊥
