use Rattle.std.proofs.Common.{◌<◌, ◌/◌, ◌^◌, ◌+◌, ◌*◌, max, ℕ, arith, subst}
use Rattle.std.proofs.lemmas.Nat.{mod_below}
use Rattle.program_gen.specs.Generated.{callee, state_after}
use Rattle.program_gen.proofs.laws.calls_are_defined.Goals as goal

pub returns : goal.returns
returns c = λ seed size i within. (
  λ later. subst {A = ℕ} (λ m. callee seed i < m) (grind arith) (mod_below (state_after seed (3 * i + 1) / 2 ^ 33) (max i 1) (grind arith)),
  mod_below (state_after seed (3 * i + 3) / 2 ^ 33) size (omega arith),
)
