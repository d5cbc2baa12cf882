use Rattle.std.proofs.Common.{◌≡◌, ℕ, suc, ◌-◌, length}
use Rattle.verified_code.specs.Places.{place_at}
use Rattle.verified_code.proofs.places.Row.widen.Given as goal

abbrev pub invariant-loop-self : goal.invariant-loop-self
invariant-loop-self l = (g : ℕ) → place_at l.self-inside.places.items g ≡ place_at l.initial.self-inside.places.items g

abbrev pub decreases-loop-self : goal.decreases-loop-self
decreases-loop-self l = suc l.generation - length l.self-inside.places.items
