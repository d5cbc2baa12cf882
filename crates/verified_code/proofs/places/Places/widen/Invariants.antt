use Rattle.std.proofs.Common.{◌≡◌, ℕ, suc, ◌-◌, length}
use Rattle.verified_code.specs.Places.{place_in}
use Rattle.verified_code.proofs.places.Places.widen.Given as goal

abbrev pub invariant-loop-alloc : goal.invariant-loop-alloc
invariant-loop-alloc l = (f g : ℕ) → place_in l.self-inside.rows.items f g ≡ place_in l.initial.self-inside.rows.items f g

abbrev pub decreases-loop-alloc : goal.decreases-loop-alloc
decreases-loop-alloc l = suc l.function - length l.self-inside.rows.items
