use Rattle.std.proofs.Common.{◌≡◌, ℕ, ◌≤◌, ◌-◌, vec_len, None}
use Rattle.code_verify.specs.Seen.{keeps_of}
use Rattle.code_verify.proofs.keeps.nothing.Given as goal

abbrev pub invariant-loop-keeps : goal.invariant-loop-keeps
invariant-loop-keeps l = (vec_len l.keeps ≤ l.places) × ((q : ℕ) → keeps_of l.keeps.items q ≡ None)

abbrev pub decreases-loop-keeps : goal.decreases-loop-keeps
decreases-loop-keeps l = l.places - vec_len l.keeps
