use Rattle.std.proofs.Common.{◌≡◌, ℕ, ◌≤◌, ◌-◌, vec_len, None}
use Rattle.code_verify.specs.Seen.{shapes_of}
use Rattle.code_verify.proofs.verifier.nothing.Given as goal

abbrev pub invariant-loop-known : goal.invariant-loop-known
invariant-loop-known l = (vec_len l.known ≤ l.places) × ((q : ℕ) → shapes_of l.known.items q ≡ None)

abbrev pub decreases-loop-known : goal.decreases-loop-known
decreases-loop-known l = l.places - vec_len l.known
