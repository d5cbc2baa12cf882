use Rattle.std.proofs.Common.{◌≡◌, ℕ, ◌<◌, ◌≤◌, drop, length, vec_len}
use Rattle.resolved_tree.specs.Nodes.{Table}
use Rattle.bytecode.specs.Seen.{code_of}
use Rattle.code_kinds.specs.WellFormed.{kept_from}
use Rattle.code_verify.specs.Seen.{keeps_of}
use Rattle.code_verify.proofs.keeps.keeps.Given as goal

abbrev pub invariant-loop-place : goal.invariant-loop-place
invariant-loop-place l =
    (l.place ≤ length l.code) × (vec_len l.keeps ≡ length l.code)
    × ((t : Table) (q : ℕ) → q < length l.code → keeps_of l.keeps.items q ≡ kept_from (drop l.place (code_of t l.code)) l.place q)

abbrev pub decreases-loop-place : goal.decreases-loop-place
decreases-loop-place l = l.place
