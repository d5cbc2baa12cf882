use Rattle.std.proofs.Common.{◌≡◌, map, take}
use Rattle.version_copies.proofs.bodies.same_points.Given as goal

-- the points so far are the same
abbrev pub invariant-loop-index : goal.invariant-loop-index
invariant-loop-index l = map (λ p. p) (take l.index l.points) ≡ map (λ p. p) (take l.index l.others)
