use Rattle.std.proofs.Common.{take}
use Rattle.version_copies.specs.SameBodies.{HaveSameBodies}
use Rattle.version_copies.proofs.bodies.same_bodies.Given as goal

-- the bodies so far are the same
abbrev pub invariant-loop-index : goal.invariant-loop-index
invariant-loop-index l = HaveSameBodies (take l.index l.bodies) (take l.index l.others)
