use Rattle.std.proofs.Common.{take}
use Rattle.version_copies.specs.SameBodies.{HaveSameBodies}
use Rattle.version_copies.proofs.bodies.copy_bodies.Given as goal

-- the bodies so far
abbrev pub invariant-loop-body : goal.invariant-loop-body
invariant-loop-body l = HaveSameBodies (take l.body-index l.bodies) l.copies.items
