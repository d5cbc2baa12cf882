use Rattle.std.proofs.Common.{◌≡◌, take}
use Rattle.version_copies.proofs.names.copy_names.Given as goal

-- the texts so far, in their places
abbrev pub invariant-loop-index : goal.invariant-loop-index
invariant-loop-index l = l.copy ≡ take l.index l.names
