use Rattle.std.proofs.Common.{◌≡◌, map, take}
use Rattle.version_copies.proofs.names.same_names.Given as goal

-- the texts so far are the same
abbrev pub invariant-loop-index : goal.invariant-loop-index
invariant-loop-index l = map (λ t. t) (take l.index l.names) ≡ map (λ t. t) (take l.index l.other)
