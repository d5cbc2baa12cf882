use Rattle.std.proofs.Common.{◌≡◌, take}
use Rattle.name_resolution.proofs.block.copied.Given as goal

abbrev pub invariant-loop-local : goal.invariant-loop-local
invariant-loop-local l = l.copy.items ≡ take l.local-index l.locals
