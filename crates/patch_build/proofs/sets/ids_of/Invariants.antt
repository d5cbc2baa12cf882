use Rattle.std.proofs.Common.{All, Contains, take}
use Rattle.name_sets.specs.Texts.{IsTable}
use Rattle.patch_build.proofs.Ids.{HasIdsOf}
use Rattle.patch_build.proofs.sets.ids_of.Given as goal

-- the ids of the names so far
abbrev pub invariant-loop-name : goal.invariant-loop-name
invariant-loop-name l = IsTable l.names → All (Contains l.names) l.list → HasIdsOf l.names l.ids (take l.name-index l.list)
