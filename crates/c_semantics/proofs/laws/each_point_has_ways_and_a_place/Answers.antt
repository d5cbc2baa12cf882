use Rattle.c_semantics.proofs.Along.{each_has_its_ways}
use Rattle.c_semantics.proofs.Ascending.{ways_ascend}
use Rattle.c_semantics.proofs.Placed.{each_has_a_place}
use Rattle.c_semantics.proofs.laws.each_point_has_ways_and_a_place.Goals as goal

pub returns-clause-ways : goal.returns-clause-ways
returns-clause-ways c = each_has_its_ways

pub returns-clause-ascend : goal.returns-clause-ascend
returns-clause-ascend c = ways_ascend

pub returns-clause-place : goal.returns-clause-place
returns-clause-place c = each_has_a_place
