use Rattle.effect_flow.proofs.Places.{one_site}
use Rattle.effect_flow.proofs.Bodies.{flow_with_names}
use Rattle.effect_flow.proofs.FlowPoints.{places_are_all, point_is_site, next_is_way, way_has_ends}
use Rattle.effect_flow.proofs.laws.flows_are_exact.Goals as goal

pub returns-clause-one_point : goal.returns-clause-one_point
returns-clause-one_point c = one_site

pub returns-clause-places : goal.returns-clause-places
returns-clause-places c = λ names bodies flow f. places_are_all f

pub returns-clause-points : goal.returns-clause-points
returns-clause-points c = λ names bodies flow f p i x. point_is_site f

pub returns-clause-ways : goal.returns-clause-ways
returns-clause-ways c = λ names bodies flow f p q i j. next_is_way f

pub returns-clause-ends : goal.returns-clause-ends
returns-clause-ends c = λ names bodies flow f w. way_has_ends w f

pub returns-clause-names : goal.returns-clause-names
returns-clause-names c = λ names more bodies flow f table. flow_with_names names more bodies flow table f
