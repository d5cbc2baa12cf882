use Rattle.constant_ranges.proofs.Bodies as bodies
use Rattle.constant_ranges.proofs.laws.constants_are_in_range.Goals as goal

pub returns : goal.returns
returns c = bodies.constants_are_in_range
