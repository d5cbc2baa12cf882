use Rattle.std.proofs.Common.{◌≡◌, ◌++◌, drop}
use Rattle.effect_flow.specs.Parts.{ways_to}
use Rattle.effect_flow.proofs.adding.add_ways_to.Given as goal

abbrev pub invariant-loop-target : goal.invariant-loop-target
invariant-loop-target l =
    l.ways.items ++ ways_to l.before l.size l.from (drop l.target-index l.targets)
    ≡ l.initial.ways.items ++ ways_to l.before l.size l.from l.targets
