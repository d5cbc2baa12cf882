use Rattle.std.proofs.Common.{◌≡◌, ◌++◌, take}
use Rattle.contextual_effects.specs.Edges.{edges_of_ways}
use Rattle.contextual_effects.proofs.constraints.System.add_ways.Given as goal

abbrev pub invariant-loop-way : goal.invariant-loop-way
invariant-loop-way l =
    l.edges.items
    ≡ l.initial.edges.items ++ edges_of_ways l.self l.nodes.points l.nodes.names l.nested l.points (take l.way-index l.ways)
