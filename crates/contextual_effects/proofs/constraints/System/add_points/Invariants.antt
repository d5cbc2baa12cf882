use Rattle.std.proofs.Common.{◌≡◌, ◌++◌, take}
use Rattle.contextual_effects.specs.Edges.{edges_of_points}
use Rattle.contextual_effects.proofs.constraints.System.add_points.Given as goal

abbrev pub invariant-loop-place : goal.invariant-loop-place
invariant-loop-place l =
    l.edges.items
    ≡ l.initial.edges.items ++ edges_of_points l.self l.nodes.points l.nodes.names l.nested l.points (take l.place l.points)
