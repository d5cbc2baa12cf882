use Rattle.std.proofs.Common.{◌≡◌, ◌++◌, take}
use Rattle.checkin_rows.specs.Edges.{edges_of_points}
use Rattle.checkin_rows.proofs.constraints.add_points.Given as goal

abbrev pub invariant-loop-place : goal.invariant-loop-place
invariant-loop-place l =
    l.edges.items ≡ l.initial.edges.items ++ edges_of_points l.nodes.points l.nodes.names l.points (take l.place l.points)
