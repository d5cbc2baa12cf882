use Rattle.std.proofs.Common.{◌≡◌, ◌++◌, take}
use Rattle.checkin_rows.specs.Edges.{edges_of_ways}
use Rattle.checkin_rows.proofs.constraints.add_ways.Given as goal

abbrev pub invariant-loop-way : goal.invariant-loop-way
invariant-loop-way l = l.edges.items ≡ l.initial.edges.items ++ edges_of_ways l.nodes.points l.points (take l.way-index l.ways)
