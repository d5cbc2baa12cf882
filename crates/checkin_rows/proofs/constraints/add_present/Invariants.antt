use Rattle.std.proofs.Common.{◌≡◌, ◌++◌, take}
use Rattle.contextual_effects.specs.Edges.{present}
use Rattle.checkin_rows.proofs.constraints.add_present.Given as goal

abbrev pub invariant-loop-edge : goal.invariant-loop-edge
invariant-loop-edge l = l.edges.items ≡ l.initial.edges.items ++ present (take l.edge-index l.found)
