use Rattle.std.proofs.Common.{List, sym, subst}
use Rattle.set_constraints.specs.Constraints.{Fit}
use Rattle.set_constraints.specs.declared.constraint.Edge.{Edge}
use Rattle.checkin_rows.specs.Edges.{node_count}
use Rattle.checkin_rows.proofs.Fits.{edges_fit}
use Rattle.checkin_rows.proofs.solution.net_of.Goals as goal

pub new-requires : goal.new-requires
new-requires c =
    let points = c.args.nodes.now.points in
    let ids = c.args.nodes.now.names in
    subst (λ (edges : List Edge). Fit (node_count points ids) edges) (sym c.in_ok-edges.ensures) (edges_fit points ids c.args.flow.now c.requires)
