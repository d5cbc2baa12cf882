use Rattle.std.proofs.Common.{◌↔◌, List, slice_index, sym, subst, ◌∙◌}
use Rattle.name_sets.specs.IdSet.{Holds}
use Rattle.set_constraints.specs.Constraints.{Reaches}
use Rattle.set_constraints.specs.declared.constraint.Edge.{Edge}
use Rattle.checkin_rows.proofs.Fits.{seeds_many}
use Rattle.checkin_rows.proofs.solution.sets_of.Goals as goal

pub least_sets-requires : goal.least_sets-requires
least_sets-requires c = record {
  nodes = seeds_many c.args.nodes.now.points c.args.nodes.now.names c.args.own.now c.in_ok-seeds.seeds.items c.in_ok-seeds.ensures ∙ sym c.requires;
}

pub returns : goal.returns
returns c = λ flow is_net. record {
  seeds = c.in_ok-seeds.seeds.items;
  are_seeds = c.in_ok-seeds.ensures;
  least = λ n id. subst (λ (edges : List Edge). Holds (slice_index c.in_ok-sets.sets.items n) id ↔ Reaches c.in_ok-seeds.seeds.items edges n id) is_net.edges (c.in_ok-sets.ensures.least n id);
}
