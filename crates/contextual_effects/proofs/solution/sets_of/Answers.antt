use Rattle.contextual_effects.proofs.Solutions.{seeds_fit}
use Rattle.contextual_effects.proofs.solution.sets_of.Goals as goal

pub least_sets-requires : goal.least_sets-requires
least_sets-requires c = record {
  fit = seeds_fit c.args.system c.args.nested.now c.requires.points c.requires.numbers c.requires.whole c.in_ok-seeds.ensures
      c.in_ok-edges.ensures;
}
