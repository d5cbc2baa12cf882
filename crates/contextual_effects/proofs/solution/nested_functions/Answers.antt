use Rattle.contextual_effects.proofs.Solutions.{tokens_fit, nested_found}
use Rattle.contextual_effects.proofs.solution.nested_functions.Goals as goal

pub least_sets-requires : goal.least_sets-requires
least_sets-requires c = record { fit = tokens_fit c.empty-none.result c.requires c.in_ok-seeds.ensures c.in_ok-edges.ensures }

pub returns : goal.returns
returns c =
    nested_found c.empty-none.result c.marked.result c.requires c.in_ok-seeds.ensures c.in_ok-edges.ensures c.in_ok-sets.ensures.least
    c.deref.ensures.value c.marked.ensures
