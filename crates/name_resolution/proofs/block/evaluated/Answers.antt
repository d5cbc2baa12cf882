use Rattle.std.proofs.Common.{ap}
use Rattle.c_semantics.specs.Resolution.{Resolved}
use Rattle.resolved_tree.specs.Nodes.{expression_at}
use Rattle.name_resolution.proofs.Kept.{grows_trans, later_as}
use Rattle.name_resolution.proofs.block.evaluated.Goals as goal

pub returns-clause-tree : goal.returns-clause-tree
returns-clause-tree c =
    later_as expression_at _ c.tree.result _ _ c.tree.ensures.tree
    (λ u g. ap (λ (r : Resolved). r.tree) (c.in_ok-found.ensures.found u (grows_trans _ _ u c.tree.ensures.grows g)))

pub returns-in_err-found-clause-grows : goal.returns-in_err-found-clause-grows
returns-in_err-found-clause-grows c = c.in_err-found.ensures.grows

pub returns-clause-grows : goal.returns-clause-grows
returns-clause-grows c = grows_trans _ _ _ c.in_ok-found.ensures.grows c.tree.ensures.grows

pub returns-clause-within : goal.returns-clause-within
returns-clause-within c = c.tree.ensures.within
