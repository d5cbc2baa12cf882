use Rattle.std.proofs.Common.{ap}
use Rattle.c_semantics.specs.Resolved.{Return}
use Rattle.resolved_tree.specs.Nodes.{statement_at}
use Rattle.name_resolution.proofs.Kept.{grows_trans, later_as}
use Rattle.name_resolution.proofs.block.return_zero.Goals as goal

pub returns-clause-tree : goal.returns-clause-tree
returns-clause-tree c =
    later_as statement_at _ c.statement.result _ _ c.statement.ensures.tree
    (λ u g. ap Return (c.in_ok-x.ensures.tree u (grows_trans _ _ u c.statement.ensures.grows g)))

pub returns-in_err-x-clause-grows : goal.returns-in_err-x-clause-grows
returns-in_err-x-clause-grows c = c.in_err-x.ensures.grows

pub returns-clause-grows : goal.returns-clause-grows
returns-clause-grows c = grows_trans _ _ _ c.in_ok-x.ensures.grows c.statement.ensures.grows

pub returns-clause-within : goal.returns-clause-within
returns-clause-within c = c.statement.ensures.within
