use Rattle.std.proofs.Common.{ap}
use Rattle.c_semantics.specs.Resolved.{ExpressionThen}
use Rattle.resolved_tree.specs.Nodes.{arguments_at}
use Rattle.resolved_tree.specs.Parts.{a_node}
use Rattle.name_resolution.proofs.Kept.{grows_trans, in_later, both_in, right_in, later_as, left_in}
use Rattle.name_resolution.proofs.names.argument_before.Goals as goal

pub arguments-requires : goal.arguments-requires
arguments-requires c =
    both_in _ (a_node c.in_ok-first.first) (a_node c.args.others) c.in_ok-first.ensures.within
    (in_later _ _ _ c.in_ok-first.ensures.grows (right_in _ (a_node c.args.given_tree) (a_node c.args.others) c.requires))

pub returns-clause-tree : goal.returns-clause-tree
returns-clause-tree c =
    later_as arguments_at _ c.arguments.result _ _ c.arguments.ensures.tree
    (λ u g.
    ap (λ e. ExpressionThen e (arguments_at u c.args.others)) (c.in_ok-first.ensures.tree u (grows_trans _ _ u c.arguments.ensures.grows g)))

pub returns-in_err-first-clause-grows : goal.returns-in_err-first-clause-grows
returns-in_err-first-clause-grows c = c.in_err-first.ensures.grows

pub returns-clause-grows : goal.returns-clause-grows
returns-clause-grows c = grows_trans _ _ _ c.in_ok-first.ensures.grows c.arguments.ensures.grows

pub returns-clause-within : goal.returns-clause-within
returns-clause-within c = c.arguments.ensures.within

pub argument-requires : goal.argument-requires
argument-requires c =
    left_in _ (a_node c.args.given_tree) (a_node c.args.others) c.requires
