use Rattle.std.proofs.Common.{ap}
use Rattle.c_semantics.specs.Resolved.{Convert}
use Rattle.resolved_tree.specs.Nodes.{expression_at, type_of}
use Rattle.name_resolution.specs.Found.{in_found}
use Rattle.resolved_tree.specs.Parts.{a_node, in_type}
use Rattle.name_resolution.proofs.Kept.{grows_trans, later_as, in_later, both_in, left_in, right_in}
use Rattle.name_resolution.proofs.found.converted.Goals as goal

pub returns-clause-tree : goal.returns-clause-tree
returns-clause-tree c =
    later_as expression_at _ c.expression.result _ _ c.expression.ensures.tree
    (λ u g. ap (Convert (type_of u c.args.to)) (c.in_ok-value.ensures.tree u (grows_trans _ _ u c.expression.ensures.grows g)))

pub returns-in_err-value-clause-grows : goal.returns-in_err-value-clause-grows
returns-in_err-value-clause-grows c = c.in_err-value.ensures.grows

pub returns-clause-grows : goal.returns-clause-grows
returns-clause-grows c = grows_trans _ _ _ c.in_ok-value.ensures.grows c.expression.ensures.grows

pub returns-clause-within : goal.returns-clause-within
returns-clause-within c = c.expression.ensures.within

pub tree-requires : goal.tree-requires
tree-requires c =
    right_in _ (in_type c.args.to) (in_found c.args.of) c.requires

pub expression-requires : goal.expression-requires
expression-requires c =
    both_in _ (in_type c.args.to) (a_node c.in_ok-value.value)
    (in_later _ _ (in_type c.args.to) c.in_ok-value.ensures.grows (left_in _ (in_type c.args.to) (in_found c.args.of) c.requires)) c.in_ok-value.ensures.within
