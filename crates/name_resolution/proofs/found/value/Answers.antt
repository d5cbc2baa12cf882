use Rattle.std.proofs.Common.{ap}
use Rattle.c_semantics.specs.Resolution.{value}
use Rattle.resolved_tree.specs.Nodes.{type_of}
use Rattle.resolved_tree.specs.Parts.{a_node, in_expression, in_type}
use Rattle.name_resolution.proofs.Kept.{in_later, both_in, left_in, right_in}
use Rattle.name_resolution.proofs.found.value.Goals as goal

pub expression-requires : goal.expression-requires
expression-requires c = left_in _ (in_expression c.args.node) (in_type c.args.declared) c.requires

pub returns-clause-found : goal.returns-clause-found
returns-clause-found c = λ u g. ap (λ e. value e (type_of u c.args.declared)) (c.in_ok-id.ensures.tree u g)

pub returns-clause-within : goal.returns-clause-within
returns-clause-within c =
    both_in _ (a_node c.in_ok-id.id) (in_type c.args.declared) c.in_ok-id.ensures.within
    (in_later _ _ (in_type c.args.declared) c.in_ok-id.ensures.grows (right_in _ (in_expression c.args.node) (in_type c.args.declared) c.requires))

pub returns-clause-grows : goal.returns-clause-grows
returns-clause-grows c = c.in_ok-id.ensures.grows

pub returns-in_err-id-clause-grows : goal.returns-in_err-id-clause-grows
returns-in_err-id-clause-grows c = c.in_err-id.ensures.grows
