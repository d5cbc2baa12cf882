use Rattle.std.proofs.Common.{ap, sym, ◌∙◌, Option, option_map, Bor}
use Rattle.c_tree.specs.declared.def.Binding.{Binding}
use Rattle.c_tree.specs.Bare.{bare_binding}
use Rattle.c_semantics.specs.Resolved.{Convert}
use Rattle.resolved_tree.specs.Nodes.{expression_at}
use Rattle.name_resolution.specs.Found.{given}
use Rattle.resolved_tree.specs.Parts.{a_node, in_type}
use Rattle.name_resolution.proofs.Kept.{grows_trans, later_as, in_later, both_in}
use Rattle.name_resolution.proofs.names.argument.Goals as goal

pub returns-in_ok-to-in-Some-clause-tree : goal.returns-in_ok-to-in-Some-clause-tree
returns-in_ok-to-in-Some-clause-tree c =
    later_as expression_at _ c.expression.result _ _ c.expression.ensures.tree
    (λ u g.
    ap (λ type. Convert type (expression_at u c.args.given_tree)) (c.in_ok-to-in-Some.ensures.declared u (grows_trans _ _ u c.expression.ensures.grows g))
    ∙ ap (λ (p : Option (Bor Binding)). given (option_map (λ b. bare_binding b.now) p) (expression_at u c.args.given_tree)) (sym c.in-Some.is))

pub returns-in_err-to-in-Some-clause-grows : goal.returns-in_err-to-in-Some-clause-grows
returns-in_err-to-in-Some-clause-grows c = c.in_err-to-in-Some.ensures.grows

pub returns-in_ok-to-in-Some-clause-grows : goal.returns-in_ok-to-in-Some-clause-grows
returns-in_ok-to-in-Some-clause-grows c = grows_trans _ _ _ c.in_ok-to-in-Some.ensures.grows c.expression.ensures.grows

pub returns-in_ok-to-in-Some-clause-within : goal.returns-in_ok-to-in-Some-clause-within
returns-in_ok-to-in-Some-clause-within c = c.expression.ensures.within

pub expression-requires : goal.expression-requires
expression-requires c =
    both_in _ (in_type c.in_ok-to-in-Some.to) (a_node c.args.given_tree) c.in_ok-to-in-Some.ensures.within (in_later _ _ (a_node c.args.given_tree) c.in_ok-to-in-Some.ensures.grows c.requires)
