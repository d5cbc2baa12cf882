use Rattle.std.proofs.Common.{ap, ◌∙◌}
use Rattle.c_tree.specs.Bare.{bare_type}
use Rattle.c_semantics.specs.Resolved.{Declare}
use Rattle.resolved_tree.specs.Nodes.{word, expression_if, statement_at}
use Rattle.resolved_tree.specs.Parts.{a_node_if, a_word, in_type, both}
use Rattle.name_resolution.proofs.Kept.{grows_trans, in_later, both_in, later_as}
use Rattle.name_resolution.proofs.block.declaration.Goals as goal

pub statement-requires : goal.statement-requires
statement-requires c =
    let value = in_later _ _ (a_node_if c.in_ok-value.value) c.in_ok-name.ensures.grows (in_later _ _ (a_node_if c.in_ok-value.value) c.in_ok-declared.ensures.grows c.in_ok-value.ensures.within) in
    let declared = in_later _ _ _ c.in_ok-name.ensures.grows c.in_ok-declared.ensures.within in
    both_in _ (in_type c.in_ok-declared.declared) (both (a_word c.in_ok-name.name) (a_node_if c.in_ok-value.value)) declared
    (both_in _ (a_word c.in_ok-name.name) (a_node_if c.in_ok-value.value) c.in_ok-name.ensures.within value)

pub returns-clause-tree : goal.returns-clause-tree
returns-clause-tree c =
    later_as statement_at _ c.statement.result _ _ c.statement.ensures.tree
    (λ u g.
    let g3 = grows_trans _ _ u c.statement.ensures.grows g in
    let g2 = grows_trans _ _ u c.in_ok-name.ensures.grows g3 in
    let g1 = grows_trans _ _ u c.in_ok-declared.ensures.grows g2 in
    let d = c.args.declaration.now in
    ap (λ type. Declare type (word u c.in_ok-name.name) (expression_if u c.in_ok-value.value)) (c.in_ok-declared.ensures.declared u g2)
    ∙ ap (λ name. Declare (bare_type d.declared) name (expression_if u c.in_ok-value.value)) (c.in_ok-name.ensures.word u g3 ∙ c.as_str.ensures)
    ∙ c.in_ok-value.ensures.tree u g1)

pub returns-in_err-value-clause-grows : goal.returns-in_err-value-clause-grows
returns-in_err-value-clause-grows c = c.in_err-value.ensures.grows

pub returns-in_err-declared-clause-grows : goal.returns-in_err-declared-clause-grows
returns-in_err-declared-clause-grows c = grows_trans _ _ _ c.in_ok-value.ensures.grows c.in_err-declared.ensures.grows

pub returns-in_err-name-clause-grows : goal.returns-in_err-name-clause-grows
returns-in_err-name-clause-grows c = grows_trans _ _ _ c.in_ok-value.ensures.grows (grows_trans _ _ _ c.in_ok-declared.ensures.grows c.in_err-name.ensures.grows)

pub returns-clause-grows : goal.returns-clause-grows
returns-clause-grows c = grows_trans _ _ _ c.in_ok-value.ensures.grows (grows_trans _ _ _ c.in_ok-declared.ensures.grows (grows_trans _ _ _ c.in_ok-name.ensures.grows c.statement.ensures.grows))

pub returns-clause-within : goal.returns-clause-within
returns-clause-within c = c.statement.ensures.within
