use Rattle.std.proofs.Common.{◌∙◌, map}
use Rattle.resolved_tree.specs.Nodes.{expression_at}
use Rattle.name_resolution.specs.Found.{found, listed}
use Rattle.resolved_tree.specs.Parts.{a_word, a_node, both}
use Rattle.name_resolution.proofs.Kept.{grows_trans, later_as, in_later, both_in, alone_in}
use Rattle.name_resolution.proofs.Resolving.{passed_nothing}
use Rattle.name_resolution.proofs.names.print.Goals as goal

pub returns-clause-found : goal.returns-clause-found
returns-clause-found c =
    later_as found _ c.value.result _ _ c.value.ensures.found
    (λ u g.
    let g2 = grows_trans _ _ u c.value.ensures.grows g in
    let g1 = grows_trans _ _ u c.in_ok-format.ensures.grows g2 in
    let e1 = c.in_ok-list.ensures.tree u g1 ∙ passed_nothing (listed (map (expression_at u) c.args.ids.now)) in
    let e3 = c.in_ok-format.ensures.word u g2 in
    cc)

pub returns-in_err-list-clause-grows : goal.returns-in_err-list-clause-grows
returns-in_err-list-clause-grows c = c.in_err-list.ensures.grows

pub returns-in_err-format-clause-grows : goal.returns-in_err-format-clause-grows
returns-in_err-format-clause-grows c = grows_trans _ _ _ c.in_ok-list.ensures.grows c.in_err-format.ensures.grows

pub returns-clause-grows : goal.returns-clause-grows
returns-clause-grows c = grows_trans _ _ _ c.in_ok-list.ensures.grows (grows_trans _ _ _ c.in_ok-format.ensures.grows c.value.ensures.grows)

pub returns-clause-within : goal.returns-clause-within
returns-clause-within c = c.value.ensures.within

pub value-requires : goal.value-requires
value-requires c =
    alone_in _ (both (a_word c.in_ok-format.format) (a_node c.in_ok-list.list))
    (both_in _ (a_word c.in_ok-format.format) (a_node c.in_ok-list.list) c.in_ok-format.ensures.within (in_later _ _ (a_node c.in_ok-list.list) c.in_ok-format.ensures.grows c.in_ok-list.ensures.within))
