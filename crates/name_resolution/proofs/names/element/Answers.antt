use Rattle.resolved_tree.specs.Parts.{a_word, a_node, in_type, both}
use Rattle.name_resolution.proofs.Kept.{grows_trans, in_later, both_in}
use Rattle.name_resolution.proofs.names.element.Goals as goal

pub returns-clause-found : goal.returns-clause-found
returns-clause-found c = λ u g.
    let g2 = grows_trans _ _ u c.in_ok-name.ensures.grows g in
    let g1 = grows_trans _ _ u c.in_ok-declared.ensures.grows g2 in
    let e1 = c.in_ok-index.ensures.tree u g1 in
    let e2 = c.in_ok-declared.ensures.declared u g2 in
    let e3 = c.in_ok-name.ensures.word u g in
    let e4 = c.global_type.ensures in
    cc

pub returns-clause-within : goal.returns-clause-within
returns-clause-within c =
    let i = in_later _ _ _ c.in_ok-name.ensures.grows (in_later _ _ _ c.in_ok-declared.ensures.grows c.in_ok-index.ensures.within) in
    both_in _ (both (a_word c.in_ok-name.name) (a_node c.in_ok-index.index)) (in_type c.in_ok-declared.declared)
    (both_in _ (a_word c.in_ok-name.name) (a_node c.in_ok-index.index) c.in_ok-name.ensures.within i)
    (in_later _ _ _ c.in_ok-name.ensures.grows c.in_ok-declared.ensures.within)

pub returns-in_err-index-clause-grows : goal.returns-in_err-index-clause-grows
returns-in_err-index-clause-grows c = c.in_err-index.ensures.grows

pub returns-in_err-declared-clause-grows : goal.returns-in_err-declared-clause-grows
returns-in_err-declared-clause-grows c = grows_trans _ _ _ c.in_ok-index.ensures.grows c.in_err-declared.ensures.grows

pub returns-in_err-name-clause-grows : goal.returns-in_err-name-clause-grows
returns-in_err-name-clause-grows c = grows_trans _ _ _ c.in_ok-index.ensures.grows (grows_trans _ _ _ c.in_ok-declared.ensures.grows c.in_err-name.ensures.grows)

pub returns-clause-grows : goal.returns-clause-grows
returns-clause-grows c = grows_trans _ _ _ c.in_ok-index.ensures.grows (grows_trans _ _ _ c.in_ok-declared.ensures.grows c.in_ok-name.ensures.grows)
