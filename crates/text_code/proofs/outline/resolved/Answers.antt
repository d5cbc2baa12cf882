use Rattle.std.proofs.Common.{map, ap, ◌∙◌}
use Rattle.c_tree.specs.Bare.{bare_binding}
use Rattle.name_resolution.proofs.Kept.{grows_trans}
use Rattle.text_code.proofs.Outlining.{same_function}
use Rattle.text_code.proofs.outline.resolved.Goals as goal

pub returns-clause-made : goal.returns-clause-made
returns-clause-made c = λ u g.
    let g2 = grows_trans _ _ u c.returned.ensures.grows g in
    let g1 = grows_trans _ _ u c.parameters.ensures.grows g2 in
    let g0 = grows_trans _ _ u c.word.ensures.grows g1 in
    same_function (c.in_ok-name.ensures.word u g1 ∙ c.as_str.ensures)
    (c.in_ok-parameters.ensures.parameters u g2 ∙ ap (map bare_binding) c.as_slice.ensures)
    (c.in_ok-result.ensures.declared u g) (c.in_ok-body.ensures.body u g0)

pub returns-in_err-body-clause-grows : goal.returns-in_err-body-clause-grows
returns-in_err-body-clause-grows c = c.in_err-body.ensures.grows

pub returns-in_err-name-clause-grows : goal.returns-in_err-name-clause-grows
returns-in_err-name-clause-grows c = grows_trans _ _ _ c.in_ok-body.ensures.grows c.in_err-name.ensures.grows

pub returns-in_err-parameters-clause-grows : goal.returns-in_err-parameters-clause-grows
returns-in_err-parameters-clause-grows c =
    grows_trans _ _ _ c.in_ok-body.ensures.grows (grows_trans _ _ _ c.in_ok-name.ensures.grows c.in_err-parameters.ensures.grows)

pub returns-in_err-result-clause-grows : goal.returns-in_err-result-clause-grows
returns-in_err-result-clause-grows c =
    grows_trans _ _ _ c.in_ok-body.ensures.grows
    (grows_trans _ _ _ c.in_ok-name.ensures.grows (grows_trans _ _ _ c.in_ok-parameters.ensures.grows c.in_err-result.ensures.grows))

pub returns-clause-grows : goal.returns-clause-grows
returns-clause-grows c =
    grows_trans _ _ _ c.in_ok-body.ensures.grows
    (grows_trans _ _ _ c.in_ok-name.ensures.grows (grows_trans _ _ _ c.in_ok-parameters.ensures.grows c.in_ok-result.ensures.grows))
