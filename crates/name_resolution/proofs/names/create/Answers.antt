use Rattle.std.proofs.Common.{refl, ap, ◌∙◌, slice_get}
use Rattle.c_semantics.specs.Texts.{parameters_of}
use Rattle.c_semantics.specs.Resolution.{handed}
use Rattle.resolved_tree.specs.Nodes.{expression_at}
use Rattle.resolved_tree.specs.Parts.{nothing, a_word, a_node, in_place, both}
use Rattle.name_resolution.specs.Found.{found, in_found, given}
use Rattle.name_resolution.specs.Known.{known_of}
use Rattle.name_resolution.proofs.Kept.{grows_trans, in_later, both_in, left_in, right_in, later_as}
use Rattle.name_resolution.proofs.Resolving.{handed_given}
use Rattle.name_resolution.proofs.names.create.Goals as goal

pub tree-requires : goal.tree-requires
tree-requires c = in_later _ _ _ c.in_ok-place.ensures.grows (right_in _ (in_found c.args.thread) (in_found c.args.handed_over) c.requires)

pub value-requires : goal.value-requires
value-requires c =
    let place = in_later _ _ _ c.in_ok-name.ensures.grows (in_later _ _ _ c.in_ok-passed.ensures.grows (in_later _ _ _ c.in_ok-value_tree.ensures.grows c.in_ok-place.ensures.within)) in
    let passed = in_later _ _ _ c.in_ok-name.ensures.grows c.in_ok-passed.ensures.within in
    let parts = both_in _ (in_place c.in_ok-place.place) (both (a_word c.in_ok-name.name) (a_node c.in_ok-passed.passed)) place
    (both_in _ (a_word c.in_ok-name.name) (a_node c.in_ok-passed.passed) c.in_ok-name.ensures.within passed) in
    both_in _ (both (in_place c.in_ok-place.place) (both (a_word c.in_ok-name.name) (a_node c.in_ok-passed.passed))) nothing parts
    (record { words = refl; nodes = refl })

pub returns-clause-found : goal.returns-clause-found
returns-clause-found c =
    later_as found _ c.value.result _ _ c.value.ensures.found
    (λ u g.
    let g4 = grows_trans _ _ u c.value.ensures.grows g in
    let g3 = grows_trans _ _ u c.in_ok-name.ensures.grows g4 in
    let g2 = grows_trans _ _ u c.in_ok-passed.ensures.grows g3 in
    let g1 = grows_trans _ _ u c.in_ok-value_tree.ensures.grows g2 in
    let e1 = c.in_ok-place.ensures.place u g1 in
    let e2 = c.in_ok-value_tree.ensures.tree u g2 in
    let e4 = c.in_ok-name.ensures.word u g4 in
    let e3 = c.in_ok-passed.ensures.tree u g3
    ∙ ap (λ p. given p (expression_at u c.in_ok-value_tree.value_tree)) c.parameter_at.ensures
    ∙ ap (λ ps. given (slice_get ps 0) (expression_at u c.in_ok-value_tree.value_tree)) c.parameters.ensures
    ∙ handed_given (parameters_of (known_of c.args.known.now c.args.name.now)) (expression_at u c.in_ok-value_tree.value_tree)
    ∙ ap (handed (parameters_of (known_of c.args.known.now c.args.name.now))) e2 in
    cc)

pub place-requires : goal.place-requires
place-requires c = left_in _ (in_found c.args.thread) (in_found c.args.handed_over) c.requires

pub argument-requires : goal.argument-requires
argument-requires c = c.in_ok-value_tree.ensures.within

pub returns-in_err-place-clause-grows : goal.returns-in_err-place-clause-grows
returns-in_err-place-clause-grows c = c.in_err-place.ensures.grows

pub returns-in_err-value_tree-clause-grows : goal.returns-in_err-value_tree-clause-grows
returns-in_err-value_tree-clause-grows c = grows_trans _ _ _ c.in_ok-place.ensures.grows c.in_err-value_tree.ensures.grows

pub returns-in_err-passed-clause-grows : goal.returns-in_err-passed-clause-grows
returns-in_err-passed-clause-grows c =
    grows_trans _ _ _ c.in_ok-place.ensures.grows
    (grows_trans _ _ _ c.in_ok-value_tree.ensures.grows c.in_err-passed.ensures.grows)

pub returns-in_err-name-clause-grows : goal.returns-in_err-name-clause-grows
returns-in_err-name-clause-grows c =
    grows_trans _ _ _ c.in_ok-place.ensures.grows
    (grows_trans _ _ _ c.in_ok-value_tree.ensures.grows
    (grows_trans _ _ _ c.in_ok-passed.ensures.grows c.in_err-name.ensures.grows))

pub returns-clause-grows : goal.returns-clause-grows
returns-clause-grows c =
    grows_trans _ _ _ c.in_ok-place.ensures.grows
    (grows_trans _ _ _ c.in_ok-value_tree.ensures.grows
    (grows_trans _ _ _ c.in_ok-passed.ensures.grows
    (grows_trans _ _ _ c.in_ok-name.ensures.grows c.value.ensures.grows)))
