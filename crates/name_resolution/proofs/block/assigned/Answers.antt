use Rattle.std.proofs.Common.{ap, ◌∙◌}
use Rattle.std.specs.Option.{option_map_or}
use Rattle.c_tree.specs.Bare.{bare_type}
use Rattle.c_semantics.specs.Resolved.{Convert}
use Rattle.c_semantics.specs.Texts.{int}
use Rattle.c_semantics.specs.Resolution.{Resolved}
use Rattle.resolved_tree.specs.Nodes.{expression_at}
use Rattle.resolved_tree.specs.Parts.{in_type}
use Rattle.name_resolution.specs.Found.{found, in_found}
use Rattle.name_resolution.proofs.Kept.{grows_trans, in_later, both_in, later_as}
use Rattle.name_resolution.proofs.block.assigned.Goals as goal

pub converted-requires : goal.converted-requires
converted-requires c =
    both_in _ (in_type c.in_ok-to.to) (in_found c.in_ok-found.found) c.in_ok-to.ensures.within
    (in_later _ _ _ c.in_ok-to.ensures.grows c.in_ok-found.ensures.within)

pub returns-clause-tree : goal.returns-clause-tree
returns-clause-tree c =
    later_as expression_at _ c.converted.result _ _ c.converted.ensures.tree
    (λ u g.
    let g2 = grows_trans _ _ u c.converted.ensures.grows g in
    let g1 = grows_trans _ _ u c.in_ok-to.ensures.grows g2 in
    ap (λ type. Convert type (found u c.in_ok-found.found).tree) (c.in_ok-to.ensures.declared u g2)
    ∙ ap (λ (r : Resolved). Convert (option_map_or (λ t. bare_type t.now) c.args.to int) r.tree) (c.in_ok-found.ensures.found u g1))

pub returns-in_err-found-clause-grows : goal.returns-in_err-found-clause-grows
returns-in_err-found-clause-grows c = c.in_err-found.ensures.grows

pub returns-in_err-to-clause-grows : goal.returns-in_err-to-clause-grows
returns-in_err-to-clause-grows c = grows_trans _ _ _ c.in_ok-found.ensures.grows c.in_err-to.ensures.grows

pub returns-clause-grows : goal.returns-clause-grows
returns-clause-grows c = grows_trans _ _ _ c.in_ok-found.ensures.grows (grows_trans _ _ _ c.in_ok-to.ensures.grows c.converted.ensures.grows)

pub returns-clause-within : goal.returns-clause-within
returns-clause-within c = c.converted.ensures.within
