use Rattle.std.proofs.Common.{◌≡◌, ap, ◌∙◌}
use Rattle.c_tree.specs.BareExpr.{Bytes}
use Rattle.c_semantics.specs.Names.{struct_name}
use Rattle.c_semantics.specs.Texts.{bound_type, members_of}
use Rattle.c_semantics.specs.Resolution.{tag_of}
use Rattle.resolved_tree.specs.Nodes.{word}
use Rattle.resolved_tree.specs.Parts.{a_word, a_node, in_type, both}
use Rattle.name_resolution.specs.Found.{found}
use Rattle.name_resolution.specs.Known.{known_of}
use Rattle.name_resolution.proofs.Kept.{grows_trans, in_later, both_in}
use Rattle.name_resolution.proofs.names.field.Goals as goal

pub tag-requires : goal.tag-requires
tag-requires c = c.declared.ensures.within _ c.requires

pub tree-requires : goal.tree-requires
tree-requires c = in_later _ _ _ c.in_ok-declared.ensures.grows (in_later _ _ _ c.in_ok-tag.ensures.grows c.requires)

pub returns-clause-found : goal.returns-clause-found
returns-clause-found c = λ u g.
    let g3 = grows_trans _ _ u c.in_ok-name.ensures.grows g in
    let g2 = grows_trans _ _ u c.in_ok-handle.ensures.grows g3 in
    let g1 = grows_trans _ _ u c.in_ok-declared.ensures.grows g2 in
    let look = known_of c.args.known.now in
    let tagged : word u c.in_ok-tag.tag ≡ tag_of (found u c.args.of).type = c.in_ok-tag.ensures.word u g1 ∙ ap tag_of (c.declared.ensures.declared u) in
    let typed = c.in_ok-declared.ensures.declared u g2 ∙ ap (λ (tag : Bytes). bound_type (members_of (look (struct_name tag))) c.args.name.now) tagged in
    let e3 = c.in_ok-handle.ensures.tree u g3 in
    let e4 = c.in_ok-name.ensures.word u g in
    cc

pub returns-clause-within : goal.returns-clause-within
returns-clause-within c =
    let tag = in_later _ _ _ c.in_ok-name.ensures.grows (in_later _ _ _ c.in_ok-handle.ensures.grows (in_later _ _ _ c.in_ok-declared.ensures.grows c.in_ok-tag.ensures.within)) in
    let type = in_later _ _ _ c.in_ok-name.ensures.grows (in_later _ _ _ c.in_ok-handle.ensures.grows c.in_ok-declared.ensures.within) in
    let handle = in_later _ _ _ c.in_ok-name.ensures.grows c.in_ok-handle.ensures.within in
    both_in _ (both (a_word c.in_ok-tag.tag) (both (a_node c.in_ok-handle.handle) (a_word c.in_ok-name.name))) (in_type c.in_ok-declared.declared)
    (both_in _ (a_word c.in_ok-tag.tag) (both (a_node c.in_ok-handle.handle) (a_word c.in_ok-name.name)) tag
    (both_in _ (a_node c.in_ok-handle.handle) (a_word c.in_ok-name.name) handle c.in_ok-name.ensures.within)) type

pub returns-in_err-tag-clause-grows : goal.returns-in_err-tag-clause-grows
returns-in_err-tag-clause-grows c = c.in_err-tag.ensures.grows

pub returns-in_err-declared-clause-grows : goal.returns-in_err-declared-clause-grows
returns-in_err-declared-clause-grows c = grows_trans _ _ _ c.in_ok-tag.ensures.grows c.in_err-declared.ensures.grows

pub returns-in_err-handle-clause-grows : goal.returns-in_err-handle-clause-grows
returns-in_err-handle-clause-grows c = grows_trans _ _ _ c.in_ok-tag.ensures.grows (grows_trans _ _ _ c.in_ok-declared.ensures.grows c.in_err-handle.ensures.grows)

pub returns-in_err-name-clause-grows : goal.returns-in_err-name-clause-grows
returns-in_err-name-clause-grows c = grows_trans _ _ _ c.in_ok-tag.ensures.grows (grows_trans _ _ _ c.in_ok-declared.ensures.grows (grows_trans _ _ _ c.in_ok-handle.ensures.grows c.in_err-name.ensures.grows))

pub returns-clause-grows : goal.returns-clause-grows
returns-clause-grows c = grows_trans _ _ _ c.in_ok-tag.ensures.grows (grows_trans _ _ _ c.in_ok-declared.ensures.grows (grows_trans _ _ _ c.in_ok-handle.ensures.grows c.in_ok-name.ensures.grows))
