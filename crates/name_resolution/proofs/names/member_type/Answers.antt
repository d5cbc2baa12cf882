use Rattle.std.proofs.Common.{ap, sym, ◌∙◌, map}
use Rattle.c_tree.specs.BareExpr.{Bytes}
use Rattle.c_tree.specs.BareDef.{BareBinding}
use Rattle.c_tree.specs.Bare.{bare_type, bare_binding}
use Rattle.c_semantics.specs.Names.{struct_name}
use Rattle.c_semantics.specs.Texts.{int, bound, bound_type, members_of}
use Rattle.resolved_tree.specs.Nodes.{type_of}
use Rattle.name_resolution.specs.Known.{known_of}
use Rattle.resolved_tree.specs.Trees.{table}
use Rattle.name_resolution.proofs.Kept.{grows_refl, grows_trans, later_as, word_kept}
use Rattle.name_resolution.proofs.Resolving.{or_same}
use Rattle.name_resolution.proofs.names.member_type.Goals as goal

pub returns-clause-declared : goal.returns-clause-declared
returns-clause-declared c =
    later_as type_of _ c.type_or_int.result _ _ c.type_or_int.ensures.declared
    (λ u g.
    let name = c.args.name.now in
    let look = known_of c.args.known.now in
    let kept = word_kept (table c.args.trees.now) u c.args.tag c.requires (grows_trans _ _ u c.type_or_int.ensures.grows g) in
    or_same (λ d. bare_type d.now) (λ (b : BareBinding). b.declared) _ (bound (map bare_binding c.members.result.now) name) int c.bound_in.ensures
    ∙ ap (λ ms. bound_type ms name) c.members.ensures
    ∙ ap (λ (key : Bytes). bound_type (members_of (look key)) name) (c.as_str.ensures.value ∙ c.in_ok-key.ensures)
    ∙ ap (λ (tag : Bytes). bound_type (members_of (look (struct_name tag))) name) (c.text.ensures ∙ sym kept))

pub returns-in_err-key-clause-grows : goal.returns-in_err-key-clause-grows
returns-in_err-key-clause-grows c = grows_refl _

pub returns-clause-grows : goal.returns-clause-grows
returns-clause-grows c = c.type_or_int.ensures.grows

pub returns-clause-within : goal.returns-clause-within
returns-clause-within c = c.type_or_int.ensures.within
