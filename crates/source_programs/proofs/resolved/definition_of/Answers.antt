use Rattle.std.proofs.Common.{map, ap, sym, subst, ◌∙◌}
use Rattle.c_tree.specs.BareDef.{BareDef, Struct}
use Rattle.c_tree.specs.Bare.{bare_binding, bare_kind}
use Rattle.name_resolution.specs.Known.{known_of}
use Rattle.source_programs.specs.Definitions.{Defines}
use Rattle.source_programs.proofs.resolved.definition_of.Goals as goal

pub returns-in_ok-made-in-Struct-clause-made : goal.returns-in_ok-made-in-Struct-clause-made
returns-in_ok-made-in-Struct-clause-made c = λ u g.
    let look = known_of c.args.known.now in
    let P : BareDef → Type 0 = λ own. Defines u look c.in_ok-made-in-Struct.made own in
    subst P
    (ap (λ tag. Struct tag (map bare_binding c.as_slice.result.now)) c.as_str.ensures
    ∙ ap (λ ms. Struct c.in-Struct.tag.text (map bare_binding ms)) c.as_slice.ensures
    ∙ sym (ap bare_kind c.in-Struct.is))
    (c.in_ok-made-in-Struct.ensures.made u g look)
