use Rattle.std.proofs.Common.{◌≡◌, map, Some, option_map, sym, ap, ◌∙◌}
use Rattle.std.proofs.lemmas.Result.{err_from_is_err_and}
use Rattle.c_tree.specs.Bare.{bare_def, bare_kind}
use Rattle.c_semantics.specs.Names.{struct_name}
use Rattle.c_semantics.specs.Texts.{definition}
use Rattle.image_load.proofs.text_tables.layout_in.Goals as goal

pub returns-in_err-made-clause-fault : goal.returns-in_err-made-clause-fault
returns-in_err-made-clause-fault c =
    let text = map bare_def c.args.known.now in
    let tag = c.args.tag.now in
    let found : definition text (struct_name tag) ≡ Some (bare_kind c.in-Some.own.now.kind) =
    sym (ap (definition text) (c.as_str.ensures.value ∙ c.in_ok-key.ensures)) ∙ sym c.definition.ensures
    ∙ ap (option_map (λ d. bare_def d.now)) c.in-Some.is in
    let p = err_from_is_err_and c.from_residual-in_err-made.result c.from_residual-in_err-made.ensures.1 in
    rw (p.1, p.2) (λ small. c.in_err-made.ensures.fault text (small (bare_kind c.in-Some.own.now.kind) found))
