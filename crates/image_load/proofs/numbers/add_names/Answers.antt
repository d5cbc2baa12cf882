use Rattle.std.proofs.Common.{◌+◌, List, map, take, subst, ap, ◌∙◌}
use Rattle.std.specs.Prelude.{filter_map}
use Rattle.std.specs.Option.{option_to_list}
use Rattle.c_tree.specs.Bare.{bare_def}
use Rattle.c_tree.specs.BareExpr.{Bytes}
use Rattle.code_image.specs.Images.{with_more}
use Rattle.image_load.specs.Numbering.{IsTable, name_by}
use Rattle.image_load.proofs.NameNumbers.{next_item}
use Rattle.image_load.proofs.NamesOfTexts.{names_more}
use Rattle.image_load.proofs.numbers.add_names.Goals as goal

pub loop-definition-preserved : goal.loop-definition-preserved
loop-definition-preserved c = λ names h.
    let f = name_by c.args.named in
    let text = c.args.text.now in
    let i = c.loop-definition.definition-index in
    let before = map bare_def (take i text) in
    let longer = next_item bare_def text i c.definition-item.result c.loop-definition-test.true c.definition-item.is in
    subst (λ (ns : List Bytes). IsTable ns c.add_if.new.self)
    (ap (λ o. with_more (with_more names (filter_map f before)) (option_to_list o)) c.name_in.ensures
    ∙ names_more f names before (map bare_def (take (i + 1) text)) (bare_def c.definition-item.result) longer)
    (c.in_ok-add_if.ensures _ (c.loop-definition.invariant names h))
