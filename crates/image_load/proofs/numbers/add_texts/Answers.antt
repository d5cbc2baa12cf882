use Rattle.std.proofs.Common.{◌+◌, List, map, take, subst, ap, ◌∙◌}
use Rattle.std.specs.Prelude.{filter_map, flat_map}
use Rattle.c_tree.specs.Bare.{bare_def}
use Rattle.c_tree.specs.BareExpr.{Bytes}
use Rattle.c_tree.specs.declared.def.Program.{Program}
use Rattle.source_programs.specs.Programs.{text_in}
use Rattle.code_image.specs.Images.{with_more}
use Rattle.image_load.specs.Numbering.{IsTable, name_by}
use Rattle.image_load.proofs.NameNumbers.{next_item}
use Rattle.image_load.proofs.NamesOfTexts.{texts_more}
use Rattle.image_load.proofs.numbers.add_texts.Goals as goal

pub loop-text-preserved : goal.loop-text-preserved
loop-text-preserved c = λ names h.
    let f = filter_map (name_by c.args.named) in
    let texts = c.args.texts.now in
    let i = c.loop-text.text-index in
    let before = map text_in (take i texts) in
    let longer = next_item text_in texts i c.text-item.result c.loop-text-test.true c.text-item.is in
    subst (λ (ns : List Bytes). IsTable ns c.add_names.new.table)
    (ap (λ ds. with_more (with_more names (flat_map f before)) (f (map bare_def ds)))
    (c.as_slice.ensures ∙ ap (λ (p : Program). p.definitions) c.program-program.ensures.tree)
    ∙ texts_more f names before (map text_in (take (i + 1) texts)) (text_in c.text-item.result) longer)
    (c.in_ok-add_names.ensures _ (c.loop-text.invariant names h))
