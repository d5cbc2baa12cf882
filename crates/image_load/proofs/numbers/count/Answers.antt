use Rattle.std.proofs.Common.{◌≡◌, [], map, length, ap, ◌∙◌, arith}
use Rattle.std.specs.Vec.{vec_len}
use Rattle.std.specs.Prelude.{filter_map, flat_map}
use Rattle.c_tree.specs.Bare.{bare_def}
use Rattle.c_tree.specs.declared.def.Program.{Program}
use Rattle.source_programs.specs.Programs.{text_in}
use Rattle.code_image.specs.Images.{with_more}
use Rattle.image_load.specs.Numbering.{name_by}
use Rattle.image_load.proofs.NamesOfTexts.{counted, each_added}
use Rattle.image_load.proofs.numbers.count.Goals as goal

pub returns : goal.returns
returns c =
    let f = filter_map (name_by c.args.named) in
    let made = c.in_ok-add_texts.ensures _ (c.in_ok-add_names.ensures [] c.new-table.ensures) in
    let own = c.as_slice.ensures ∙ ap (λ (p : Program). p.definitions) c.program-program.ensures.tree in
    let items : vec_len c.add_texts.new.table.names ≡ length c.add_texts.new.table.names.items = omega (arith, c.add_texts.new.table.names.ok.0) in
    c.len.ensures ∙ items ∙ counted _ _ made
    ∙ ap (λ ds. length (with_more (with_more [] (f (map bare_def ds))) (flat_map f (map text_in c.args.offers.now)))) own
    ∙ ap length (each_added f (text_in c.args.text.now) (map text_in c.args.offers.now))
