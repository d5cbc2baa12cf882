use Rattle.std.proofs.Common.{◌≡◌, List, map, length, Some, option_map, refl, sym, ap, subst, ◌∙◌}
use Rattle.std.specs.Prelude.{All, filter_map, slice_get, string_bytes}
use Rattle.std.proofs.lemmas.Option.{slice_get-map, slice_get_read}
use Rattle.std.proofs.lemmas.Result.{IfErr-weaker, IfOk-weaker}
use Rattle.c_tree.specs.Bare.{bare_def}
use Rattle.c_tree.specs.BareExpr.{Bytes}
use Rattle.c_tree.specs.declared.def.Program.{Program}
use Rattle.source_model.specs.Worlds.{Cells, cells_at_first}
use Rattle.source_programs.specs.Globals.{globals_of}
use Rattle.source_programs.specs.Programs.{text_in}
use Rattle.code_image.specs.Images.{names_in}
use Rattle.image_load.specs.FirstCells.{ArePlain, HaveFirst}
use Rattle.image_load.proofs.FirstRows.{first_cells}
use Rattle.image_load.proofs.PlainCells.{first_cells_plain}
use Rattle.image_load.proofs.loading.first_cells.Goals as goal

pub returns-clause-cells : goal.returns-clause-cells
returns-clause-cells c =
    let texts = c.args.texts.now in
    let program = c.index-texts-0.result in
    let own = c.as_slice.ensures ∙ ap (λ (p : Program). p.definitions) c.program-program.ensures.tree in
    let globals = c.in_ok-globals.ensures ∙ ap (λ ds. filter_map cells_at_first (map bare_def ds)) own in
    let names = ap (map string_bytes) c.as_slice-2.ensures.value ∙ c.requires.numbers.cells.same in
    let at : slice_get (map text_in texts) 0 ≡ Some (text_in program) =
    slice_get-map text_in texts 0 ∙ ap (option_map text_in) (slice_get_read texts (length texts) 0 program refl c.requires.some c.index-texts-0.is) in
    IfOk-weaker c.first_rows.result _ _
    (λ rows h.
    first_cells (map text_in texts) (text_in program) (map (λ v. v.items) rows.items) at
    (subst (λ (gs : List Cells). HaveFirst gs (names_in (map text_in texts)).cells (map (λ v. v.items) rows.items)) globals
    (subst (λ (ns : List Bytes). HaveFirst (globals_of c.in_ok-globals.globals.list.items) ns (map (λ v. v.items) rows.items)) names h)))
    c.first_rows.ensures.rows

pub returns-clause-fault : goal.returns-clause-fault
returns-clause-fault c =
    let program = c.index-texts-0.result in
    let own = c.as_slice.ensures ∙ ap (λ (p : Program). p.definitions) c.program-program.ensures.tree in
    let globals = c.in_ok-globals.ensures ∙ ap (λ ds. filter_map cells_at_first (map bare_def ds)) own in
    IfErr-weaker c.first_rows.result _ _
    (λ fault h. h (subst (λ (gs : List Cells). All ArePlain gs) (sym globals) (first_cells_plain (text_in program))))
    c.first_rows.ensures.fault
