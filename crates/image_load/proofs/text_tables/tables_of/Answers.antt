use Rattle.std.proofs.Common.{◌≡◌, ◌∷◌, ◌++◌, [], List, map, take, length, Some, option_map, refl, sym, ap, subst, ◌∙◌}
use Rattle.std.specs.Prelude.{Contains, slice_get}
use Rattle.std.proofs.lemmas.Option.{slice_get-map, slice_get_read}
use Rattle.std.proofs.lemmas.Result.{err_from_is_err_and}
use Rattle.c_tree.specs.Bare.{bare_def}
use Rattle.c_tree.specs.BareDef.{BareDef}
use Rattle.c_tree.specs.declared.def.Program.{Program}
use Rattle.c_semantics.specs.Names.{struct_name}
use Rattle.c_semantics.specs.Texts.{definition}
use Rattle.source_programs.specs.Programs.{text_in}
use Rattle.code_image.specs.Images.{names_in}
use Rattle.accepted_stops.specs.FittingCode.{StructIsSmall}
use Rattle.image_load.specs.declared.text_data.TextData.{TextData}
use Rattle.image_load.specs.TextTables.{HaveTables, IsDataOf}
use Rattle.image_load.proofs.ListedNames.{names_listed}
use Rattle.image_load.proofs.NameLists.{found_contained}
use Rattle.image_load.proofs.NameNumbers.{next_item}
use Rattle.image_load.proofs.Rows.{more_tables}
use Rattle.image_load.proofs.Whole.{accepted_one}
use Rattle.image_load.proofs.text_tables.tables_of.Goals as goal

pub loop-text-preserved : goal.loop-text-preserved
loop-text-preserved c =
    let texts = c.args.texts.now in
    let all = map text_in texts in
    let i = c.loop-text.text-index in
    let program = c.text-item.result in
    let names = names_in all in
    let d = c.in_ok-tables.tables in
    let own : map bare_def c.as_slice.result.now ≡ text_in program =
    ap (map bare_def) (c.as_slice.ensures ∙ ap (λ (p : Program). p.definitions) c.program-program.ensures.tree) in
    let at : slice_get all i ≡ Some (text_in program) =
    slice_get-map text_in texts i ∙ ap (option_map text_in) (slice_get_read texts (length texts) i program refl c.loop-text-test.true c.text-item.is) in
    let next = next_item text_in texts i program c.loop-text-test.true c.text-item.is in
    let is : IsDataOf names (text_in program) d =
    subst (λ (ds : List BareDef). IsDataOf names ds d) own
    (c.in_ok-tables.ensures.tables names c.requires.numbers (names_listed all _ (subst (λ (ds : List BareDef). Contains all ds) (sym own) (found_contained all i (text_in program) at)))) in
    subst (λ (ts : List (List BareDef)). HaveTables names ts c.push.new.self.items) (sym next)
    (subst (λ (ds : List TextData). HaveTables names (map text_in (take i texts) ++ text_in program ∷ []) ds) (sym c.in_ok-push.ensures.items)
    (more_tables names (map text_in (take i texts)) c.loop-text.made.items (text_in program) d c.loop-text.invariant is))

pub returns-in_err-tables-clause-fault : goal.returns-in_err-tables-clause-fault
returns-in_err-tables-clause-fault c =
    let texts = c.args.texts.now in
    let all = map text_in texts in
    let i = c.loop-text.text-index in
    let program = c.text-item.result in
    let own : map bare_def c.as_slice.result.now ≡ text_in program =
    ap (map bare_def) (c.as_slice.ensures ∙ ap (λ (p : Program). p.definitions) c.program-program.ensures.tree) in
    let at : slice_get all i ≡ Some (text_in program) =
    slice_get-map text_in texts i ∙ ap (option_map text_in) (slice_get_read texts (length texts) i program refl c.loop-text-test.true c.text-item.is) in
    let p = err_from_is_err_and c.from_residual-in_err-tables.result c.from_residual-in_err-tables.ensures.1 in
    rw (p.1, p.2) (λ of.
    let one = accepted_one of.whole all i (text_in program) of.accepted of.are at in
    let is = one.is ∙ sym own in
    c.in_err-tables.ensures.fault (λ tag d found.
    subst (λ (ds : List BareDef). StructIsSmall ds tag d) is
    (c.accepted_structs_are_small.ensures one.whole tag d one.accepted (ap (λ (ds : List BareDef). definition ds (struct_name tag)) is ∙ found))))
