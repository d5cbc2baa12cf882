use Rattle.std.proofs.Common.{◌≡◌, ◌<◌, List, map, length, Some, option_map, refl, sym, ap, subst, ◌∙◌, arith}
use Rattle.std.specs.Prelude.{All, IfOk, bytes_eq, slice_get}
use Rattle.std.proofs.lemmas.List.{length-map}
use Rattle.std.proofs.lemmas.Option.{slice_get-map, slice_get_read}
use Rattle.std.proofs.lemmas.Result.{IfErr-weaker}
use Rattle.c_semantics.specs.Values.{Value}
use Rattle.local_evaluation.specs.Values.{seen}
use Rattle.bytecode.specs.Words.{Naming, word_of}
use Rattle.source_programs.specs.Globals.{cells_of, globals_of}
use Rattle.source_programs.proofs.Placed.{found_at}
use Rattle.image_load.specs.FirstCells.{ArePlain, IsPlain, cells_in}
use Rattle.image_load.proofs.FirstRows.{cells_there, no_cells}
use Rattle.image_load.proofs.Lists.{found_in}
use Rattle.image_load.proofs.cells.row_of.Goals as goal

pub returns-in_default-clause-row : goal.returns-in_default-clause-row
returns-in_default-clause-row c = λ naming.
    let name = c.args.name.now in
    let globals = c.args.globals.now in
    c.new.ensures.items
    ∙ sym (ap (map (word_of naming)) (no_cells (globals_of globals.list.items) name (sym (globals.placed name) ∙ sym c.find.ensures ∙ c.in_default.is)))

pub returns-clause-row : goal.returns-clause-row
returns-clause-row c =
    let name = c.args.name.now in
    let globals = c.args.globals.now in
    let gs = globals_of globals.list.items in
    let place = c.in-Some.place in
    let g = c.index.result.now in
    let at = sym (globals.placed name) ∙ sym c.find.ensures ∙ c.in-Some.is in
    let within : place < length globals.list.items =
    let w = (found_at (λ x. bytes_eq name x.name) gs place at).within in omega (arith, w, length-map globals.list.items cells_of) in
    let there : slice_get gs place ≡ Some (cells_of g) =
    slice_get-map cells_of globals.list.items place
    ∙ ap (option_map cells_of) (slice_get_read globals.list.items (length globals.list.items) place g refl within c.index.ensures) in
    let own : map seen c.as_slice.result.now ≡ cells_in gs name =
    ap (map seen) c.as_slice.ensures.value ∙ sym (cells_there gs name place (cells_of g) at there) in
    subst (λ (vs : List Value). IfOk c.row.result (λ row. (naming : Naming) → row.items ≡ map (word_of naming) vs)) own c.row.ensures.row

pub returns-clause-fault : goal.returns-clause-fault
returns-clause-fault c =
    let name = c.args.name.now in
    let globals = c.args.globals.now in
    let gs = globals_of globals.list.items in
    let place = c.in-Some.place in
    let g = c.index.result.now in
    let at = sym (globals.placed name) ∙ sym c.find.ensures ∙ c.in-Some.is in
    let within : place < length globals.list.items =
    let w = (found_at (λ x. bytes_eq name x.name) gs place at).within in omega (arith, w, length-map globals.list.items cells_of) in
    let there : slice_get gs place ≡ Some (cells_of g) =
    slice_get-map cells_of globals.list.items place
    ∙ ap (option_map cells_of) (slice_get_read globals.list.items (length globals.list.items) place g refl within c.index.ensures) in
    IfErr-weaker c.row.result _ _
    (λ fault h all. h (subst (λ vs. All IsPlain (map seen vs)) (sym c.as_slice.ensures.value) (found_in ArePlain gs place (cells_of g) all there)))
    c.row.ensures.fault
