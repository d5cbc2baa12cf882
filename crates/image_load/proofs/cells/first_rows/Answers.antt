use Rattle.std.proofs.Common.{◌∷◌, ◌++◌, [], ℕ, List, map, take, sym, ap, subst, ◌∙◌}
use Rattle.std.specs.Prelude.{string_bytes}
use Rattle.std.proofs.lemmas.List.{map-append}
use Rattle.c_tree.specs.BareExpr.{Bytes}
use Rattle.bytecode.specs.Words.{word_of}
use Rattle.source_programs.specs.Globals.{globals_of}
use Rattle.image_load.specs.FirstCells.{HaveFirst, cells_in}
use Rattle.image_load.proofs.FirstRows.{more_first}
use Rattle.image_load.proofs.NameNumbers.{next_item}
use Rattle.image_load.proofs.cells.first_rows.Goals as goal

pub loop-name-preserved : goal.loop-name-preserved
loop-name-preserved c =
    let gs = globals_of c.args.globals.now.list.items in
    let name = c.name-item.result in
    let i = c.loop-name.name-index in
    let rows = c.loop-name.rows.items in
    let names = next_item string_bytes c.args.names.now i name c.loop-name-test.true c.name-item.is in
    let pushed = ap (map (λ v. v.items)) c.in_ok-push.ensures.items ∙ map-append (λ v. v.items) rows (c.in_ok-made.made ∷ []) in
    subst (λ (ns : List Bytes). HaveFirst gs ns (map (λ v. v.items) c.push.new.self.items)) (sym names)
    (subst (λ (rs : List (List ℕ)). HaveFirst gs (map string_bytes (take i c.args.names.now) ++ string_bytes name ∷ []) rs) (sym pushed)
    (more_first gs (map string_bytes (take i c.args.names.now)) (map (λ v. v.items) rows) (string_bytes name) c.in_ok-made.made.items
    c.loop-name.invariant
    (λ naming. c.in_ok-made.ensures.row naming ∙ ap (λ n. map (word_of naming) (cells_in gs n)) c.as_str.ensures.value)))
