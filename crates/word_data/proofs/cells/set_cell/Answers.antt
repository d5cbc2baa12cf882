use Rattle.std.proofs.Common.{◌≡◌, ◌<◌, [], List, ℕ, length, map, sym, ap, ◌∙◌, arith}
use Rattle.std.specs.Prelude.{slice_index_or, slice_set}
use Rattle.std.proofs.lemmas.List.{get_or-map, map-set}
use Rattle.word_data.proofs.cells.set_cell.Goals as goal

pub returns-clause-changed : goal.returns-clause-changed
returns-clause-changed c =
    let cells = c.args.cells.now.items in
    let row = c.index_mut-row.result.now in
    let inside : c.args.n < length cells = omega (arith, c.if-n-len.false, c.len.ensures, c.args.cells.now.ok.0) in
    let there : row.items ≡ slice_index_or (map (λ v. v.items) cells) c.args.n [] =
    ap (λ v. v.items) c.index_mut-row.ensures.value ∙ sym (get_or-map (λ v. v.items) cells c.args.n row [] inside)
    in
    map-set (λ v. v.items) cells c.args.n _
    ∙ ap (λ (r : List ℕ). slice_set (map (λ v. v.items) cells) c.args.n (slice_set r c.args.place c.args.word)) there
