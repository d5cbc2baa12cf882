use Rattle.std.proofs.Common.{◌≡◌, map, set, slice_set, unsigned_abs, sym, ap, ◌∙◌, arith}
use Rattle.std.proofs.lemmas.List.{length-map, map-set}
use Rattle.c_ints.specs.Number.{value_of}
use Rattle.source_model.specs.Worlds.{with_cells_in, cells_of as cells_in}
use Rattle.source_model.specs.Moves.{in_bounds}
use Rattle.resolved_tree.specs.Nodes.{word}
use Rattle.local_evaluation.specs.Values.{seen}
use Rattle.resolved_tree.specs.Trees.{table}
use Rattle.source_data.proofs.Globals.{changed_at, cells_at, cells_nowhere, place_within, placed_kept, none_within, is_within, is_outside}
use Rattle.source_data.proofs.cells.set_element.Goals as goal

pub invariant_of-globals-2 : goal.invariant_of-globals-2
invariant_of-globals-2 c =
    let globals = c.args.globals.now in
    let found = sym c.place_of.ensures ∙ c.in-Some.is in
    record {
      placed = placed_kept globals.list.items globals.places c.in-Some.place c.index_mut.result.now _
          (place_within globals.list.items (word (table c.args.trees.now) c.args.name) c.in-Some.place found) (ap (λ g. g.name) c.index_mut.ensures.value) globals.placed;
    }

pub returns-in_default-clause-inside : goal.returns-in_default-clause-inside
returns-in_default-clause-inside c = λ w is.
    let name = word (table c.args.trees.now) c.args.name in
    sym (ap (in_bounds (value_of c.args.index)) (cells_nowhere c.args.globals.now.list.items name w (sym c.place_of.ensures ∙ c.in_default.is) is)
    ∙ none_within (value_of c.args.index))

pub returns-in_default-within-clause-inside : goal.returns-in_default-within-clause-inside
returns-in_default-within-clause-inside c = λ w is.
    let name = word (table c.args.trees.now) c.args.name in
    let global = c.index_mut.result.now in
    let cells = map seen global.cells.items in
    let same : cells_in w name ≡ cells =
    cells_at c.args.globals.now.list.items name c.in-Some.place global w (sym c.place_of.ensures ∙ c.in-Some.is) is
    ∙ ap (λ g. map seen g.cells.items) (sym c.index_mut.ensures.value)
    in
    let long = length-map global.cells.items seen in
    sym (ap (in_bounds (value_of c.args.index)) same
    ∙ is_outside (value_of c.args.index) cells
    (sym (c.within.ensures.place cells (omega (arith, c.len.ensures, global.cells.ok.0))) ∙ c.in_default-within.is))

pub returns-clause-inside : goal.returns-clause-inside
returns-clause-inside c = λ w is.
    let name = word (table c.args.trees.now) c.args.name in
    let global = c.index_mut.result.now in
    let cells = map seen global.cells.items in
    let same : cells_in w name ≡ cells =
    cells_at c.args.globals.now.list.items name c.in-Some.place global w (sym c.place_of.ensures ∙ c.in-Some.is) is
    ∙ ap (λ g. map seen g.cells.items) (sym c.index_mut.ensures.value)
    in
    let long = length-map global.cells.items seen in
    sym (ap (in_bounds (value_of c.args.index)) same
    ∙ (is_within (value_of c.args.index) cells c.in-Some-within.cell
    (sym (c.within.ensures.place cells (omega (arith, c.len.ensures, global.cells.ok.0))) ∙ c.in-Some-within.is)).0)

pub returns-clause-changed : goal.returns-clause-changed
returns-clause-changed c = λ true w is.
    let list = c.args.globals.now.list.items in
    let name = word (table c.args.trees.now) c.args.name in
    let global = c.index_mut.result.now in
    let cells = map seen global.cells.items in
    let found = sym c.place_of.ensures ∙ c.in-Some.is in
    let same : cells_in w name ≡ cells =
    cells_at list name c.in-Some.place global w found is ∙ ap (λ g. map seen g.cells.items) (sym c.index_mut.ensures.value)
    in
    let long = length-map global.cells.items seen in
    let at = (is_within (value_of c.args.index) cells c.in-Some-within.cell
    (sym (c.within.ensures.place cells (omega (arith, c.len.ensures, global.cells.ok.0))) ∙ c.in-Some-within.is)).1
    in
    changed_at list name c.in-Some.place global _ (slice_set (cells_in w name) (unsigned_abs (value_of c.args.index)) (seen c.args.value)) found
    (ap (λ g. g.name) c.index_mut.ensures.value)
    (map-set seen global.cells.items c.in-Some-within.cell c.args.value
    ∙ ap (λ l. set l c.in-Some-within.cell (seen c.args.value)) (sym same)
    ∙ ap (λ n. set (cells_in w name) n (seen c.args.value)) (sym at))
    ∙ ap (with_cells_in name (slice_set (cells_in w name) (unsigned_abs (value_of c.args.index)) (seen c.args.value))) (sym is)
