use Rattle.std.proofs.Common.{map, sym, ap, ◌∙◌}
use Rattle.local_evaluation.specs.Values.{seen}
use Rattle.resolved_tree.specs.Nodes.{word}
use Rattle.resolved_tree.specs.Trees.{table}
use Rattle.source_data.proofs.Globals.{cells_at, cells_nowhere}
use Rattle.source_data.proofs.cells.cells_of.Goals as goal

pub returns-in-Some : goal.returns-in-Some
returns-in-Some c = λ w is.
    let list = c.args.globals.now.list.items in
    let name = word (table c.args.trees.now) c.args.name in
    ap (map seen) (c.as_slice.ensures.value ∙ ap (λ g. g.cells.items) c.index.ensures)
    ∙ sym (cells_at list name c.in-Some.place c.index.result.now w (sym c.place_of.ensures ∙ c.in-Some.is) is)

pub returns-in-None : goal.returns-in-None
returns-in-None c = λ w is.
    let name = word (table c.args.trees.now) c.args.name in
    sym (cells_nowhere c.args.globals.now.list.items name w (sym c.place_of.ensures ∙ c.in-None.is) is)
