use Rattle.std.proofs.Common.{map, refl, sym, ap, ◌∙◌}
use Rattle.resolved_tree.specs.Nodes.{word}
use Rattle.local_evaluation.specs.Values.{seen}
use Rattle.source_data.specs.Stores.{with_store}
use Rattle.resolved_tree.specs.Trees.{table}
use Rattle.local_evaluation.specs.Work.{newest}
use Rattle.source_data.proofs.Globals.{reads_global}
use Rattle.source_data.proofs.Newest.{last_first}
use Rattle.source_data.proofs.cells.read_global.Goals as goal

pub returns-clause-made : goal.returns-clause-made
returns-clause-made c = λ text slot.
    let t = table c.args.trees.now in
    reads_global t text slot c.args.store.now (word t c.args.name) c.args.values.now.items c.push.new.self.items
    (seen c.first_of.result) (map seen c.cells_of.result.now)
    (λ w. sym (c.cells_of.ensures (with_store t c.args.store.now w) refl))
    c.first_of.ensures
    (ap newest c.in_ok-push.ensures.items ∙ last_first seen c.args.values.now.items c.first_of.result)
