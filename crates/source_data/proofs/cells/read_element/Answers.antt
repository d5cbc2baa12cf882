use Rattle.std.proofs.Common.{◌-◌, length, take, map, set, unwrap_or, refl, sym, ap}
use Rattle.c_semantics.specs.Values.{int_of}
use Rattle.resolved_tree.specs.Nodes.{word}
use Rattle.local_evaluation.specs.Values.{seen}
use Rattle.source_data.specs.Stores.{with_store}
use Rattle.resolved_tree.specs.Trees.{table}
use Rattle.local_evaluation.specs.Work.{newest}
use Rattle.source_data.proofs.Globals.{reads_element, read_traps}
use Rattle.source_data.proofs.Newest.{newest_is, newest_set}
use Rattle.source_data.proofs.cells.read_element.Goals as goal

pub returns-in_default-element-clause-made : goal.returns-in_default-element-clause-made
returns-in_default-element-clause-made c = λ text slot.
    let t = table c.args.trees.now in
    let values = c.args.values.now in
    read_traps t text slot c.args.store.now (word t c.args.name) values c.in-Number.index (newest (take (length values - 1) values)) (map seen c.cells_of-cells.result.now)
    (newest_is values _ _ c.in-len1-up.len_at_least c.in-Number.is)
    (λ w. sym (c.cells_of-cells.ensures (with_store t c.args.store.now w) refl))
    c.in_default-element.ensures

pub returns-clause-made : goal.returns-clause-made
returns-clause-made c = λ text slot.
    let t = table c.args.trees.now in
    let values = c.args.values.now in
    reads_element t text slot c.args.store.now (word t c.args.name) values (set values (length values - 1) c.in-Some.value) c.in-Number.index
    (seen c.in-Some.value) (newest (take (length values - 1) values)) (map seen c.cells_of-cells.result.now)
    (newest_is values _ _ c.in-len1-up.len_at_least c.in-Number.is)
    (λ w. sym (c.cells_of-cells.ensures (with_store t c.args.store.now w) refl))
    c.in-Some.ensures.0
    (ap (λ o. unwrap_or o (int_of 0)) c.in-Some.ensures.1)
    (newest_set values c.in-Some.value c.in-len1-up.len_at_least)
