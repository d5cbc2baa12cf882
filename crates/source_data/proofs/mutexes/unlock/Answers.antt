use Rattle.std.proofs.Common.{Some, sym, ap, ◌∙◌}
use Rattle.resolved_tree.specs.Nodes.{word}
use Rattle.resolved_tree.specs.Trees.{table}
use Rattle.source_data.specs.Stores.{with_store}
use Rattle.source_data.proofs.Holders.{unlocks, unlock_traps, free_traps}
use Rattle.source_data.proofs.mutexes.unlock.Goals as goal

pub returns-in_ok-done-in-Some-clause-made : goal.returns-in_ok-done-in-Some-clause-made
returns-in_ok-done-in-Some-clause-made c = λ text.
    let t = table c.args.trees.now in
    let old = c.args.store.now in
    unlocks t text c.args.slot old
    (record old { holders = c.set_free.new.holders }) (word t c.args.mutex) c.args.values.now.items c.done.new.values.items
    (λ w. sym (c.holder_of.ensures old w (sym c.as_slice.ensures.value)) ∙ c.in-Some.is ∙ ap Some c.if-holder-slot.true)
    (λ w. ap (λ hs. record (with_store t old w) { holders = hs }) c.set_free.ensures)
    c.in_ok-done-in-Some.ensures

pub returns-in_default-clause-made : goal.returns-in_default-clause-made
returns-in_default-clause-made c = λ text.
    unlock_traps (table c.args.trees.now) text c.args.slot c.in-Some.holder c.args.store.now (word (table c.args.trees.now) c.args.mutex) c.args.values.now.items
    (λ w. sym (c.holder_of.ensures c.args.store.now w (sym c.as_slice.ensures.value)) ∙ c.in-Some.is)
    c.if-holder-slot.false

pub returns-in_default-2-clause-made : goal.returns-in_default-2-clause-made
returns-in_default-2-clause-made c = λ text.
    free_traps (table c.args.trees.now) text c.args.slot c.args.store.now (word (table c.args.trees.now) c.args.mutex) c.args.values.now.items
    (λ w. sym (c.holder_of.ensures c.args.store.now w (sym c.as_slice.ensures.value)) ∙ c.in_default.is)
