use Rattle.std.proofs.Common.{sym, ◌∙◌}
use Rattle.resolved_tree.specs.Nodes.{word}
use Rattle.resolved_tree.specs.Trees.{table}
use Rattle.source_data.proofs.Holders.{initialises, held_traps}
use Rattle.source_data.proofs.mutexes.initialise.Goals as goal

pub returns-in_ok-done-in-None-clause-made : goal.returns-in_ok-done-in-None-clause-made
returns-in_ok-done-in-None-clause-made c = λ text slot.
    initialises (table c.args.trees.now) text slot c.args.store.now (word (table c.args.trees.now) c.args.mutex) c.args.values.now.items c.done.new.values.items
    (λ w. sym (c.holder_of.ensures c.args.store.now w (sym c.as_slice.ensures.value)) ∙ c.in-None.is)
    c.in_ok-done-in-None.ensures

pub returns-in-Some-clause-made : goal.returns-in-Some-clause-made
returns-in-Some-clause-made c = λ text slot.
    held_traps (table c.args.trees.now) text slot c.in-Some.field-0 c.args.store.now (word (table c.args.trees.now) c.args.mutex) c.args.values.now.items
    (λ w. sym (c.holder_of.ensures c.args.store.now w (sym c.as_slice.ensures.value)) ∙ c.in-Some.is)
