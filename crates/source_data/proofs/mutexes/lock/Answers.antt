use Rattle.std.proofs.Common.{sym, ap, ◌∙◌}
use Rattle.resolved_tree.specs.Nodes.{word}
use Rattle.resolved_tree.specs.Trees.{table}
use Rattle.source_data.specs.Stores.{with_store, holders_of}
use Rattle.source_data.proofs.Holders.{holders_push, locks, relock_traps}
use Rattle.source_data.proofs.mutexes.lock.Goals as goal

pub returns-in_ok-done-in-None-clause-made : goal.returns-in_ok-done-in-None-clause-made
returns-in_ok-done-in-None-clause-made c = λ text.
    let t = table c.args.trees.now in
    let old = c.args.store.now in
    locks t text c.args.slot old
    (record old { holders = c.push.new.self }) (word t c.args.mutex) c.args.values.now.items c.done.new.values.items
    (λ w. sym (c.holder_of.ensures old w (sym c.as_slice.ensures.value)) ∙ c.in-None.is)
    (λ w. ap (λ hs. record (with_store t old w) { holders = hs })
    (ap (holders_of t) c.in_ok-push-in-None.ensures.items
    ∙ holders_push t old.holders.items (record { mutex = c.args.mutex; slot = c.args.slot })))
    c.in_ok-done-in-None.ensures

pub returns-in-Some-clause-made : goal.returns-in-Some-clause-made
returns-in-Some-clause-made c = λ text.
    relock_traps (table c.args.trees.now) text c.args.slot c.in-Some.field-0 c.args.store.now (word (table c.args.trees.now) c.args.mutex) c.args.values.now.items
    (λ w. sym (c.holder_of.ensures c.args.store.now w (sym c.as_slice.ensures.value)) ∙ c.in-Some.is)
