use Rattle.std.proofs.Common.{◌-◌, length, take, get_or, pos, refl, sym, ap, ◌∙◌}
use Rattle.c_ints.specs.declared.int.Int.TheVariants.{I8}
use Rattle.local_evaluation.specs.declared.value.Value.TheVariants.{Number}
use Rattle.resolved_tree.specs.Nodes.{word}
use Rattle.local_evaluation.specs.Values.{seen}
use Rattle.source_data.specs.Stores.{with_store}
use Rattle.resolved_tree.specs.Trees.{table}
use Rattle.local_evaluation.specs.Work.{newest}
use Rattle.source_data.proofs.Globals.{writes_element, write_traps, write_nothing}
use Rattle.source_data.proofs.Newest.{newest_two}
use Rattle.source_data.proofs.cells.write_element.Goals as goal

pub returns-in_default-under-clause-made : goal.returns-in_default-under-clause-made
returns-in_default-under-clause-made c = λ text slot.
    let t = table c.args.trees.now in
    let values = c.as_slice.result.now in
    let d = Number (I8 (pos 0)) in
    write_nothing t text slot c.args.store.now (word t c.args.name) c.args.values.now.items (get_or values (length values - 2) d) (seen (get_or values (length values - 1) d))
    (newest (take (length values - 2) values))
    (ap newest (sym c.as_slice.ensures.value) ∙ newest_two values d d _ _ c.in-len2-up.len_at_least refl refl)
    c.in_default-under.not-Number

pub returns-then-not-set_element-clause-made : goal.returns-then-not-set_element-clause-made
returns-then-not-set_element-clause-made c = λ text slot.
    let t = table c.args.trees.now in
    let old = c.args.store.now in
    let values = c.as_slice.result.now in
    let d = Number (I8 (pos 0)) in
    write_traps t text slot old (record old { globals = c.set_element.new.globals }) (word t c.args.name) c.args.values.now.items
    c.in-Number.index (seen (get_or values (length values - 1) d)) (newest (take (length values - 2) values))
    (ap newest (sym c.as_slice.ensures.value) ∙ newest_two values d d _ _ c.in-len2-up.len_at_least c.in-Number.is refl)
    (λ w. sym (c.set_element.ensures.inside (with_store t old w) refl) ∙ c.if-not-set_element.true)
    (λ w. ap (λ gs. record (with_store t old w) { globals = gs })
    (c.set_element.ensures.same c.if-not-set_element.true))

pub returns-clause-made : goal.returns-clause-made
returns-clause-made c = λ text slot.
    let t = table c.args.trees.now in
    let old = c.args.store.now in
    let values = c.as_slice.result.now in
    let d = Number (I8 (pos 0)) in
    let name = word t c.args.name in
    let v = get_or values (length values - 1) d in
    let is = ap newest (sym c.as_slice.ensures.value) ∙ newest_two values d d _ v c.in-len2-up.len_at_least c.in-Number.is refl in
    writes_element t text slot old (record old { globals = c.set_element.new.globals }) name c.args.values.now.items c.take_under.new.values.items
    c.in-Number.index (seen v) (newest (take (length values - 2) values)) is
    (λ w. sym (c.set_element.ensures.inside (with_store t old w) refl) ∙ c.if-not-set_element.false)
    (λ w. ap (λ gs. record (with_store t old w) { globals = gs })
    (c.set_element.ensures.changed c.if-not-set_element.false (with_store t old w) refl))
    (c.take_under.ensures _ _ _ is)
