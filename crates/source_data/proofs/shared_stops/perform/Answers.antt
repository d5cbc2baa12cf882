use Rattle.std.proofs.Common.{refl, sym, ap, ◌∙◌, arith}
use Rattle.std.proofs.lemmas.List.{with_items_is}
use Rattle.c_semantics.specs.Stops.{ReadElement, ReadField, Free}
use Rattle.resolved_tree.specs.Nodes.{word}
use Rattle.local_evaluation.specs.Pieces.{stop_of}
use Rattle.source_programs.specs.Programs.{current_of, table_of}
use Rattle.resolved_tree.specs.Trees.{table}
use Rattle.source_data.proofs.Performing.{performs_same}
use Rattle.source_data.proofs.shared_stops.perform.Goals as goal

pub returns-in-ReadElement-clause-made : goal.returns-in-ReadElement-clause-made
returns-in-ReadElement-clause-made c = λ is_program own.
    let t = table c.trees-trees.result.now in
    let u = table_of c.args.program.now in
    let text = current_of c.args.program.now in
    let values = c.args.values.now in
    let name = c.in-ReadElement.name in
    let after = c.read_element.new.values in
    let kept = with_items_is values after (omega (arith, c.read_element.auto.values, c.deref_mut.ensures.len, values.ok.0)) in
    performs_same c.read_element.result t u text c.args.slot (ReadElement (word t name)) (stop_of u c.args.stop) c.args.store.now c.args.store.now
    c.deref_mut.result.now values.items after _
    c.trees-trees.ensures (ap (λ x. ReadElement (word x name)) c.trees-trees.ensures ∙ sym (ap (stop_of u) c.in-ReadElement.is))
    c.deref_mut.ensures.value (sym kept) (c.read_element.ensures.made text c.args.slot)

pub returns-in-ReadField-clause-made : goal.returns-in-ReadField-clause-made
returns-in-ReadField-clause-made c = λ is_program own.
    let t = table c.trees-trees.result.now in
    let u = table_of c.args.program.now in
    let text = current_of c.args.program.now in
    let values = c.args.values.now in
    let name = c.in-ReadField.name in
    let tag = word u c.in-ReadField.field-0 in
    let after = c.read_field.new.values in
    let kept = with_items_is values after (omega (arith, c.read_field.auto.values, c.deref_mut-in-ReadField.ensures.len, values.ok.0)) in
    performs_same c.read_field.result t u text c.args.slot (ReadField tag (word t name)) (stop_of u c.args.stop) c.args.store.now c.args.store.now
    c.deref_mut-in-ReadField.result.now values.items after _
    c.trees-trees.ensures (ap (λ x. ReadField tag (word x name)) c.trees-trees.ensures ∙ sym (ap (stop_of u) c.in-ReadField.is))
    c.deref_mut-in-ReadField.ensures.value (sym kept) (c.read_field.ensures.made text c.args.slot tag)

pub returns-in-Free-clause-made : goal.returns-in-Free-clause-made
returns-in-Free-clause-made c = λ is_program own.
    let u = table_of c.args.program.now in
    let text = current_of c.args.program.now in
    let values = c.args.values.now in
    let tag = word u c.in-Free.field-0 in
    let after = c.release.new.values in
    let kept = with_items_is values after (omega (arith, c.release.auto.values, c.deref_mut-in-Free.ensures.len, values.ok.0)) in
    performs_same c.release.result u u text c.args.slot (Free tag) (stop_of u c.args.stop) c.args.store.now c.release.new.store
    c.deref_mut-in-Free.result.now values.items after _
    refl (sym (ap (stop_of u) c.in-Free.is))
    c.deref_mut-in-Free.ensures.value (sym kept) (c.release.ensures.made u text c.args.slot tag)
