use Rattle.std.proofs.Common.{◌-◌, ◌∷◌, length, get_or, take, pos, refl, sym, ap, ◌∙◌}
use Rattle.c_ints.specs.declared.int.Int.TheVariants.{I8}
use Rattle.source_model.specs.Moves.{goes_on}
use Rattle.local_evaluation.specs.declared.value.Value.TheVariants.{Number}
use Rattle.resolved_tree.specs.Nodes.{word}
use Rattle.source_data.specs.Stores.{standing_with, with_store, object_of, objects_of}
use Rattle.resolved_tree.specs.Trees.{table}
use Rattle.local_evaluation.specs.Values.{seen, seen_object}
use Rattle.local_evaluation.specs.Work.{newest}
use Rattle.source_data.proofs.Fields.{writes_field, write_traps, write_nothing, with_field, an_item}
use Rattle.source_data.proofs.Newest.{newest_two}
use Rattle.source_data.proofs.objects.write_field.Goals as goal

pub returns-in_default-under-clause-made : goal.returns-in_default-under-clause-made
returns-in_default-under-clause-made c = λ text slot tag.
    let t = table c.args.trees.now in
    let values = c.as_slice.result.now in
    let d = Number (I8 (pos 0)) in
    write_nothing t text slot c.args.store.now tag (word t c.args.name) c.args.values.now.items (get_or values (length values - 2) d) (seen (get_or values (length values - 1) d))
    (newest (take (length values - 2) values))
    (ap newest (sym c.as_slice.ensures.value) ∙ newest_two values d d _ _ c.in-len2-up.len_at_least refl refl)
    c.in_default-under.not-Reference

pub returns-in-Err-clause-made : goal.returns-in-Err-clause-made
returns-in-Err-clause-made c = λ text slot tag.
    let t = table c.args.trees.now in
    let name = word t c.args.name in
    let store = c.args.store.now in
    let values = c.as_slice.result.now in
    let d = Number (I8 (pos 0)) in
    let v = seen (get_or values (length values - 1) d) in
    let rest = newest (take (length values - 2) values) in
    write_traps t text slot store tag name c.args.values.now.items (seen_object c.in-Reference.handle) v rest c.in-Err.kind
    (ap newest (sym c.as_slice.ensures.value) ∙ newest_two values d d _ _ c.in-len2-up.len_at_least c.in-Reference.is refl)
    (λ s. c.in-Err.ensures.reached t (standing_with t store s)
    (λ n x. goes_on (standing_with t store s) (with_field n name v x (with_store t store s.world)) (v ∷ rest))
    (ap (objects_of t) (sym c.as_slice-2.ensures.value)))

pub returns-in-Ok-clause-made : goal.returns-in-Ok-clause-made
returns-in-Ok-clause-made c = λ text slot tag.
    let t = table c.args.trees.now in
    let name = word t c.args.name in
    let old = c.args.store.now in
    let values = c.as_slice.result.now in
    let d = Number (I8 (pos 0)) in
    let v = seen (get_or values (length values - 1) d) in
    let rest = newest (take (length values - 2) values) in
    let n = c.in-Ok.number in
    let o = an_item c.as_slice-2.result.now n c.in-Ok.ensures.within in
    let two = ap newest (sym c.as_slice.ensures.value) ∙ newest_two values d d _ _ c.in-len2-up.len_at_least c.in-Reference.is refl in
    writes_field t text slot old (record old { objects = c.set_field_of.new.objects }) tag name c.args.values.now.items c.take_under.new.values.items
    (seen_object c.in-Reference.handle) v rest (λ w. record w { objects = objects_of t c.set_field_of.new.objects.all.items }) two
    (λ s.
    let st = standing_with t old s in
    let w = with_store t old s.world in
    c.in-Ok.ensures.reached t st (λ n x. goes_on st (with_field n name v x w) (v ∷ rest)) (ap (objects_of t) (sym c.as_slice-2.ensures.value)) o
    ∙ ap (λ l. goes_on st (with_field n name v (object_of t (get_or l n o)) w) (v ∷ rest)) c.as_slice-2.ensures.value
    ∙ ap (λ os. goes_on st (record w { objects = os }) (v ∷ rest)) (sym (c.set_field_of.ensures o)))
    (λ w. refl)
    (c.take_under.ensures _ _ _ two)
