use Rattle.std.proofs.Common.{◌≡◌, set, ap, ◌∙◌, arith}
use Rattle.std.proofs.lemmas.List.{get_or_read, map-set, with_items_is}
use Rattle.c_semantics.specs.Evaluation.{with_value}
use Rattle.resolved_tree.specs.Nodes.{word}
use Rattle.resolved_tree.specs.Trees.{table}
use Rattle.local_evaluation.specs.Values.{seen}
use Rattle.source_data.specs.declared.store.Object.{Object}
use Rattle.source_data.specs.Stores.{object_of, objects_of, fields_of}
use Rattle.std.specs.Vec.{with_items}
use Rattle.source_data.proofs.objects.set_field_of.Goals as goal

pub returns : goal.returns
returns c = λ d.
    let t = table c.args.trees.now in
    let name = word t c.args.name in
    let v = seen c.args.value in
    let list = c.args.objects.now.all.items in
    let n = c.args.number in
    let o = c.index_mut.result.now in
    let x : Object = record o { fields = with_items o.fields c.set_field.new.fields } in
    let kept = with_items_is o.fields c.set_field.new.fields (omega (arith, c.set_field.auto.fields, c.deref_mut.ensures.len, o.fields.ok.0)) in
    let fields : fields_of t x.fields.items ≡ with_value name v (fields_of t o.fields.items) =
    ap (fields_of t) kept ∙ c.set_field.ensures ∙ ap (λ l. with_value name v (fields_of t l)) c.deref_mut.ensures.value
    in
    map-set (object_of t) list n x
    ∙ ap (λ fs. set (objects_of t list) n (record (object_of t o) { fields = fs })) fields
    ∙ ap (λ o. set (objects_of t list) n (record (object_of t o) { fields = with_value name v (fields_of t o.fields.items) }))
    (get_or_read list n o c.requires c.index_mut.ensures.value d)
