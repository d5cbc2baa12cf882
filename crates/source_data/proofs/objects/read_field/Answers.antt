use Rattle.std.proofs.Common.{◌≡◌, ◌-◌, ◌∷◌, length, get_or, take, set, unwrap_or, sym, ap, ◌∙◌}
use Rattle.c_semantics.specs.Evaluation.{in_scope}
use Rattle.c_semantics.specs.Values.{int_of}
use Rattle.source_model.specs.Moves.{goes_on}
use Rattle.resolved_tree.specs.Nodes.{word}
use Rattle.source_data.specs.Stores.{standing_with, with_store, objects_of, fields_of}
use Rattle.resolved_tree.specs.Trees.{table}
use Rattle.local_evaluation.specs.Values.{seen, seen_object}
use Rattle.local_evaluation.specs.Work.{newest}
use Rattle.source_data.proofs.Fields.{reads_field}
use Rattle.source_data.proofs.Newest.{newest_is, newest_set}
use Rattle.source_data.proofs.objects.read_field.Goals as goal

pub returns-in-Ok-clause-made : goal.returns-in-Ok-clause-made
returns-in-Ok-clause-made c = λ text slot tag.
    let t = table c.args.trees.now in
    let name = word t c.args.name in
    let store = c.args.store.now in
    let values = c.args.values.now in
    let rest = newest (take (length values - 1) values) in
    let n = c.in-Ok.number in
    let o = c.index.result.now in
    let is : get_or c.as_slice.result.now n o ≡ o = ap (λ l. get_or l n o) c.as_slice.ensures.value ∙ sym c.index.ensures in
    reads_field t text slot store tag name values (set values (length values - 1) c.field.result)
    (seen_object c.in-Reference.handle) (seen c.field.result) rest
    (newest_is values _ _ c.in-len1-up.len_at_least c.in-Reference.is)
    (λ s.
    let st = standing_with t store s in
    let w = with_store t store s.world in
    c.in-Ok.ensures.reached t st (λ n x. goes_on st w (unwrap_or (in_scope x.fields name) (int_of 0) ∷ rest))
    (ap (objects_of t) (sym c.as_slice.ensures.value)) o
    ∙ ap (λ x. goes_on st w (unwrap_or (in_scope (fields_of t x.fields.items) name) (int_of 0) ∷ rest)) is
    ∙ ap (λ l. goes_on st w (unwrap_or (in_scope (fields_of t l) name) (int_of 0) ∷ rest)) (sym c.as_slice-in-Ok.ensures.value)
    ∙ ap (λ v. goes_on st w (v ∷ rest)) (sym c.field.ensures))
    (newest_set values c.field.result c.in-len1-up.len_at_least)
