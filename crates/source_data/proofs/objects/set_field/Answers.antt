use Rattle.std.proofs.Common.{pos, sym, ap, ◌∙◌, arith}
use Rattle.c_ints.specs.declared.int.Int.TheVariants.{I8}
use Rattle.c_semantics.specs.Evaluation.{with_value}
use Rattle.local_evaluation.specs.declared.value.Value.TheVariants.{Number}
use Rattle.resolved_tree.specs.Nodes.{word}
use Rattle.source_data.specs.Stores.{fields_of}
use Rattle.resolved_tree.specs.Trees.{table}
use Rattle.local_evaluation.specs.Values.{seen}
use Rattle.source_data.proofs.Fields.{field_changed}
use Rattle.source_data.proofs.objects.set_field.Goals as goal

pub returns-then-same : goal.returns-then-same
returns-then-same c =
    let t = table c.args.trees.now in
    let name = word t c.args.name in
    field_changed t c.loop-place.fields c.loop-place.place (record { name = record { 0 = 0 }; value = Number (I8 (pos 0)) }) name c.args.value
    (omega arith) (sym c.same.ensures ∙ c.if-same.true)
    ∙ sym c.loop-place.invariant.rest
    ∙ ap (λ fs. with_value name (seen c.args.value) (fields_of t fs)) c.loop-place.invariant.same
