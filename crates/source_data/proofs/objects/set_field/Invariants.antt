use Rattle.std.proofs.Common.{◌≡◌, ◌++◌, take, drop}
use Rattle.c_semantics.specs.Evaluation.{with_value}
use Rattle.resolved_tree.specs.Nodes.{word}
use Rattle.source_data.specs.Stores.{fields_of}
use Rattle.resolved_tree.specs.Trees.{table}
use Rattle.local_evaluation.specs.Values.{seen}
use Rattle.source_data.proofs.objects.set_field.Given as goal

abbrev pub invariant-loop-place : goal.invariant-loop-place
invariant-loop-place l =
    let t = table l.trees in
    let changed = with_value (word t l.name) (seen l.value) in
    record {
      same : l.fields ≡ l.initial.fields;
      rest : changed (fields_of t l.fields)
          ≡ fields_of t (take l.place l.fields) ++ changed (fields_of t (drop l.place l.fields));
    }
