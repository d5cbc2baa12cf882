use Rattle.std.proofs.Common.{◌≡◌, length, map, sym, ap, ◌∙◌, arith}
use Rattle.std.proofs.lemmas.List.{length-map}
use Rattle.std.proofs.lemmas.Result.{IfOk-weaker}
use Rattle.c_semantics.specs.Transformers.{transformed}
use Rattle.versioned_structs.specs.Transforms.{layout_in, new_values, variables}
use Rattle.local_evaluation.specs.Values.{seen}
use Rattle.source_data.specs.Stores.{field_of, fields_of}
use Rattle.source_install.proofs.BroughtObjects.{fields_are_variables, seen_values}
use Rattle.source_install.proofs.install.transformed_fields.Goals as goal

pub returns : goal.returns
returns c = λ t p q tag does news names.
    let fs = c.args.fields.now in
    let held = map (λ f. f.value) fs in
    let layout = layout_in p tag in
    let some_held = length-map fs (λ f. f.value) in
    let some_seen = length-map held seen in
    let some_fields = length-map fs (field_of t) in
    let some_names = length-map (fields_of t fs) (λ f. f.name) in
    let some_members = length-map layout (λ b. b.name) in
    let as_many = ap length names in
    let long : length (map seen held) ≡ length layout = omega (arith, as_many, some_held, some_seen, some_fields, some_names, some_members) in
    let old : variables layout (map seen held) ≡ fields_of t fs =
    ap (variables layout) (sym (seen_values t fs)) ∙ fields_are_variables layout (fields_of t fs) names
    in
    let values : map seen c.as_slice-3.result.now ≡ new_values c.args.transform.now (map seen held) =
    ap (map seen) c.as_slice-3.ensures.value
    ∙ c.in_ok-values.ensures
    ∙ ap (λ changes. new_values changes (map seen c.as_slice-2.result.now)) c.as_slice.ensures.changes
    ∙ ap (λ vs. new_values c.args.transform.now (map seen vs)) (c.as_slice-2.ensures.value ∙ c.in_ok-old.ensures)
    in
    IfOk-weaker c.fields_of.result _ (λ made. fields_of t made.items ≡ transformed p q tag (fields_of t fs))
    (λ made is.
    is t
    ∙ ap (λ bs. variables bs (map seen c.as_slice-3.result.now)) news
    ∙ ap (variables (layout_in q tag)) values
    ∙ does.transforms (map seen held) long
    ∙ ap (transformed p q tag) old)
    c.fields_of.ensures
