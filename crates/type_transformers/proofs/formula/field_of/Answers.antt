use Rattle.std.proofs.Common.{map, sym, ◌∙◌, ap, slice_index_or}
use Rattle.std.specs.Option.{option_map_or}
use Rattle.c_tree.specs.Bare.{bare_binding}
use Rattle.c_semantics.specs.Values.{int_of}
use Rattle.type_transformers.specs.Places.{place_in}
use Rattle.type_transformers.specs.Old.{old_in}
use Rattle.type_transformers.proofs.Placing.{value_at_place}
use Rattle.type_transformers.proofs.formula.field_of.Goals as goal

pub returns-in-Object : goal.returns-in-Object
returns-in-Object c = λ values.
    let fields = map bare_binding c.in-Object.fields.now in
    let name = c.args.field.now.text in
    c.at.ensures values
    ∙ ap (λ o. option_map_or (λ i. slice_index_or values i (int_of 0)) o (int_of 0)) (c.place_in.ensures.place ∙ ap (place_in fields) c.as_str.ensures)
    ∙ sym (value_at_place fields values name (int_of 0))
    ∙ ap (λ o. (old_in o values).field name) (sym c.in-Object.is)
