use Rattle.std.proofs.Common.{◌≡◌, ℕ, List, map, ap, sym, ◌∙◌, subst}
use Rattle.c_tree.specs.Bare.{bare_binding, bare_field_value, bare_def, bare_kind}
use Rattle.c_tree.specs.BareDef.{Struct}
use Rattle.c_semantics.specs.Transformers.{given_fields}
use Rattle.type_transformers.specs.declared.change.Change.TheVariants as change
use Rattle.type_transformers.specs.Made.{IsMadeFrom}
use Rattle.type_transformers.proofs.Changing.{struct_made}
use Rattle.type_transformers.proofs.change.of_struct.Goals as goal

pub returns : goal.returns
returns c =
    let a = bare_kind c.args.old.now in
    let q = map bare_def c.args.text.now in
    let tag = c.args.tag.now in
    let fields = map bare_binding c.args.fields.now in
    let given : map bare_field_value c.fields_given-given.result.now ≡ given_fields q tag =
    c.fields_given-given.ensures ∙ ap (given_fields q) c.as_str.ensures
    in
    subst {A = List ℕ} (λ own. IsMadeFrom a (Struct tag fields) q (change.Struct own c.in_ok-transform.transform)) (sym c.in_ok-tag.ensures.cases)
    (struct_made a q tag (map bare_binding c.members_of.result.now) fields (map bare_field_value c.fields_given-given.result.now)
    c.in_ok-transform.transform c.members_of.ensures given c.in_ok-transform.ensures)
