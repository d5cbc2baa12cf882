use Rattle.std.proofs.Common.{◌≡◌, map, find, bytes_eq, Some, None, option_copied, ap, sym, ◌∙◌}
use Rattle.c_tree.specs.Bare.{bare_binding}
use Rattle.type_transformers.proofs.Outcomes.{if_ok}
use Rattle.type_transformers.proofs.FieldChanges.{field_given, field_by_default}
use Rattle.type_transformers.proofs.fields.field_change.Goals as goal

pub returns-in-Some : goal.returns-in-Some
returns-in-Some c =
    let name = c.args.field.now.name.text in
    let found : find (λ v. bytes_eq name v.field.text) c.args.given.now ≡ Some c.in-Some.value.now =
    ap (λ n. find (λ v. bytes_eq n v.field.text) c.args.given.now) (sym c.as_str.ensures) ∙ sym c.value_for.ensures ∙ ap option_copied c.in-Some.is
    in
    if_ok c.given_change.result
    (λ change is. field_given (map bare_binding c.args.old.now) c.args.given.now (bare_binding c.args.field.now) c.in-Some.value.now change found is)
    c.given_change.ensures

pub returns-in-None : goal.returns-in-None
returns-in-None c =
    let name = c.args.field.now.name.text in
    let found : find (λ v. bytes_eq name v.field.text) c.args.given.now ≡ None =
    ap (λ n. find (λ v. bytes_eq n v.field.text) c.args.given.now) (sym c.as_str.ensures) ∙ sym c.value_for.ensures ∙ ap option_copied c.in-None.is
    in
    field_by_default (map bare_binding c.args.old.now) c.args.given.now (bare_binding c.args.field.now) c.default_change.result found c.default_change.ensures
