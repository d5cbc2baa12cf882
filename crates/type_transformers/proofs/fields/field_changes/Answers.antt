use Rattle.std.proofs.Common.{◌≡◌, ◌+◌, ◌<◌, List, [], ◌∷◌, ◌++◌, map, length, take, ap, sym, ◌∙◌, subst, arith}
use Rattle.std.proofs.lemmas.List.{map_more, length-map, length-take}
use Rattle.c_tree.specs.Bare.{bare_binding, bare_field_value}
use Rattle.c_tree.specs.BareDef.{BareBinding}
use Rattle.versioned_structs.specs.declared.transform.FieldChange.{FieldChange}
use Rattle.type_transformers.specs.Fields.{AreFieldChanges}
use Rattle.type_transformers.proofs.FieldChanges.{changes_push, as_many}
use Rattle.type_transformers.proofs.fields.field_changes.Goals as goal

pub loop-field-preserved : goal.loop-field-preserved
loop-field-preserved c =
    let layout = map bare_binding c.args.old.now in
    let given = map bare_field_value c.args.given.now in
    let new = c.args.new.now in
    let i = c.loop-field.field-index in
    let changes = c.loop-field.changes.items in
    let change = c.in_ok-field_change.field-0 in
    let within : i < length new = omega arith in
    let list : map bare_binding (take (i + 1) new) ≡ map bare_binding (take i new) ++ bare_binding c.field-item.result ∷ [] =
    map_more bare_binding new i c.field-item.result within ∙ ap (λ x. map bare_binding (take i new) ++ bare_binding x ∷ []) (sym c.field-item.is)
    in
    let pushed : AreFieldChanges layout given (map bare_binding (take i new) ++ bare_binding c.field-item.result ∷ []) (changes ++ change ∷ []) =
    changes_push layout given (map bare_binding (take i new)) changes (bare_binding c.field-item.result) change c.loop-field.invariant c.in_ok-field_change.ensures
    in
    subst {A = List FieldChange} (λ xs. AreFieldChanges layout given (map bare_binding (take (i + 1) new)) xs) (sym c.in_ok-push.ensures.items)
    (subst {A = List BareBinding} (λ bs. AreFieldChanges layout given bs (changes ++ change ∷ [])) (sym list) pushed)

pub returns-clause-each : goal.returns-clause-each
returns-clause-each c =
    let many = as_many (map bare_binding c.args.old.now) (map bare_field_value c.args.given.now)
    (map bare_binding (take c.loop-field.field-index c.args.new.now)) c.loop-field.changes.items c.loop-field.invariant
    in
    omega (arith, many, length-map (take c.loop-field.field-index c.args.new.now) bare_binding, length-take c.loop-field.field-index c.args.new.now)
