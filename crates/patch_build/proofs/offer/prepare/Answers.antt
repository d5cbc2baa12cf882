use Rattle.std.proofs.Common.{◌≡◌, ◌≤◌, ◌++◌, Err, not, map, length, subst, ap, sym, ◌∙◌}
use Rattle.std.proofs.lemmas.Result.{err_from_is_err_and}
use Rattle.name_sets.specs.Limit.{most_names}
use Rattle.c_tree.specs.Bare.{bare_def}
use Rattle.c_semantics.specs.SourceTexts.{text_of}
use Rattle.c_semantics.specs.Store.{store}
use Rattle.source_model.specs.Patches.{not_patch}
use Rattle.brought_bodies.proofs.Undefined.{undefined_use}
use Rattle.code_store.specs.Limits.{are_too_many}
use Rattle.code_store.specs.Stored.{meant_body}
use Rattle.patch_build.specs.Faults.{fault_of_bodies, fault_of_comparison, fault_of_transformer}
use Rattle.patch_build.specs.Tables.{IsNamesFault}
use Rattle.patch_build.specs.declared.fault.PatchFault.TheVariants.{UndefinedName}
use Rattle.patch_build.proofs.Causes.{all_of, bodies_cause, defined_where_compared, defined_where_transformed, named_by_table, names_cause, kind_cause, transform_cause, store_cause, no_cause, false_where_not, unknown_in_bodies}
use Rattle.patch_build.proofs.Patches.{changed_ids, interface_ids, changed_are, interface_are, bodies_mean, bodies_are, full_is, store_with, names_are, keeps_ids, each_is_new, has_own}
use Rattle.patch_build.proofs.offer.prepare.Goals as goal

pub returns-in_err-names-clause-fault : goal.returns-in_err-names-clause-fault
returns-in_err-names-clause-fault c =
    let p = err_from_is_err_and c.from_residual.result c.from_residual.ensures.1 in
    rw (p.1, p.2) (λ texts are.
    names_cause texts c.args.versions c.args.new.now are c.if-versions-ge-MOST_VERSIONS.false c.in_err-names.field-0.0 c.in_err-names.ensures.fault)

pub returns-in_err-changes-clause-fault : goal.returns-in_err-changes-clause-fault
returns-in_err-changes-clause-fault c =
    let p = err_from_is_err_and c.from_residual-in_err-changes.result c.from_residual-in_err-changes.ensures.1 in
    let few : length (all_of c.args.versions c.args.new.now) ≤ most_names =
    subst (λ names. length names ≤ most_names) c.in_ok-names.ensures.names c.in_ok-names.ensures.table.few in
    rw (p.1, p.2) (λ texts are.
    kind_cause texts c.args.versions c.args.new.now are c.if-versions-ge-MOST_VERSIONS.false few c.in_err-changes.field-0.0 c.in_err-changes.ensures.fault)

pub returns-in_err-transforms-clause-fault : goal.returns-in_err-transforms-clause-fault
returns-in_err-transforms-clause-fault c =
    let p = err_from_is_err_and c.from_residual-in_err-transforms.result c.from_residual-in_err-transforms.ensures.1 in
    let few : length (all_of c.args.versions c.args.new.now) ≤ most_names =
    subst (λ names. length names ≤ most_names) c.in_ok-names.ensures.names c.in_ok-names.ensures.table.few in
    rw (p.1, p.2) (λ texts are.
    transform_cause texts c.args.versions c.args.new.now are c.if-versions-ge-MOST_VERSIONS.false few c.in_ok-changes.ensures.sorts
    c.in_err-transforms.field-0.0 c.in_err-transforms.ensures.fault)

pub returns-in_err-bodies-clause-fault : goal.returns-in_err-bodies-clause-fault
returns-in_err-bodies-clause-fault c =
    let p = err_from_is_err_and c.from_residual-in_err-bodies.result c.from_residual-in_err-bodies.ensures.1 in
    rw (p.1, p.2) (λ texts are. bodies_cause (not_patch (store texts) texts (text_of c.args.new.now)) c.in_err-bodies.field-0.0)

pub returns-in_err-names-clause-undefined : goal.returns-in_err-names-clause-undefined
returns-in_err-names-clause-undefined c =
    let p = err_from_is_err_and c.from_residual.result c.from_residual.ensures.1 in
    rw (p.1, p.2) (λ is.
    let same : c.in_err-names.field-0.0 ≡ UndefinedName = cc in
    let all = all_of c.args.versions c.args.new.now in
    absurd (named_by_table all (subst (IsNamesFault all) same c.in_err-names.ensures.fault)))

pub returns-in_err-changes-clause-undefined : goal.returns-in_err-changes-clause-undefined
returns-in_err-changes-clause-undefined c =
    let p = err_from_is_err_and c.from_residual-in_err-changes.result c.from_residual-in_err-changes.ensures.1 in
    rw (p.1, p.2) (λ is.
    let same : fault_of_comparison c.in_err-changes.field-0.0 ≡ UndefinedName = cc in
    absurd (defined_where_compared c.in_err-changes.field-0.0 same))

pub returns-in_err-transforms-clause-undefined : goal.returns-in_err-transforms-clause-undefined
returns-in_err-transforms-clause-undefined c =
    let p = err_from_is_err_and c.from_residual-in_err-transforms.result c.from_residual-in_err-transforms.ensures.1 in
    rw (p.1, p.2) (λ is.
    let same : fault_of_transformer c.in_err-transforms.field-0.0 ≡ UndefinedName = cc in
    absurd (defined_where_transformed c.in_err-transforms.field-0.0 same))

pub returns-in_err-bodies-clause-undefined : goal.returns-in_err-bodies-clause-undefined
returns-in_err-bodies-clause-undefined c =
    let p = err_from_is_err_and c.from_residual-in_err-bodies.result c.from_residual-in_err-bodies.ensures.1 in
    rw (p.1, p.2) (λ is.
    let same : fault_of_bodies c.in_err-bodies.field-0.0 ≡ UndefinedName = cc in
    let text = map bare_def c.args.new.now.definitions in
    undefined_use c.in_ok-names.names text (has_own c.args.versions c.args.new.now c.in_ok-names.names c.in_ok-names.ensures.names)
    (c.in_err-bodies.ensures.unknown (ap Err (unknown_in_bodies c.in_err-bodies.field-0.0 same))))

pub returns-then-not-has_room-clause-fault : goal.returns-then-not-has_room-clause-fault
returns-then-not-has_room-clause-fault c = λ texts are.
    let v = c.args.versions in
    let new = c.args.new.now in
    let table = c.in_ok-names.names in
    let is = c.in_ok-names.ensures.names in
    let t = c.in_ok-names.ensures.table in
    let few : length (all_of v new) ≤ most_names = subst (λ names. length names ≤ most_names) is t.few in
    let meaning = bodies_mean texts v new are table c.as_slice.result.now c.as_slice-2.result.now c.ids_of-changed.result c.ids_of-interface.result
    c.in_ok-bodies.bodies.items is t (c.as_slice.ensures ∙ c.in_ok-changes.ensures.changed) c.ids_of-changed.ensures
    (c.as_slice-2.ensures ∙ c.in_ok-changes.ensures.interface) c.ids_of-interface.ensures c.in_ok-bodies.ensures.bodies in
    let room = c.has_room.ensures table
    ∙ ap (λ bs. not (are_too_many (map (meant_body table) v.store.now ++ map (meant_body table) bs))) c.deref.ensures.value in
    store_cause texts v new are c.if-versions-ge-MOST_VERSIONS.false few c.in_ok-changes.ensures.sorts c.in_ok-transforms.ensures.faultless
    c.has_room.result (full_is texts v new are table c.in_ok-bodies.bodies.items c.has_room.result is t meaning room) c.if-not-has_room.true

pub returns-clause-patch : goal.returns-clause-patch
returns-clause-patch c = λ texts are.
    let v = c.args.versions in
    let new = c.args.new.now in
    let table = c.in_ok-names.names in
    let is = c.in_ok-names.ensures.names in
    let t = c.in_ok-names.ensures.table in
    let few : length (all_of v new) ≤ most_names = subst (λ names. length names ≤ most_names) is t.few in
    let meaning = bodies_mean texts v new are table c.as_slice.result.now c.as_slice-2.result.now c.ids_of-changed.result c.ids_of-interface.result
    c.in_ok-bodies.bodies.items is t (c.as_slice.ensures ∙ c.in_ok-changes.ensures.changed) c.ids_of-changed.ensures
    (c.as_slice-2.ensures ∙ c.in_ok-changes.ensures.interface) c.ids_of-interface.ensures c.in_ok-bodies.ensures.bodies in
    let room = c.has_room.ensures table
    ∙ ap (λ bs. not (are_too_many (map (meant_body table) v.store.now ++ map (meant_body table) bs))) c.deref.ensures.value in
    no_cause texts v new are c.if-versions-ge-MOST_VERSIONS.false few c.in_ok-changes.ensures.sorts c.in_ok-transforms.ensures.faultless
    c.has_room.result (full_is texts v new are table c.in_ok-bodies.bodies.items c.has_room.result is t meaning room) c.if-not-has_room.false

pub returns-clause-names : goal.returns-clause-names
returns-clause-names c = λ texts are.
    names_are texts c.args.versions c.args.new.now are c.in_ok-names.names c.in_ok-names.ensures.names c.in_ok-names.ensures.table

pub returns-clause-ids : goal.returns-clause-ids
returns-clause-ids c = keeps_ids c.args.versions c.args.new.now c.in_ok-names.names c.in_ok-names.ensures.names

pub returns-clause-changed : goal.returns-clause-changed
returns-clause-changed c = λ texts are.
    changed_are texts c.args.versions c.args.new.now are c.in_ok-names.names c.ids_of-changed.result
    (changed_ids texts c.args.versions c.args.new.now are c.in_ok-names.names c.as_slice.result.now c.ids_of-changed.result
    c.in_ok-names.ensures.names c.in_ok-names.ensures.table (c.as_slice.ensures ∙ c.in_ok-changes.ensures.changed) c.ids_of-changed.ensures)

pub returns-clause-interface : goal.returns-clause-interface
returns-clause-interface c = λ texts are.
    interface_are texts c.args.versions c.args.new.now are c.in_ok-names.names c.ids_of-interface.result
    (interface_ids texts c.args.versions c.args.new.now are c.in_ok-names.names c.as_slice-2.result.now c.ids_of-interface.result
    c.in_ok-names.ensures.names c.in_ok-names.ensures.table (c.as_slice-2.ensures ∙ c.in_ok-changes.ensures.interface) c.ids_of-interface.ensures)

pub returns-clause-bodies : goal.returns-clause-bodies
returns-clause-bodies c = λ texts are.
    bodies_are texts c.args.versions c.args.new.now are c.in_ok-names.names c.in_ok-bodies.bodies.items
    (bodies_mean texts c.args.versions c.args.new.now are c.in_ok-names.names c.as_slice.result.now c.as_slice-2.result.now
    c.ids_of-changed.result c.ids_of-interface.result c.in_ok-bodies.bodies.items c.in_ok-names.ensures.names c.in_ok-names.ensures.table
    (c.as_slice.ensures ∙ c.in_ok-changes.ensures.changed) c.ids_of-changed.ensures
    (c.as_slice-2.ensures ∙ c.in_ok-changes.ensures.interface) c.ids_of-interface.ensures c.in_ok-bodies.ensures.bodies)

pub returns-clause-store : goal.returns-clause-store
returns-clause-store c = λ texts are.
    store_with texts c.args.versions c.args.new.now are c.in_ok-names.names c.in_ok-bodies.bodies.items c.in_ok-names.ensures.names c.in_ok-names.ensures.table
    (bodies_mean texts c.args.versions c.args.new.now are c.in_ok-names.names c.as_slice.result.now c.as_slice-2.result.now
    c.ids_of-changed.result c.ids_of-interface.result c.in_ok-bodies.bodies.items c.in_ok-names.ensures.names c.in_ok-names.ensures.table
    (c.as_slice.ensures ∙ c.in_ok-changes.ensures.changed) c.ids_of-changed.ensures
    (c.as_slice-2.ensures ∙ c.in_ok-changes.ensures.interface) c.ids_of-interface.ensures c.in_ok-bodies.ensures.bodies)
    c.in_ok-bodies.ensures.named c.in_ok-bodies.ensures.generation c.in_ok-bodies.ensures.distinct

pub returns-clause-new : goal.returns-clause-new
returns-clause-new c = λ texts are.
    each_is_new texts c.args.versions c.args.new.now are c.in_ok-bodies.bodies.items c.in_ok-bodies.ensures.generation

pub returns-clause-room : goal.returns-clause-room
returns-clause-room c = λ names.
    false_where_not _
    (sym (c.has_room.ensures names
    ∙ ap (λ bs. not (are_too_many (map (meant_body names) c.args.versions.store.now ++ map (meant_body names) bs))) c.deref.ensures.value)
    ∙ c.if-not-has_room.false)
