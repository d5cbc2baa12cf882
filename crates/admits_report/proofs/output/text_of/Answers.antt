use Rattle.std.proofs.Common.{[], ◌∷◌, Err, Option, map, refl, ap, sym, subst}
use Rattle.std.proofs.lemmas.Result.{IfOk-weaker}
use Rattle.c_tree.specs.BareExpr.{Bytes}
use Rattle.c_tree.specs.Bare.{bare_def}
use Rattle.c_tree.specs.declared.def.Program.{Program}
use Rattle.c_semantics.specs.Changes.{changed, interface}
use Rattle.c_semantics.specs.SourceTexts.{text_of}
use Rattle.c_semantics.specs.Store.{store}
use Rattle.source_model.specs.declared.patch.NotPatch.{NotPatch}
use Rattle.source_model.specs.Patches.{not_patch}
use Rattle.code_store.specs.Stored.{IsStoreOf}
use Rattle.brought_bodies.specs.Unknown.{HasUnknownFunction}
use Rattle.accepted_bodies.proofs.DefinedUses.{accepted_texts_are_known, accepted_texts_have_none}
use Rattle.installed_versions.proofs.Firsts.{own_name}
use Rattle.patch_build.specs.declared.fault.PatchFault.{PatchFault}
use Rattle.patch_build.specs.declared.fault.PatchFault.TheVariants.{Not, UndefinedName, Memory}
use Rattle.patch_build.specs.Faults.{IsCause}
use Rattle.patch_build.specs.Versions.{AreVersions}
use Rattle.admits_report.specs.AdmitsText.{IsTextBy, IsPatchText}
use Rattle.admits_report.specs.Answered.{IsFaultText}
use Rattle.admits_report.proofs.Named.{changed_is, interface_is}
use Rattle.admits_report.proofs.output.text_of.Goals as goal

pub returns-in-Ok : goal.returns-in-Ok
returns-in-Ok c =
    let p = c.args.old.now in
    let old = text_of p in
    let new = text_of c.args.new.now in
    let v = c.versions-versions.result in
    let are : AreVersions (old ∷ []) v = c.versions-versions.ensures.versions (old ∷ []) [] c.in_ok-installed.ensures refl in
    let patch = c.in-Ok.patch in
    let e = c.in-Ok.ensures in
    let differ = changed old.definitions new.definitions in
    let faces = interface old.definitions new.definitions in
    IfOk-weaker c.text_of_patch.result _ _
    (λ text is. subst {A = Option NotPatch} (λ o. IsTextBy o p c.args.old_text.now c.args.new.now c.args.new_text.now text.items)
    (sym (e.patch (old ∷ []) are))
    (subst {A = Program} (λ tree. IsPatchText tree c.args.old_text.now differ faces text.items) c.program.ensures.tree is))
    (c.text_of_patch.ensures differ faces
    (subst {A = Program} (λ tree. IsStoreOf v.names.now (store (text_of tree ∷ [])) v.store.now) (sym c.program.ensures.tree) are.store_is)
    (changed_is old new.definitions v.names.now patch.names patch.changed are.names_are e.ids (e.changed (old ∷ []) are))
    (interface_is old new.definitions v.names.now patch.names patch.interface are.names_are e.ids (e.interface (old ∷ []) are)))

by_fault : (p : Program) (text : Bytes) (q : Program) (newer : Bytes) (fault : PatchFault) (o : Option NotPatch) (output : Bytes) → IsCause o fault
    → IsFaultText fault newer output → IsTextBy o p text q newer output
by_fault p text q newer (Not cause) o output caused is = subst {A = Option NotPatch} (λ o. IsTextBy o p text q newer output) (sym caused) is
by_fault p text q newer UndefinedName o output caused is = absurd is
by_fault p text q newer Memory o output caused is = absurd is

pub returns : goal.returns
returns c =
    let p = c.args.old.now in
    let old = text_of p in
    let new = text_of c.args.new.now in
    let are : AreVersions (old ∷ []) c.versions-versions.result =
    c.versions-versions.ensures.versions (old ∷ []) [] c.in_ok-installed.ensures refl in
    IfOk-weaker c.text_of_fault.result _ _
    (λ text is. by_fault p c.args.old_text.now c.args.new.now c.args.new_text.now c.in-Err.fault (not_patch (store (old ∷ [])) (old ∷ []) new) text.items
    (c.in-Err.ensures.fault (old ∷ []) are) is)
    c.text_of_fault.ensures

pub first_version-requires : goal.first_version-requires
first_version-requires c = c.accepted_programs_start.ensures c.args.old_text.now c.args.old.now c.requires.old

pub text_of_patch-requires : goal.text_of_patch-requires
text_of_patch-requires c =
    let p = c.args.old.now in
    let old = text_of p in
    let v = c.versions-versions.result in
    let are : AreVersions (old ∷ []) v = c.versions-versions.ensures.versions (old ∷ []) [] c.in_ok-installed.ensures refl in
    subst {A = Program} (λ tree. HasUnknownFunction v.names.now (map bare_def tree.definitions) → ⊥) (sym c.program.ensures.tree)
    (accepted_texts_are_known v.names.now old (record { bytes = c.args.old_text.now; accepted = c.requires.old; is = refl })
    (λ name there. (are.names_are.members name).1 (own_name old name there)))

pub text_of_fault-requires : goal.text_of_fault-requires
text_of_fault-requires c = λ is.
    let new = text_of c.args.new.now in
    accepted_texts_have_none new (record { bytes = c.args.new_text.now; accepted = c.requires.new; is = refl })
    (c.in-Err.ensures.undefined (ap Err is))
