use Rattle.std.proofs.Common.{◌∙◌, List, map, ap, subst, sym, inl, inr}
use Rattle.std.specs.Prelude.{All}
use Rattle.std.specs.List.{flat_map}
use Rattle.std.proofs.lemmas.Result.{IfOk-weaker, IfOk-from_err}
use Rattle.c_tree.specs.Bare.{bare_def}
use Rattle.type_transformers.specs.Changes.{IsChange, name_of}
use Rattle.type_transformers.specs.declared.change.Change.{Change}
use Rattle.changes_report.specs.Shown.{change_text}
use Rattle.changes_report.proofs.Assembled.{fault_is, patch_is}
use Rattle.changes_report.proofs.Transformed.{transforms_are}
use Rattle.changes_report.proofs.output.text_of_changes.Goals as goal

pub returns-in-Ok : goal.returns-in-Ok
returns-in-Ok c = λ are.
    let old = c.args.old.now.definitions in
    let new = c.args.new.now.definitions in
    let changes = c.as_slice.result.now in
    IfOk-weaker c.text_of_patch.result _ _
    (λ text is. is ∙ patch_is old new c.args.new_text.now c.args.changes.now _ are c.in-Ok.ensures.faultless
    (ap (λ program. flat_map (change_text (map bare_def program.definitions)) changes) c.program.ensures.tree
    ∙ transforms_are (map bare_def old) (map bare_def new) changes
    (ap (map name_of) c.as_slice.ensures.value ∙ c.in-Ok.ensures.names)
    (subst {A = List Change} (All (IsChange (map bare_def old) (map bare_def new))) (sym c.as_slice.ensures.value) c.in-Ok.ensures.changes)))
    c.text_of_patch.ensures

pub returns-in-Err : goal.returns-in-Err
returns-in-Err c = λ are.
    elim c.in-Err.ensures.fault [
      | inl memory ↦ IfOk-from_err c.text_of_fault.result _ (c.text_of_fault.ensures.memory memory)
      | inr found ↦ IfOk-weaker c.text_of_fault.result _ _
          (λ text is. is ∙ fault_is c.args.old.now.definitions c.args.new.now.definitions c.args.new_text.now c.in-Err.fault found)
          c.text_of_fault.ensures.line
    ]
