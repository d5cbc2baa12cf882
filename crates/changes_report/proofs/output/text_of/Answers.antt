use Rattle.std.proofs.Common.{◌∙◌, ap}
use Rattle.std.proofs.lemmas.Result.{IfOk-weaker}
use Rattle.changes_report.specs.ChangesText.{kind_text}
use Rattle.changes_report.proofs.Assembled.{kind_is, no_kind}
use Rattle.changes_report.proofs.output.text_of.Goals as goal

pub returns-in-Ok : goal.returns-in-Ok
returns-in-Ok c =
    let found = c.in-Ok.ensures in
    IfOk-weaker c.text_of_changes.result _ _
    (λ text is. is ∙ no_kind c.args.old.now.definitions c.args.new.now.definitions c.args.new_text.now found.sorts)
    (c.text_of_changes.ensures (record { differ = found.changed; faces = found.interface; more = found.added }))

pub returns-in-Err-Kind : goal.returns-in-Err-Kind
returns-in-Err-Kind c =
    let kind = c.in-Err-Kind in
    IfOk-weaker c.kind_text.result _ _
    (λ text is. is ∙ ap kind_text c.as_str.ensures
    ∙ kind_is c.args.old.now.definitions c.args.new.now.definitions c.args.new_text.now _ (rw kind.field-0-is at kind.ensures.fault))
    c.kind_text.ensures
