use Rattle.std.proofs.Common.{◌≡◌, Some, option_copied, sym, ap, ap₂, ◌∙◌}
use Rattle.std.proofs.lemmas.Result.{IfOk-weaker}
use Rattle.c_tree.specs.Bare.{bare_def, bare_kind}
use Rattle.c_semantics.specs.Texts.{definition}
use Rattle.source_model.specs.Installs.{carried}
use Rattle.source_programs.specs.Programs.{text_at}
use Rattle.source_install.proofs.CarriedCells.{carried_is, lent_cells}
use Rattle.source_install.proofs.globals.new_cells.Goals as goal

pub returns-in_ok-name-in-Some : goal.returns-in_ok-name-in-Some
returns-in_ok-name-in-Some c = λ number w follows shared own cells defines.
    let q = text_at c.args.program.now number in
    let d = bare_kind c.args.kind.now in
    let name = c.args.name.now in
    let old = c.args.old.now.list.items in
    let then = bare_def c.in-Some.then.now in
    let was : definition w.text name ≡ Some then = ap (λ text. definition text name) follows.text ∙ sym (c.in-Some.ensures follows.programs) in
    let held = lent_cells name w old c.old_cells.result c.slice_of.result.now shared c.old_cells.ensures c.slice_of.ensures in
    ap₂ (λ n cs. record { name = n; cells = cs }) c.in_ok-name-in-Some.ensures.ok
    (c.in_ok-cells-in-Some.ensures
    ∙ carried_is w.text q c.args.changes.now follows.named follows.are name d cells defines own w then was
    (option_copied c.cells_change-change.result) c.cells_change-change.ensures c.slice_of.result.now held
    c.same_interface-stays.result c.same_interface-stays.ensures)

pub returns-in-None : goal.returns-in-None
returns-in-None c = λ number w follows shared own cells defines.
    let q = text_at c.args.program.now number in
    let d = bare_kind c.args.kind.now in
    let name = c.args.name.now in
    IfOk-weaker c.named_cells.result _ _
    (λ made is.
    is
    ∙ ap (λ o. record { name = name; cells = carried w w.text q d name o })
    (sym (ap (λ text. definition text name) follows.text ∙ sym (c.in-None.ensures follows.programs))))
    c.named_cells.ensures
