use Rattle.typed_transformers.specs.TransformerTypes.{CellsAreTyped, FieldsAreTyped}
use Rattle.code_run_laws.specs.MoveLaws.{CodeInstallsAlike}
use Rattle.code_install_laws.specs.InstalledTexts.{AcceptedTextsAreCoded, InstallsStand}
use Rattle.code_install_laws.proofs.InstalledTexts.{installs_stand, patches_stand}
use Rattle.code_install_laws.proofs.JournalInstalls.{journal_installs_stand}
use Rattle.code_install_laws.proofs.laws.installs_stand.Goals as goal

by_laws : AcceptedTextsAreCoded → CodeInstallsAlike → FieldsAreTyped → CellsAreTyped → InstallsStand
by_laws coded alike fields cells = installs_stand coded alike (record { fields = fields; cells = cells })

pub returns-clause-follows : goal.returns-clause-follows
returns-clause-follows c =
    let typed = c.transformed_values_are_typed.ensures in
    by_laws c.accepted_texts_are_coded.ensures c.code_moves_as_the_source_machine.ensures.installs typed.fields typed.cells

pub returns-clause-patches : goal.returns-clause-patches
returns-clause-patches c =
    let typed = c.transformed_values_are_typed.ensures in
    patches_stand
    (by_laws c.accepted_texts_are_coded.ensures c.code_moves_as_the_source_machine.ensures.installs typed.fields typed.cells)

pub returns-clause-journals : goal.returns-clause-journals
returns-clause-journals c =
    let typed = c.transformed_values_are_typed.ensures in
    journal_installs_stand
    (patches_stand
    (by_laws c.accepted_texts_are_coded.ensures c.code_moves_as_the_source_machine.ensures.installs typed.fields typed.cells))
