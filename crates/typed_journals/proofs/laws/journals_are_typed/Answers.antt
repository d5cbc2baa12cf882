use Rattle.typed_journals.proofs.Journals as proofs
use Rattle.typed_journals.proofs.laws.journals_are_typed.Goals as goal

pub returns : goal.returns
returns c =
    let law = c.transformed_values_are_typed.ensures in proofs.journals_are_typed (record { fields = law.fields; cells = law.cells })
