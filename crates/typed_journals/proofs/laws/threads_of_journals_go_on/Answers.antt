use Rattle.typed_journals.proofs.Journals as proofs
use Rattle.typed_journals.proofs.laws.threads_of_journals_go_on.Goals as goal

pub returns : goal.returns
returns c =
    let law = c.transformed_values_are_typed.ensures in
    proofs.threads_of_journals_go_on c.frames_go_along_skeletons.ensures.depth (record { fields = law.fields; cells = law.cells })
