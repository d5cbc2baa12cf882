use Rattle.typed_journals.proofs.Results as proofs
use Rattle.typed_journals.proofs.laws.mains_result_is_an_int.Goals as goal

pub returns : goal.returns
returns c =
    let law = c.transformed_values_are_typed.ensures in
    proofs.mains_result_is_an_int c.frames_go_along_skeletons.ensures.depth (record { fields = law.fields; cells = law.cells })
    c.returns_are_ints.ensures
