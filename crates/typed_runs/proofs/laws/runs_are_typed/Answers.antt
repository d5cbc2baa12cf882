use Rattle.typed_runs.proofs.Runs as proofs
use Rattle.typed_runs.proofs.laws.runs_are_typed.Goals as goal

pub returns : goal.returns
returns c =
    let law = c.transformed_values_are_typed.ensures in proofs.runs_are_typed (record { fields = law.fields; cells = law.cells })
