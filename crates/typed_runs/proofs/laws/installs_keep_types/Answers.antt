use Rattle.typed_runs.proofs.AcceptedWorlds as proofs
use Rattle.typed_runs.proofs.laws.installs_keep_types.Goals as goal

pub returns : goal.returns
returns c =
    let law = c.transformed_values_are_typed.ensures in proofs.installs_keep_types (record { fields = law.fields; cells = law.cells })
