use Rattle.patch_faults.proofs.ValuesOfTypes.{fields_have_types, cells_have_types}
use Rattle.patch_faults.proofs.laws.transformed_values_have_their_types.Goals as goal

pub returns-clause-fields : goal.returns-clause-fields
returns-clause-fields c = fields_have_types

pub returns-clause-cells : goal.returns-clause-cells
returns-clause-cells c = cells_have_types
