use Rattle.typed_transformers.proofs.AcceptedTexts as laws
use Rattle.typed_transformers.proofs.laws.transformed_values_are_typed.Goals as goal

pub returns-clause-fields : goal.returns-clause-fields
returns-clause-fields c =
    laws.fields_are_typed c.first_fault_is_least.ensures.none c.faultless_values_have_their_types.ensures.objects

pub returns-clause-cells : goal.returns-clause-cells
returns-clause-cells c =
    laws.cells_are_typed c.first_fault_is_least.ensures.none c.faultless_values_have_their_types.ensures.globals
