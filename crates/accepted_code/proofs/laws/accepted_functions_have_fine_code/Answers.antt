use Rattle.accepted_code.proofs.FineCode as fine
use Rattle.accepted_code.proofs.laws.accepted_functions_have_fine_code.Goals as goal

pub returns : goal.returns
returns c =
    fine.functions_have_fine_code c.accepted_functions_leave_at_ends.ensures c.code_is_well_formed.ensures.formed
    c.constants_are_in_range.ensures c.functions_are_typed.ensures c.limits_of_texts_are_enough.ensures.few
    c.limits_of_texts_are_enough.ensures.room
