use Rattle.accepted_code.proofs.FineCode as fine
use Rattle.accepted_code.proofs.laws.accepted_code_is_verified.Goals as goal

pub returns : goal.returns
returns c = fine.code_is_verified c.accepted_functions_have_fine_code.ensures
