use Rattle.accepted_code.proofs.TextCode as text_code
use Rattle.accepted_code.proofs.laws.code_of_texts_is_that_of_their_functions.Goals as goal

pub returns : goal.returns
returns c = text_code.code_is_that_of_functions
