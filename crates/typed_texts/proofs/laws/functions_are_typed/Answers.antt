use Rattle.typed_texts.proofs.Functions as functions
use Rattle.typed_texts.proofs.laws.functions_are_typed.Goals as goal

pub returns : goal.returns
returns c = functions.functions_are_typed
