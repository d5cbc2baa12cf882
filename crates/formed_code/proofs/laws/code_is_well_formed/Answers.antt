use Rattle.formed_code.proofs.Whole as whole
use Rattle.formed_code.proofs.laws.code_is_well_formed.Goals as goal

pub returns : goal.returns
returns c = record { formed = whole.of_tree }
