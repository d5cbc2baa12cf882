use Rattle.typed_texts.proofs.OneType as one
use Rattle.typed_texts.proofs.laws.expressions_have_one_type.Goals as goal

pub returns : goal.returns
returns c = one.expressions_have_one_type
