use Rattle.name_sets.proofs.RowLemmas.{has_bits_cases}
use Rattle.name_sets.proofs.words.has_bits.Goals as goal

pub returns : goal.returns
returns c = has_bits_cases c.args.lanes
