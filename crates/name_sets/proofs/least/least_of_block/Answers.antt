use Rattle.std.proofs.lemmas.Bool.Decides.{when_false}
use Rattle.name_sets.proofs.LeastLemmas.{eight_empty}
use Rattle.name_sets.proofs.least.least_of_block.Goals as goal

pub returns-else-has_bits-clause-least : goal.returns-else-has_bits-clause-least
returns-else-has_bits-clause-least c = λ set.
    eight_empty c.args.names.now set c.args.base c.args.lanes c.args.so_far (when_false _ _ c.if-has_bits.false c.has_bits.ensures)
