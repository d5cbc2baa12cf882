use Rattle.std.proofs.Common.{bit_and, arith}
use Rattle.name_sets.proofs.RowLemmas.{get_or-zip_chunks}
use Rattle.name_sets.proofs.words.common.Goals as goal

pub returns : goal.returns
returns c = λ k small. rw (c.load.ensures, c.load-2.ensures) (get_or-zip_chunks bit_and c.args.words.now c.args.other.now c.args.at k small (omega arith) (omega arith))
