use Rattle.std.proofs.Common.{arith}
use Rattle.word_frames.proofs.WordRows.{reversed_row}
use Rattle.word_frames.proofs.blocks.copy_reversed.Goals as goal

pub returns-clause-copied : goal.returns-clause-copied
returns-clause-copied c =
    reversed_row c.loop-i.words c.args.words.now c.args.to c.args.from c.args.count (λ i j p q e. c.loop-i.invariant.copied i j p (omega arith) e)
