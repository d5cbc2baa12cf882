use Rattle.std.proofs.Common.{refl, arith}
use Rattle.word_data.proofs.StackWords.{left}
use Rattle.word_data.proofs.stack.leave.Goals as goal

pub returns-clause-leaves : goal.returns-clause-leaves
returns-clause-leaves c =
    left c.args.words.now c.args.stack.low c.args.stack.height c.args.taken c.args.word _ _ c.requires.taken c.requires.space refl (omega arith)
