use Rattle.word_data.proofs.StackWords.{word_at}
use Rattle.word_data.proofs.stack.word_under.Goals as goal

pub returns : goal.returns
returns c = word_at c.args.words.now c.args.stack.low c.args.stack.height c.args.newer c.requires.taken
