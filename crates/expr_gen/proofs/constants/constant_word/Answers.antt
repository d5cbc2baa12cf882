use Rattle.std.proofs.Common.{refl, sym, ◌∙◌}
use Rattle.expr_gen.proofs.KindLaws.{ranged_word}
use Rattle.expr_gen.proofs.constants.constant_word.Goals as goal

pub returns : goal.returns
returns c = c.word_of.ensures.value ∙ sym (ranged_word c.args.n _ refl c.word_of.ensures.range)
