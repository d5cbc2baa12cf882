use Rattle.std.proofs.Common.{◌∙◌}
use Rattle.c_lexer.proofs.NumberWords.{literal_tells}
use Rattle.c_lexer.proofs.scan.has_value.Goals as goal

pub returns : goal.returns
returns c = c.is_ok.ensures.value ∙ literal_tells c.args.text.now c.literal.result c.literal.ensures.value c.literal.ensures.some
