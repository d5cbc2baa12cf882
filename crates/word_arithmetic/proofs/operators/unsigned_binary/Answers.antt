-- `&`, `|` and `^` on the whole words.
use Rattle.std.proofs.Common.{sym, ap, ◌∙◌, Ok}
use Rattle.c_ints.specs.declared.operator.BinOp.{BinOp}
use Rattle.word_arithmetic.specs.WordOperators.{binary_word}
use Rattle.word_arithmetic.proofs.operators.unsigned_binary.Goals as goal
use Rattle.word_arithmetic.proofs.WholeWords.{and_words, or_words, xor_words}

pub returns-in-And : goal.returns-in-And
returns-in-And c = ap Ok c.convert.ensures ∙ sym (and_words c.args.kind c.args.a c.args.b) ∙ ap (λ (o : BinOp). binary_word o c.args.kind c.args.a c.args.b) (sym c.in-And.is)

pub returns-in-Or : goal.returns-in-Or
returns-in-Or c = ap Ok c.convert-in-Or.ensures ∙ sym (or_words c.args.kind c.args.a c.args.b) ∙ ap (λ (o : BinOp). binary_word o c.args.kind c.args.a c.args.b) (sym c.in-Or.is)

pub returns-in-Xor : goal.returns-in-Xor
returns-in-Xor c = ap Ok c.convert-in-Xor.ensures ∙ sym (xor_words c.args.kind c.args.a c.args.b) ∙ ap (λ (o : BinOp). binary_word o c.args.kind c.args.a c.args.b) (sym c.in-Xor.is)
