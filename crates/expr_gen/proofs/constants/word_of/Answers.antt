use Rattle.std.proofs.Common.{subst}
use Rattle.c_ints.specs.Kind.{InRange}
use Rattle.c_ints.specs.Number.{kind_of}
use Rattle.expr_gen.proofs.constants.word_of.Goals as goal

pub returns-clause-range : goal.returns-clause-range
returns-clause-range c = subst (InRange (kind_of c.args.n)) c.value.ensures.value c.value.ensures.range
