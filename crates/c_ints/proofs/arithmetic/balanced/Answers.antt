-- what a value becomes at the common kind lies in its range
use Rattle.c_ints.proofs.Reduction.{held, reduced_range}
use Rattle.c_ints.proofs.arithmetic.balanced.Goals as goal

pub operate-requires-clause-left : goal.operate-requires-clause-left
operate-requires-clause-left c = held c.common-kind.result c.reduce.result (rw c.reduce.ensures (reduced_range c.common-kind.result _))

pub operate-requires-clause-right : goal.operate-requires-clause-right
operate-requires-clause-right c = held c.common-kind.result c.reduce-2.result (rw c.reduce-2.ensures (reduced_range c.common-kind.result _))
