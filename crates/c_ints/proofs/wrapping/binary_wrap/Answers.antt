-- the operands are converted to the common kind, and where `binary` has a value it is this one
use Rattle.std.proofs.Common.{◌≡◌, ◌∙◌, ap, rules}
use Rattle.c_ints.specs.Arithmetic.{binary_wrapped}
use Rattle.c_ints.specs.Number.{kind_of}
use Rattle.c_ints.proofs.Agreement.{binary_agrees}
use Rattle.c_ints.proofs.KindOf.{binary_wrapped_kind}
use Rattle.c_ints.proofs.Reduction.{held, reduced_range}
use Rattle.c_ints.proofs.wrapping.binary_wrap.Goals as goal

pub operate-requires-clause-left : goal.operate-requires-clause-left
operate-requires-clause-left c = held c.common-kind.result c.reduce.result (rw c.reduce.ensures (reduced_range c.common-kind.result _))

pub operate-requires-clause-right : goal.operate-requires-clause-right
operate-requires-clause-right c = held c.common-kind.result c.reduce-2.result (rw c.reduce-2.ensures (reduced_range c.common-kind.result _))

pub returns-clause-agrees : goal.returns-clause-agrees
returns-clause-agrees c = λ z e.
    let same : c.operate.result ≡ binary_wrapped c.args.op c.args.a c.args.b = search rules in
    same ∙ binary_agrees c.args.op c.args.a c.args.b z e

pub returns-clause-kind : goal.returns-clause-kind
returns-clause-kind c =
    let same : c.operate.result ≡ binary_wrapped c.args.op c.args.a c.args.b = search rules in
    ap kind_of same ∙ binary_wrapped_kind c.args.op c.args.a c.args.b
