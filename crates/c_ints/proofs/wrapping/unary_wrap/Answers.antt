-- the opposite of a value of a kind, and its complement, are exact in 128 bits
use Rattle.std.proofs.Common.{◌≡◌, ◌∙◌, ap}
use Rattle.c_ints.specs.Kind.{promoted}
use Rattle.c_ints.specs.Number.{kind_of, number, reduced}
use Rattle.c_ints.specs.Arithmetic.{unary_wrapped}
use Rattle.c_ints.proofs.Agreement.{unary_agrees}
use Rattle.c_ints.proofs.KindOf.{unary_wrapped_kind}
use Rattle.c_ints.proofs.Ranges.{exact_opposite, exact_complement, within}
use Rattle.c_ints.proofs.wrapping.unary_wrap.Goals as goal
use Rattle.c_ints.proofs.wrapping.unary_wrap.Goals.{After-wrapped, After-wrapped-in-Complement}

negate : (c : After-wrapped) → c.wrapped.result ≡ unary_wrapped c.args.op c.args.a
negate c =
    let kind : c.promoted-kind.result ≡ promoted (kind_of c.args.a) = c.promoted-kind.ensures ∙ ap promoted c.kind.ensures in
    let opposite = exact_opposite c.value-x.result (within (kind_of c.args.a) c.value-x.result c.value-x.ensures.range) in
    rw (c.in-Negate.is, ← kind, ← c.value-x.ensures.value)
    (c.wrapped.ensures ∙ ap (λ z. number c.promoted-kind.result (reduced c.promoted-kind.result z)) opposite)

complement : (c : After-wrapped-in-Complement) → c.wrapped-in-Complement.result ≡ unary_wrapped c.args.op c.args.a
complement c =
    let kind : c.promoted-kind.result ≡ promoted (kind_of c.args.a) = c.promoted-kind.ensures ∙ ap promoted c.kind.ensures in
    let exact = exact_complement c.value-x.result (within (kind_of c.args.a) c.value-x.result c.value-x.ensures.range) in
    rw (c.in-Complement.is, ← kind, ← c.value-x.ensures.value)
    (c.wrapped-in-Complement.ensures ∙ ap (λ z. number c.promoted-kind.result (reduced c.promoted-kind.result z)) exact)

pub returns-in-Negate-clause-value : goal.returns-in-Negate-clause-value
returns-in-Negate-clause-value c = negate c

pub returns-in-Negate-clause-agrees : goal.returns-in-Negate-clause-agrees
returns-in-Negate-clause-agrees c = λ z e. negate c ∙ unary_agrees c.args.op c.args.a z e

pub returns-in-Complement-clause-value : goal.returns-in-Complement-clause-value
returns-in-Complement-clause-value c = complement c

pub returns-in-Complement-clause-agrees : goal.returns-in-Complement-clause-agrees
returns-in-Complement-clause-agrees c = λ z e. complement c ∙ unary_agrees c.args.op c.args.a z e

pub returns-in-Negate-clause-kind : goal.returns-in-Negate-clause-kind
returns-in-Negate-clause-kind c = ap kind_of (negate c) ∙ unary_wrapped_kind c.args.op c.args.a

pub returns-in-Complement-clause-kind : goal.returns-in-Complement-clause-kind
returns-in-Complement-clause-kind c = ap kind_of (complement c) ∙ unary_wrapped_kind c.args.op c.args.a
