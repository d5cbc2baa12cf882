-- the opposite of a value of a kind, and its complement, are exact in 128 bits
use Rattle.std.proofs.Common.{◌≡◌, ◌∙◌, ap, Ok}
use Rattle.c_ints.specs.Kind.{promoted}
use Rattle.c_ints.specs.Number.{kind_of, number, reduced}
use Rattle.c_ints.specs.Arithmetic.{settled, unary_value}
use Rattle.c_ints.proofs.KindOf.{unary_kind_is}
use Rattle.c_ints.proofs.Ranges.{exact_opposite, exact_complement, within}
use Rattle.c_ints.proofs.arithmetic.unary.Goals as goal

pub returns-in-Negate : goal.returns-in-Negate
returns-in-Negate c =
    let kind : c.promoted-kind.result ≡ promoted (kind_of c.args.a) = c.promoted-kind.ensures ∙ ap promoted c.kind.ensures in
    let opposite = exact_opposite c.value-x.result (within (kind_of c.args.a) c.value-x.result c.value-x.ensures.range) in
    let same : c.settle.result ≡ unary_value c.args.op c.args.a =
    rw (c.in-Negate.is, ← kind, ← c.value-x.ensures.value) (c.settle.ensures ∙ ap (settled c.promoted-kind.result) opposite) in
    record { value = same; kind = unary_kind_is c.args.op c.args.a c.settle.result same }

pub returns-in-Complement : goal.returns-in-Complement
returns-in-Complement c =
    let kind : c.promoted-kind.result ≡ promoted (kind_of c.args.a) = c.promoted-kind.ensures ∙ ap promoted c.kind.ensures in
    let complement = exact_complement c.value-x.result (within (kind_of c.args.a) c.value-x.result c.value-x.ensures.range) in
    let same : Ok c.wrapped.result ≡ unary_value c.args.op c.args.a =
    rw (c.in-Complement.is, ← kind, ← c.value-x.ensures.value)
    (ap Ok (c.wrapped.ensures ∙ ap (λ z. number c.promoted-kind.result (reduced c.promoted-kind.result z)) complement)) in
    record { value = same; kind = unary_kind_is c.args.op c.args.a (Ok c.wrapped.result) same }
