-- a promoted operand keeps its value, which lies in the range of the promoted kind
use Rattle.std.proofs.Common.{◌≡◌, ◌∙◌, ap}
use mir.Syntax.{w128}
use Rattle.std.proofs.lemmas.Int.{to_z-of_z}
use Rattle.c_ints.specs.Kind.{promoted}
use Rattle.c_ints.specs.Number.{kind_of}
use Rattle.c_ints.specs.Arithmetic.{binary_value}
use Rattle.c_ints.proofs.Bits.{bitwise}
use Rattle.c_ints.proofs.Division.{divided}
use Rattle.c_ints.proofs.KindOf.{binary_kind_is}
use Rattle.c_ints.proofs.Ranges.{not_shift, promoted_range}
use Rattle.c_ints.proofs.Reduction.{fits, held}
use Rattle.c_ints.proofs.arithmetic.binary.Goals as goal

pub shift_left-requires : goal.shift_left-requires
shift_left-requires c =
    held c.promoted.result c.value.result
    (rw (c.promoted.ensures, c.kind.ensures) (promoted_range (kind_of c.args.a) c.value.result c.value.ensures.range))

pub shift_right-requires : goal.shift_right-requires
shift_right-requires c =
    held c.promoted-in-Shr.result c.value-in-Shr.result
    (rw (c.promoted-in-Shr.ensures, c.kind-in-Shr.ensures) (promoted_range (kind_of c.args.a) c.value-in-Shr.result c.value-in-Shr.ensures.range))

pub returns-in-Shl : goal.returns-in-Shl
returns-in-Shl c =
    let kind : c.promoted.result ≡ promoted (kind_of c.args.a) = c.promoted.ensures ∙ ap promoted c.kind.ensures in
    let left = to_z-of_z w128 c.value.result (fits (kind_of c.args.a) c.value.result c.value.ensures.range) in
    let right = to_z-of_z w128 c.value-in-Shl.result (fits (kind_of c.args.b) c.value-in-Shl.result c.value-in-Shl.ensures.range) in
    let same : c.shift_left.result ≡ binary_value c.args.op c.args.a c.args.b =
    rw (c.in-Shl.is, ← kind, ← c.value.ensures.value, ← c.value-in-Shl.ensures.value) (rw (left, right) at c.shift_left.ensures) in
    let bits = bitwise c.args.op c.args.a c.args.b c.shift_left.result same in
    record { value = same; kind = binary_kind_is c.args.op c.args.a c.args.b c.shift_left.result same; and = bits.and; or = bits.or; xor = bits.xor; division = divided c.args.op c.args.a c.args.b c.shift_left.result same }

pub returns-in-Shr : goal.returns-in-Shr
returns-in-Shr c =
    let kind : c.promoted-in-Shr.result ≡ promoted (kind_of c.args.a) = c.promoted-in-Shr.ensures ∙ ap promoted c.kind-in-Shr.ensures in
    let left = to_z-of_z w128 c.value-in-Shr.result (fits (kind_of c.args.a) c.value-in-Shr.result c.value-in-Shr.ensures.range) in
    let right = to_z-of_z w128 c.value-in-Shr-2.result (fits (kind_of c.args.b) c.value-in-Shr-2.result c.value-in-Shr-2.ensures.range) in
    let same : c.shift_right.result ≡ binary_value c.args.op c.args.a c.args.b =
    rw (c.in-Shr.is, ← kind, ← c.value-in-Shr.ensures.value, ← c.value-in-Shr-2.ensures.value) (rw (left, right) at c.shift_right.ensures) in
    let bits = bitwise c.args.op c.args.a c.args.b c.shift_right.result same in
    record { value = same; kind = binary_kind_is c.args.op c.args.a c.args.b c.shift_right.result same; and = bits.and; or = bits.or; xor = bits.xor; division = divided c.args.op c.args.a c.args.b c.shift_right.result same }

pub returns-in_default : goal.returns-in_default
returns-in_default c =
    let same : c.balanced.result ≡ binary_value c.args.op c.args.a c.args.b =
    rw (not_shift c.args.op c.in_default.not-Shl c.in_default.not-Shr) c.balanced.ensures in
    let bits = bitwise c.args.op c.args.a c.args.b c.balanced.result same in
    record { value = same; kind = binary_kind_is c.args.op c.args.a c.args.b c.balanced.result same; and = bits.and; or = bits.or; xor = bits.xor; division = divided c.args.op c.args.a c.args.b c.balanced.result same }
