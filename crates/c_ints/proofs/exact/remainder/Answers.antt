-- the divisor isn't zero here, and the machine's quotient and remainder are the exact ones
use Rattle.std.proofs.Common.{◌≡◌, ap, ◌∙◌, sym, true, false, Ok, int_div}
use mir.Syntax.{w128}
use mir.Val.{of_z}
use Rattle.std.proofs.lemmas.Int.{quot_is, rem_is}
use Rattle.c_ints.specs.Kind.{holds}
use Rattle.c_ints.specs.Number.{number}
use Rattle.c_ints.specs.Arithmetic.{is_zero}
use Rattle.c_ints.proofs.Ranges.{is_zero-no, quotient_fits, remainder_range}
use Rattle.c_ints.proofs.exact.remainder.Goals as goal

pub new-requires : goal.new-requires
new-requires c =
    rw (rem_is w128 c.args.x c.args.y c.ranges.x c.ranges.y) (remainder_range c.args.kind c.args.x c.args.y c.requires.left)

pub returns-then-holds : goal.returns-then-holds
returns-then-holds c =
    let divides : is_zero c.args.y ≡ false = is_zero-no c.args.y (λ e. c.if-y-eq0.false (ap (of_z w128) e)) in
    let quotient = quot_is w128 c.args.x c.args.y c.ranges.x c.ranges.y (quotient_fits c.args.kind c.args.x c.args.y c.requires.left) in
    let kept : holds c.args.kind (int_div c.args.x c.args.y) ≡ true =
    ap (holds c.args.kind) (sym quotient) ∙ sym c.holds.ensures ∙ c.if-holds.true in
    rw (divides, kept)
    (ap Ok (c.new.ensures ∙ ap (number c.args.kind) (rem_is w128 c.args.x c.args.y c.ranges.x c.ranges.y)))

pub returns-else-holds : goal.returns-else-holds
returns-else-holds c =
    let divides : is_zero c.args.y ≡ false = is_zero-no c.args.y (λ e. c.if-y-eq0.false (ap (of_z w128) e)) in
    let quotient = quot_is w128 c.args.x c.args.y c.ranges.x c.ranges.y (quotient_fits c.args.kind c.args.x c.args.y c.requires.left) in
    let lost : holds c.args.kind (int_div c.args.x c.args.y) ≡ false =
    ap (holds c.args.kind) (sym quotient) ∙ sym c.holds.ensures ∙ c.if-holds.false in
    rw (divides, lost)
