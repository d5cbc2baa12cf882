-- the divisor isn't zero here, and the machine's quotient is the exact one
use Rattle.std.proofs.Common.{◌≡◌, ap, ◌∙◌, false}
use mir.Syntax.{w128}
use mir.Val.{of_z}
use Rattle.std.proofs.lemmas.Int.{quot_is}
use Rattle.c_ints.specs.Arithmetic.{is_zero, settled}
use Rattle.c_ints.proofs.Ranges.{is_zero-no, quotient_fits}
use Rattle.c_ints.proofs.exact.divide.Goals as goal

pub returns : goal.returns
returns c =
    let divides : is_zero c.args.y ≡ false = is_zero-no c.args.y (λ e. c.if-y-eq0.false (ap (of_z w128) e)) in
    rw divides (c.settle.ensures ∙ ap (settled c.args.kind)
    (quot_is w128 c.args.x c.args.y c.ranges.x c.ranges.y (quotient_fits c.args.kind c.args.x c.args.y c.requires.left)))
