use Rattle.std.proofs.Common.{rules, ◌≡◌, ap, ◌∙◌, ℤ, false}
use mir.Syntax.{w64}
use mir.Val.{SFits, of_z}
use Rattle.c_ints.specs.Arithmetic.{is_zero, settled}
use Rattle.c_ints.proofs.Ranges.{is_zero-no}
use Rattle.word_arithmetic.specs.WordOperators.{word_result}
use Rattle.word_arithmetic.proofs.SignedResults.{quotient_is}
use Rattle.word_arithmetic.proofs.signed.divide.Goals as goal

pub returns-in-Some : goal.returns-in-Some
returns-in-Some c =
    let zero : is_zero c.args.y ≡ false = is_zero-no c.args.y (λ e. c.if-y-eq0.false (ap (of_z w64) e)) in
    let fits : SFits w64 c.in-Some.quotient = search rules in
    rw zero (c.settle.ensures ∙ ap (λ (z : ℤ). word_result (settled c.args.kind z)) (quotient_is c.args.x c.args.y c.in-Some.quotient c.ranges.x c.ranges.y fits c.in-Some.ensures.1))
