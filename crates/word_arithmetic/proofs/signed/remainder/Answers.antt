use Rattle.std.proofs.Common.{rules, ◌≡◌, sym, ap, ◌∙◌, true, false, int_div, int_rem, Ok}
use mir.Syntax.{w64}
use mir.Val.{SFits, of_z}
use Rattle.c_ints.specs.Kind.{holds}
use Rattle.c_ints.specs.Arithmetic.{is_zero}
use Rattle.c_ints.proofs.Ranges.{is_zero-no}
use Rattle.bytecode.specs.Words.{integer_word}
use Rattle.word_arithmetic.proofs.SignedResults.{quotient_is, remainder_is, signed_value}
use Rattle.word_arithmetic.proofs.signed.remainder.Goals as goal

pub returns-then-holds : goal.returns-then-holds
returns-then-holds c =
    let zero : is_zero c.args.y ≡ false = is_zero-no c.args.y (λ e. c.if-y-eq0.false (ap (of_z w64) e)) in
    let fits : SFits w64 c.in-Some.quotient = search rules in
    let fits_too : SFits w64 c.wrapping_rem.result = search rules in
    let held : holds c.args.kind (int_div c.args.x c.args.y) ≡ true = ap (holds c.args.kind) (sym (quotient_is c.args.x c.args.y c.in-Some.quotient c.ranges.x c.ranges.y fits c.in-Some.ensures.1)) ∙ sym c.holds.ensures ∙ c.if-holds.true in
    rw (zero, held, signed_value c.args.kind (int_rem c.args.x c.args.y) c.requires)
    (ap Ok (c.signed_word.ensures ∙ ap integer_word (remainder_is c.args.x c.args.y c.wrapping_rem.result c.ranges.x c.ranges.y fits_too c.wrapping_rem.ensures)))
