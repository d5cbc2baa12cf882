-- the digits and the suffix are those of the definition, and a value that is cut has the same type
use Rattle.std.proofs.Common.{◌≡◌, ◌-◌, ap, ◌∙◌, sym, arith, false, Some, take, drop, length, length-drop}
use Rattle.std.specs.Prelude.{◌==◌}
use Rattle.std.specs.Str.Parse.{digits_value}
use Rattle.std.proofs.lemmas.Bool.{ne_eqb}
use Rattle.std.proofs.lemmas.List.{take_all}
use Rattle.c_ints.specs.Literal.{base, suffix_of, typed}
use Rattle.c_ints.proofs.Digits.{typed_capped}
use Rattle.c_ints.proofs.constant.read_digits.Goals as goal

pub returns-in-Some : goal.returns-in-Some
returns-in-Some c =
    let some : (c.leading_digits-run.result.count == 0) ≡ false = ne_eqb c.leading_digits-run.result.count 0 c.if-run-eq0.false in
    let rest : take (length c.args.rest.now - c.leading_digits-run.result.count) (drop c.leading_digits-run.result.count c.args.rest.now) ≡ drop c.leading_digits-run.result.count c.args.rest.now =
    take_all _ _ (omega (arith, length-drop c.leading_digits-run.result.count c.args.rest.now)) in
    let ends : suffix_of (drop c.leading_digits-run.result.count c.args.rest.now) ≡ Some c.in-Some.suffix =
    ap suffix_of (sym rest) ∙ sym c.suffix_of.ensures ∙ c.in-Some.is in
    rw (← c.leading_digits-run.ensures.count, some, ends)
    (c.typed.ensures ∙ ap (typed c.args.radix c.in-Some.suffix) c.leading_digits-run.ensures.value
    ∙ typed_capped c.args.radix c.in-Some.suffix (digits_value (base c.args.radix) (take c.leading_digits-run.result.count c.args.rest.now)))
