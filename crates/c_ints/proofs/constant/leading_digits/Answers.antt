-- the digits end at the first byte that is none
use Rattle.std.proofs.Common.{◌≡◌, ℕ, get_or, true, false, arith, below_more, ap, ◌∙◌, sym, ◌*◌, ◌+◌, min, take, length}
use Rattle.std.specs.Char.{is_digit, digit_value}
use Rattle.std.specs.Str.Parse.{digits_value}
use Rattle.std.proofs.lemmas.List.Sums.{prefix_len_is}
use Rattle.std.proofs.lemmas.Int.Digits.{digits_value_more}
use Rattle.std.proofs.lemmas.Bool.{lt-ltb}
use Rattle.c_ints.proofs.Digits.{capped_step, digit_no}
use Rattle.c_ints.proofs.constant.leading_digits.Goals as goal

pub returns-in_default-clause-count : goal.returns-in_default-clause-count
returns-in_default-clause-count c =
    let stops : is_digit (get_or c.args.bytes.now c.loop-i.i 0) c.base_of-base.result ≡ false =
    rw (← c.from.ensures) (digit_no c.from.result c.base_of-base.result c.in_default.ensures.value) in
    rw (← c.base_of-base.ensures.value)
    (sym (prefix_len_is (λ (x : ℕ). is_digit x c.base_of-base.result) c.args.bytes.now c.loop-i.i 0 (omega arith) c.loop-i.invariant.passed (λ _. stops)))

pub loop-i-preserved : goal.loop-i-preserved
loop-i-preserved c =
    let here : is_digit (get_or c.args.bytes.now c.loop-i.i 0) c.base_of-base.result ≡ true =
    rw (← c.from.ensures) (lt-ltb (digit_value c.from.result) c.base_of-base.result c.in-Some.ensures.value.0) in
    let so_far : ℕ = digits_value c.base_of-base.result (take c.loop-i.i c.args.bytes.now) in
    let digit : c.in-Some.digit ≡ digit_value (get_or c.args.bytes.now c.loop-i.i 0) =
    c.in-Some.ensures.value.1 ∙ ap digit_value c.from.ensures in
    record {
      passed = below_more (λ k. is_digit (get_or c.args.bytes.now k 0) c.base_of-base.result ≡ true) c.loop-i.i c.loop-i.invariant.passed here;
      value =
          c.more-value.ensures
          ∙ ap (λ (n : ℕ). min (n * c.base_of-base.result + c.in-Some.digit) 18446744073709551616) c.loop-i.invariant.value
          ∙ capped_step so_far c.base_of-base.result c.in-Some.digit 18446744073709551616 (omega (arith, c.base_of-base.ensures.least))
          ∙ ap (λ (n : ℕ). min (so_far * c.base_of-base.result + n) 18446744073709551616) digit
          ∙ ap (λ (n : ℕ). min n 18446744073709551616) (sym (digits_value_more c.base_of-base.result c.args.bytes.now c.loop-i.i c.loop-i-test.true));
    }

pub returns-clause-count : goal.returns-clause-count
returns-clause-count c =
    rw (← c.base_of-base.ensures.value)
    (sym (prefix_len_is (λ (x : ℕ). is_digit x c.base_of-base.result) c.args.bytes.now (length c.args.bytes.now) 0 (omega arith)
    (λ k h. c.loop-i.invariant.passed k (omega (arith, h, c.loop-i-test.false))) (λ h. absurd (omega (arith, h)))))
