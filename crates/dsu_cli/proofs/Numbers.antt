-- What `parse` reads, against the numbers of the words.
use Rattle.std.proofs.Common.{◌≡◌, ◌≢◌, ◌<◌, ◌≤◌, ◌^◌, ℕ, true, false, List, Some, None, Result, Ok, Err, length, get_or, cond, refl, ap, subst, arith, lt-ltb, ltb-true}
use Rattle.std.specs.Result.{OkIff}
use Rattle.std.specs.Str.{all_ascii_digits}
use Rattle.std.specs.Str.Parse.{ParsesUnsigned, digits_value}
use Rattle.std.proofs.lemmas.Bool.{and_parts, false_from_ne_true, le-leb, leb-true}
use Rattle.std.proofs.lemmas.Str.Parse.{numerals_by_value, tells_all_ascii_digits, parse_plain}
use Rattle.dsu_cli.specs.Words.{is_number}

-- what a number's test says
pub record IsNumber (digits least most : ℕ) (word : List ℕ) : Type 0 where
  pub all_digits : all_ascii_digits word ≡ true
  pub some : 0 < length word
  pub few : length word ≤ digits
  pub above : least ≤ digits_value 10 word
  pub below : digits_value 10 word ≤ most

pub number_parts : (digits least most : ℕ) (word : List ℕ) → is_number digits least most word ≡ true → IsNumber digits least most word
number_parts digits least most word e =
    let a = and_parts _ _ e in
    let b = and_parts _ _ a.1 in
    let c = and_parts _ _ b.1 in
    let d = and_parts _ _ c.1 in
    record {
      all_digits = a.0;
      some = ltb-true _ _ b.0;
      few = leb-true _ _ c.0;
      above = leb-true _ _ d.0;
      below = leb-true _ _ d.1;
    }

pub number_from : (digits least most : ℕ) (word : List ℕ) → IsNumber digits least most word → is_number digits least most word ≡ true
number_from digits least most word h =
    rw (h.all_digits, lt-ltb _ _ h.some, le-leb _ _ h.few, le-leb _ _ h.above, le-leb _ _ h.below) refl

module _ {E : Type 0} (digits least most : ℕ) (word : List ℕ) (r : Result ℕ E) (reads : ParsesUnsigned 64 10 word r) (no_plus : get_or word 0 0 ≢ 43) where
  parsed : OkIff r ((all_ascii_digits word ≡ true) × (0 < length word) × (digits_value 10 word < 2 ^ 64)) (digits_value 10 word)
  parsed = parse_plain (numerals_by_value _ tells_all_ascii_digits) 64 word r reads no_plus

  pub number_read : (n : ℕ) → r ≡ Ok n → length word ≤ digits → least ≤ n → n ≤ most
      → Some n ≡ cond (is_number digits least most word) (Some (digits_value 10 word)) None
  number_read n is few above below =
      let p = subst (λ (q : Result ℕ E). OkIff q ((all_ascii_digits word ≡ true) × (0 < length word) × (digits_value 10 word < 2 ^ 64)) (digits_value 10 word)) is parsed in
      let value : n ≡ digits_value 10 word = p.1 in
      let fits = number_from digits least most word (record { all_digits = p.0.0; some = p.0.1; few = few; above = omega arith; below = omega arith }) in
      rw fits (ap Some value)

  pub number_missed : (e : E) → r ≡ Err e → most < 2 ^ 64 → None ≡ cond (is_number digits least most word) (Some (digits_value 10 word)) None
  number_missed e is fits =
      let p = subst (λ (q : Result ℕ E). OkIff q ((all_ascii_digits word ≡ true) × (0 < length word) × (digits_value 10 word < 2 ^ 64)) (digits_value 10 word)) is parsed in
      let never : is_number digits least most word ≡ false = false_from_ne_true _ (λ e.
      let h = number_parts digits least most word e in
      p (h.all_digits, h.some, omega (arith, h.below))) in
      rw never refl
