-- The numbers of a journal, which have one or two digits.
use Rattle.std.proofs.Common.{◌≡◌, ℕ, ◌+◌, ◌*◌, ◌-◌, ◌/◌, ◌%◌, ◌<◌, ◌≤◌, List, [], ◌∷◌, ◌++◌, Some, true, ◌&&◌, leb, ltb, decimal, ap, ap₂, sym, ◌∙◌, arith, inl, inr}
use Rattle.std.proofs.lemmas.Bool.{and_from, and_parts, cases_lt, le-leb, leb-true, lt-ltb, ltb-true, ne_eqb}
use Rattle.std.proofs.lemmas.Fmt.{decimal_digit, decimal_step}
use Rattle.std.proofs.lemmas.Option.{cond_some, none-some}
use Rattle.dsu_journal.specs.Journals.{is_digit, number}
use Rattle.dsu_journal.proofs.Newlines.{NoNewline}

two_digits : (n : ℕ) → 10 ≤ n → n < 100 → decimal n ≡ (48 + n / 10) ∷ (48 + n % 10) ∷ []
two_digits n low high =
    decimal_step n low (omega arith) ∙ ap (λ tens. tens ++ ((48 + n % 10) ∷ [])) (decimal_digit (n / 10) (omega arith))

-- a property of the digits of a number below 100
pub by_digits : (P : ℕ → List ℕ → Type 0) → ((n : ℕ) → n < 10 → P n ((48 + n) ∷ []))
    → ((n : ℕ) → 10 ≤ n → n < 100 → P n ((48 + n / 10) ∷ (48 + n % 10) ∷ [])) → (n : ℕ) → n < 100 → P n (decimal n)
by_digits P one two n high =
    elim (cases_lt n 10) [
      | inl small ↦ rw (decimal_digit n small) (one n small)
      | inr large ↦ rw (two_digits n large high) (two n large high)
    ]

digit_passes : (c : ℕ) → 48 ≤ c → c ≤ 57 → is_digit c ≡ true
digit_passes c low high = and_from (leb 48 c) (leb c 57) (le-leb 48 c low) (le-leb c 57 high)

digit_within : (c : ℕ) → is_digit c ≡ true → (48 ≤ c) × (c ≤ 57)
digit_within c is = let p = and_parts (leb 48 c) (leb c 57) is in (leb-true 48 c p.0, leb-true c 57 p.1)

-- a number is read from its digits
pub number_reads : (n : ℕ) → n < 100 → number (decimal n) ≡ Some n
number_reads =
    by_digits (λ n ds. number ds ≡ Some n)
    (λ n small. rw (digit_passes (48 + n) (omega arith) (omega arith)) (ap Some (omega arith)))
    (λ n low high.
    let tens = 48 + n / 10 in
    let ones = 48 + n % 10 in
    rw (lt-ltb 48 tens (omega arith), digit_passes tens (omega arith) (omega arith), digit_passes ones (omega arith) (omega arith))
    (ap Some (omega arith)))

-- digits from which a number is read are the number's
pub number_is : (ds : List ℕ) (n : ℕ) → number ds ≡ Some n → ds ≡ decimal n
number_is [] n is = absurd (none-some n is)
number_is (a ∷ []) n is =
    let p = cond_some (is_digit a) (a - 48) n is in
    let within = digit_within a p.0 in
    let same : a ≡ 48 + n = omega (arith, within, p.1) in
    ap (λ c. c ∷ []) same ∙ sym (decimal_digit n (omega (arith, within, p.1)))
number_is (a ∷ b ∷ []) n is =
    let p = cond_some (ltb 48 a && is_digit a && is_digit b) (10 * (a - 48) + (b - 48)) n is in
    let both = and_parts (ltb 48 a && is_digit a) (is_digit b) p.0 in
    let first = and_parts (ltb 48 a) (is_digit a) both.0 in
    let above = ltb-true 48 a first.0 in
    let tens = digit_within a first.1 in
    let ones = digit_within b both.1 in
    let same_tens : a ≡ 48 + n / 10 = omega (arith, above, tens, ones, p.1) in
    let same_ones : b ≡ 48 + n % 10 = omega (arith, above, tens, ones, p.1) in
    ap₂ (λ x y. x ∷ y ∷ []) same_tens same_ones ∙ sym (two_digits n (omega (arith, above, tens, ones, p.1)) (omega (arith, above, tens, ones, p.1)))
number_is (a ∷ b ∷ c ∷ ds) n is = absurd (none-some n is)

-- digits are no newline
pub digits_in_line : (n : ℕ) → n < 100 → NoNewline (decimal n)
digits_in_line =
    by_digits (λ n ds. NoNewline ds) (λ n small. (ne_eqb (48 + n) 10 (λ e. omega (arith, e)), tt))
    (λ n low high. (ne_eqb (48 + n / 10) 10 (λ e. omega (arith, e)), (ne_eqb (48 + n % 10) 10 (λ e. omega (arith, e)), tt)))
