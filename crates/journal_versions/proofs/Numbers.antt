-- Numbers in decimal.
use Rattle.std.proofs.Common.{◌≡◌, ℕ, ◌+◌, ◌*◌, ◌-◌, ◌/◌, ◌%◌, ◌^◌, ◌<◌, ◌≤◌, List, [], ◌∷◌, ◌++◌, Option, Some, None, true, false, ◌&&◌, cond, eqb, ltb, leb, decimal, length, get_or, drop, drop-cons, suc, refl, sym, ap, ◌∙◌, arith, inl, inr}
use Rattle.std.specs.Char.{is_ascii_digit}
use Rattle.std.specs.Str.{all_ascii_digits}
use Rattle.std.proofs.lemmas.Bool.{and_parts, and_right, cases_lt, eq-eqb, false≢true, le-leb, le-ltb, leb-true, lt-ltb, ltb-true, ne_eqb, not_from_true}
use Rattle.std.proofs.lemmas.Fmt.{decimal-digits_value, decimal_by_steps, decimal_digit, digits_decimal, digits_value-decimal}
use Rattle.std.proofs.lemmas.Option.{cond_some}
use Rattle.std.proofs.lemmas.Str.Parse.{IsNumeralModel, numerals_by_fold, tells_all_ascii_digits}
use Rattle.journal_versions.specs.Journals.{leads, number, value, value_after}
use Rattle.journal_versions.proofs.Splits.{Without, digits_without}

-- these definitions are std's numerals
own : IsNumeralModel (λ ds. all_ascii_digits ds ≡ true) (λ ds. value_after 0 ds)
own =
    numerals_by_fold (λ ds. all_ascii_digits ds ≡ true) tells_all_ascii_digits (λ n ds. value_after n ds)
    (record { empty = λ n. refl; more = λ n c cs k. refl })

pub decimal_digits : (n : ℕ) → n < 2 ^ 64 → all_ascii_digits (decimal n) ≡ true
decimal_digits n small = digits_decimal own n small

pub decimal_without : (b n : ℕ) → b < 48 → n < 2 ^ 64 → Without b (decimal n)
decimal_without b n low small = digits_without b low (decimal n) (decimal_digits n small)

-- ---- the first digit

-- it is no `0`, unless the number is 0
abbrev FirstOf : ℕ → List ℕ → Type 0
FirstOf n [] = ⊥
FirstOf n (c ∷ cs) = 0 < n → 48 < c

first_more : (n : ℕ) (ds : List ℕ) → 10 ≤ n → FirstOf (n / 10) ds → FirstOf n (ds ++ ((48 + n % 10) ∷ []))
first_more n [] large first = absurd first
first_more n (c ∷ cs) large first = λ some. first (omega arith)

first_of : (n : ℕ) → n < 2 ^ 64 → FirstOf n (decimal n)
first_of = decimal_by_steps (λ n ds. FirstOf n ds) (λ n small some. omega arith) first_more

leads_by : (n : ℕ) (ds : List ℕ) → 0 < n → FirstOf n ds → leads ds ≡ true
leads_by n [] some first = absurd first
leads_by n (c ∷ []) some first = refl
leads_by n (c ∷ d ∷ cs) some first = let above : 48 < c = first some in rw (ne_eqb c 48 (λ e. omega (arith, above, e)))

leads_of : (n : ℕ) → n < 2 ^ 64 → leads (decimal n) ≡ true
leads_of n small =
    elim (cases_lt n 10) [
      | inl one ↦ rw (decimal_digit n one)
      | inr more ↦ leads_by n (decimal n) (omega (arith, more)) (first_of n small)
    ]

lead_parts : (ds : List ℕ) → leads ds ≡ true → (0 < length ds) × (get_or ds 0 0 ≡ 48 → length ds ≡ 1)
lead_parts [] is = absurd (false≢true is)
lead_parts (c ∷ []) is = (omega arith, λ e. refl)
lead_parts (c ∷ d ∷ cs) is = (omega arith, λ e. absurd (false≢true (sym (not_from_true (eqb c 48) (eq-eqb c 48 e)) ∙ is)))

-- ---- a number and its digits

-- a number is read from its digits
pub number_reads : (low end n : ℕ) → n < 2 ^ 64 → low ≤ n → n < end → number low end (decimal n) ≡ Some n
number_reads low end n small from below =
    rw (leads_of n small, decimal_digits n small, digits_value-decimal own n small, le-leb low n from, lt-ltb n end below)

-- digits from which a number is read are the number's
pub number_is : (low end : ℕ) (ds : List ℕ) (n : ℕ) → end ≤ 2 ^ 64 → number low end ds ≡ Some n → (ds ≡ decimal n) × ((low ≤ n) × (n < end))
number_is low end ds n small is =
    let p = cond_some (leads ds && all_ascii_digits ds && leb low (value ds) && ltb (value ds) end) (value ds) n is in
    let q = and_parts (leads ds && all_ascii_digits ds && leb low (value ds)) (ltb (value ds) end) p.0 in
    let r = and_parts (leads ds && all_ascii_digits ds) (leb low (value ds)) q.0 in
    let s = and_parts (leads ds) (all_ascii_digits ds) r.0 in
    let below = ltb-true (value ds) end q.1 in
    let from = leb-true low (value ds) r.1 in
    let lead = lead_parts ds s.0 in
    let fits : value ds < 2 ^ 64 = omega (arith, below, small) in
    let same : decimal (value ds) ≡ ds = decimal-digits_value own ds s.1 lead.0 lead.1 fits in
    let eq : value ds ≡ n = p.1 in
    (sym same ∙ ap decimal eq, (omega (arith, from, eq), omega (arith, below, eq)))

-- ---- digits that are read from the left

-- what digits write after those of n, if it is below `end`
abbrev pub value_below : ℕ → ℕ → List ℕ → Option ℕ
value_below end n ds = cond (all_ascii_digits ds && ltb (value_after n ds) end) (Some (value_after n ds)) None

pub past_digit : (end n c : ℕ) (cs : List ℕ) → is_ascii_digit c ≡ true → value_below end n (c ∷ cs) ≡ value_below end (n * 10 + (c - 48)) cs
past_digit end n c cs is =
    ap (λ b. cond ((b && all_ascii_digits cs) && ltb (value_after n (c ∷ cs)) end) (Some (value_after n (c ∷ cs))) None) is

pub at_other : (end n c : ℕ) (cs : List ℕ) → is_ascii_digit c ≡ false → value_below end n (c ∷ cs) ≡ None
at_other end n c cs is =
    ap (λ b. cond ((b && all_ascii_digits cs) && ltb (value_after n (c ∷ cs)) end) (Some (value_after n (c ∷ cs))) None) is

value_grows : (n : ℕ) (ds : List ℕ) → n ≤ value_after n ds
value_grows n [] = omega arith
value_grows n (c ∷ cs) = omega (arith, value_grows (n * 10 + (c - 48)) cs)

pub too_large : (end n : ℕ) (ds : List ℕ) → end ≤ n → value_below end n ds ≡ None
too_large end n ds past =
    let grows = value_grows n ds in
    let above : end ≤ value_after n ds = omega (arith, grows, past) in
    ap (λ b. cond b (Some (value_after n ds)) None)
    (and_right (all_ascii_digits ds) (ltb (value_after n ds) end) (le-ltb (value_after n ds) end above))

pub none_left : (end n : ℕ) → n < end → value_below end n [] ≡ Some n
none_left end n below = rw (lt-ltb n end below)

-- one more digit takes the value to the end
pub past_end : (end n i : ℕ) (ds : List ℕ) → value_below end 0 ds ≡ value_below end n (drop i ds) → i < length ds
    → is_ascii_digit (get_or ds i 0) ≡ true → end ≤ n * 10 + (get_or ds i 0 - 48) → value_below end 0 ds ≡ None
past_end end n i ds same within digit past =
    same ∙ ap (λ more. value_below end n more) (drop-cons ds i 0 within) ∙ past_digit end n (get_or ds i 0) (drop (suc i) ds) digit
    ∙ too_large end (n * 10 + (get_or ds i 0 - 48)) (drop (suc i) ds) past
