-- The words that `literal` gives a value are the numbers.
use Rattle.std.proofs.Common.{◌≡◌, ◌≢◌, ℕ, suc, zero, ◌<◌, ◌≤◌, Bool, true, false, ◌&&◌, ◌||◌, ◌==◌, not, List, [], ◌∷◌, ◌++◌, length, take, drop, get_or, Option, Some, None, Result, Err, sym, refl, ap, ◌∙◌, subst, ⊎_elim, inl, inr, arith, append_assoc, length-append, take-append-drop}
use Rattle.std.proofs.lemmas.Bool.{lt-ltb, ltb-true, eqb-true, eqb-false, ne_eqb, eq-eqb}
use Rattle.std.specs.Prelude.{◌⊎◌, is_ok, nat_lt, slice_index, codes}
use Rattle.std.specs.List.{list_all}
use Rattle.std.specs.Char.{digit_value}
use Rattle.std.specs.Str.Parse.{AllDigits, IsNumeral}
use Rattle.std.proofs.str.Laws.{order}
use Rattle.std.proofs.Math.Seq.{take-append_seam, drop-append_seam}
use Rattle.std.proofs.lemmas.Slice.Eq.{bytes_eq-Decides}
use Rattle.c_ints.specs.declared.int.Int.{Int}
use Rattle.c_ints.specs.declared.constant.LiteralFault.{LiteralFault}
use Rattle.c_ints.specs.declared.constant.LiteralFault.TheVariants.{Shape}
use Rattle.c_ints.specs.declared.constant.Radix.{Radix}
use Rattle.c_ints.specs.declared.constant.Radix.TheVariants.{Decimal, Octal, Hexadecimal}
use Rattle.c_ints.specs.declared.constant.Suffix.{Suffix}
use Rattle.c_ints.specs.Literal.{base, Begins, suffix_of, IsLiteral, IsSomeLiteral, literal_value}
use Rattle.c_lexer.specs.Words.{starts_with}
use Rattle.c_lexer.specs.Numbers.{is_numeral, is_typed, is_constant, some_cut, is_number}
use Rattle.c_lexer.proofs.LongestOfThree.{both_true}
use Rattle.c_lexer.proofs.Spelling.{bool_same}

or_left : (a b : Bool) → a ≡ true → (a || b) ≡ true
or_left true b h = refl
or_left false b h = let k : false ≡ true = h in cc

or_right : (a b : Bool) → b ≡ true → (a || b) ≡ true
or_right true b h = refl
or_right false b h = h

or_cases : (a b : Bool) → (a || b) ≡ true → (a ≡ true) ⊎ (b ≡ true)
or_cases true b h = inl refl
or_cases false b h = inr h

both : (a b : Bool) → a ≡ true → b ≡ true → (a && b) ≡ true
both true b h k = k
both false b h k = let e : false ≡ true = h in cc

not_true : (a : Bool) → not a ≡ true → a ≡ false
not_true false h = refl
not_true true h = let e : false ≡ true = h in cc

not_false : (a : Bool) → a ≡ false → not a ≡ true
not_false false h = refl
not_false true h = let e : true ≡ false = h in cc

-- a cut that passes is found
cut_at : (test : List ℕ → List ℕ → Bool) (text : List ℕ) (n k : ℕ) → k ≤ n → test (take k text) (drop k text) ≡ true → some_cut test text n ≡ true
cut_at test text zero k within h = let e : k ≡ 0 = omega arith in subst (λ j. test (take j text) (drop j text) ≡ true) e h
cut_at test text (suc n) k within h =
    ⊎_elim
    (λ last. let e : k ≡ suc n = omega arith in or_left (test (take (suc n) text) (drop (suc n) text)) (some_cut test text n) (subst (λ j. test (take j text) (drop j text) ≡ true) e h))
    (λ upto. or_right (test (take (suc n) text) (drop (suc n) text)) (some_cut test text n) (cut_at test text n k upto h))
    (order n k)

-- and what is found is a cut that passes
cut_told : (test : List ℕ → List ℕ → Bool) (text : List ℕ) (n : ℕ) → some_cut test text n ≡ true → (k : ℕ) × (test (take k text) (drop k text) ≡ true)
cut_told test text zero h = (0, h)
cut_told test text (suc n) h =
    ⊎_elim (λ here. (suc n, here)) (λ later. cut_told test text n later) (or_cases (test (take (suc n) text) (drop (suc n) text)) (some_cut test text n) h)

-- the test of digits
all_digits : (radix : ℕ) (ds : List ℕ) → AllDigits radix ds → list_all (λ c. nat_lt (digit_value c) radix) ds ≡ true
all_digits radix [] h = refl
all_digits radix (c ∷ ds) h =
    both (nat_lt (digit_value c) radix) (list_all (λ c. nat_lt (digit_value c) radix) ds) (lt-ltb (digit_value c) radix h.0) (all_digits radix ds h.1)

digits_told : (radix : ℕ) (ds : List ℕ) → list_all (λ c. nat_lt (digit_value c) radix) ds ≡ true → AllDigits radix ds
digits_told radix [] h = tt
digits_told radix (c ∷ ds) h =
    let k = both_true (nat_lt (digit_value c) radix) (list_all (λ c. nat_lt (digit_value c) radix) ds) h in (ltb-true (digit_value c) radix k.0, digits_told radix ds k.1)

numeral : (radix : ℕ) (ds : List ℕ) → IsNumeral radix ds → is_numeral radix ds ≡ true
numeral radix ds h = both (nat_lt 0 (length ds)) (list_all (λ c. nat_lt (digit_value c) radix) ds) (lt-ltb 0 (length ds) h.0) (all_digits radix ds h.1)

numeral_told : (radix : ℕ) (ds : List ℕ) → is_numeral radix ds ≡ true → IsNumeral radix ds
numeral_told radix ds h =
    let k = both_true (nat_lt 0 (length ds)) (list_all (λ c. nat_lt (digit_value c) radix) ds) h in (ltb-true 0 (length ds) k.0, digits_told radix ds k.1)

typed_told : (radix : Radix) (digits : List ℕ) (suffix : Option Suffix) → is_typed radix digits suffix ≡ true
    → (s : Suffix) × (suffix ≡ Some s) × (is_ok (literal_value radix digits s) ≡ true)
typed_told radix digits None h = let k : false ≡ true = h in cc
typed_told radix digits (Some s) h = (s, refl, h)

-- a constant with a value
HasValue : List ℕ → Type 0
HasValue word = (radix : Radix) × (digits : List ℕ) × (suffix : Suffix) × IsLiteral word radix digits suffix × (is_ok (literal_value radix digits suffix) ≡ true)

-- the parts of a constant's text
value_of_cut : (word prefix rest : List ℕ) (radix : Radix) (k : ℕ) → word ≡ prefix ++ rest → Begins radix prefix (take k rest) → is_constant radix (take k rest) (drop k rest) ≡ true → HasValue word
unfolding HasValue
value_of_cut word prefix rest radix k whole begins h =
    let parts = both_true (is_numeral (base radix) (take k rest)) (is_typed radix (take k rest) (suffix_of (drop k rest))) h in
    let typed = typed_told radix (take k rest) (suffix_of (drop k rest)) parts.1 in (
      radix,
      take k rest,
      typed.0,
      record {
        prefix = prefix;
        ending = drop k rest;
        cut = whole ∙ ap (λ t. prefix ++ t) (sym (take-append-drop k rest)) ∙ sym (append_assoc prefix (take k rest) (drop k rest));
        begins = begins;
        numeral = numeral_told (base radix) (take k rest) parts.0;
        ends = typed.1;
      },
      typed.2,
    )

constant_cut : (radix : Radix) (digits ending : List ℕ) (suffix : Suffix) → IsNumeral (base radix) digits → suffix_of ending ≡ Some suffix
    → is_ok (literal_value radix digits suffix) ≡ true → some_cut (is_constant radix) (digits ++ ending) (length (digits ++ ending)) ≡ true
constant_cut radix digits ending suffix digits_are ends ok =
    cut_at (is_constant radix) (digits ++ ending) (length (digits ++ ending)) (length digits) (omega (arith, length-append digits ending))
    (rw (take-append_seam digits ending, drop-append_seam digits ending)
    (both (is_numeral (base radix) digits) (is_typed radix digits (suffix_of ending)) (numeral (base radix) digits digits_are) (rw ends ok)))

first_digit : (digits ending : List ℕ) → 0 < length digits → get_or (digits ++ ending) 0 0 ≡ get_or digits 0 0
first_digit [] ending some = absurd (omega arith)
first_digit (d ∷ ds) ending some = refl

first_taken : (word : List ℕ) (k : ℕ) → 0 < length (take k word) → get_or (take k word) 0 0 ≡ get_or word 0 0
first_taken [] zero some = refl
first_taken [] (suc k) some = refl
first_taken (b ∷ bs) zero some = absurd (omega arith)
first_taken (b ∷ bs) (suc k) some = refl

-- the tests of the three forms
decimal : List ℕ → Bool
decimal word = not (slice_index word 0 == 48) && some_cut (is_constant Decimal) word (length word)

octal : List ℕ → Bool
octal word = (slice_index word 0 == 48) && some_cut (is_constant Octal) word (length word)

hexadecimal : List ℕ → Bool
hexadecimal word = (starts_with (codes "0x") word || starts_with (codes "0X") word) && some_cut (is_constant Hexadecimal) (drop 2 word) (length (drop 2 word))

three : (word : List ℕ) → is_number word ≡ ((decimal word || octal word) || hexadecimal word)
unfolding is_number decimal octal hexadecimal
three word = refl

-- what a number's text is
decimal_told : (word : List ℕ) → decimal word ≡ true → HasValue word
unfolding decimal
decimal_told word h =
    let parts = both_true (not (slice_index word 0 == 48)) (some_cut (is_constant Decimal) word (length word)) h in
    let cut = cut_told (is_constant Decimal) word (length word) parts.1 in
    let digits = numeral_told 10 (take cut.0 word) (both_true (is_numeral 10 (take cut.0 word)) (is_typed Decimal (take cut.0 word) (suffix_of (drop cut.0 word))) cut.1).0 in
    value_of_cut word [] word Decimal cut.0 refl
    (refl, λ nought. eqb-false (slice_index word 0) 48 (not_true (slice_index word 0 == 48) parts.0) (sym (first_taken word cut.0 digits.0) ∙ nought)) cut.1

octal_told : (word : List ℕ) → octal word ≡ true → HasValue word
unfolding octal
octal_told word h =
    let parts = both_true (slice_index word 0 == 48) (some_cut (is_constant Octal) word (length word)) h in
    let cut = cut_told (is_constant Octal) word (length word) parts.1 in
    let digits = numeral_told 8 (take cut.0 word) (both_true (is_numeral 8 (take cut.0 word)) (is_typed Octal (take cut.0 word) (suffix_of (drop cut.0 word))) cut.1).0 in
    value_of_cut word [] word Octal cut.0 refl (refl, first_taken word cut.0 digits.0 ∙ eqb-true (slice_index word 0) 48 parts.0) cut.1

front_told : (front word : List ℕ) → starts_with front word ≡ true → word ≡ front ++ drop (length front) word
front_told front word h =
    let same = (bytes_eq-Decides front (take (length front) word)).0 h in
    sym (take-append-drop (length front) word) ∙ ap (λ t. t ++ drop (length front) word) (sym same)

hexadecimal_told : (word : List ℕ) → hexadecimal word ≡ true → HasValue word
unfolding hexadecimal
hexadecimal_told word h =
    let parts = both_true (starts_with (codes "0x") word || starts_with (codes "0X") word) (some_cut (is_constant Hexadecimal) (drop 2 word) (length (drop 2 word))) h in
    let cut = cut_told (is_constant Hexadecimal) (drop 2 word) (length (drop 2 word)) parts.1 in
    ⊎_elim
    (λ lower. value_of_cut word (codes "0x") (drop 2 word) Hexadecimal cut.0 (front_told (codes "0x") word lower) (inl refl) cut.1)
    (λ upper. value_of_cut word (codes "0X") (drop 2 word) Hexadecimal cut.0 (front_told (codes "0X") word upper) (inr refl) cut.1)
    (or_cases (starts_with (codes "0x") word) (starts_with (codes "0X") word) parts.0)

number_told : (word : List ℕ) → is_number word ≡ true → HasValue word
number_told word h =
    ⊎_elim (λ one. ⊎_elim (decimal_told word) (octal_told word) (or_cases (decimal word) (octal word) one)) (hexadecimal_told word)
    (or_cases (decimal word || octal word) (hexadecimal word) (sym (three word) ∙ h))

-- a constant with a value is a number
is_decimal : (word digits ending : List ℕ) (suffix : Suffix) → word ≡ digits ++ ending → slice_index digits 0 ≢ 48 → IsNumeral 10 digits → suffix_of ending ≡ Some suffix
    → is_ok (literal_value Decimal digits suffix) ≡ true → decimal word ≡ true
unfolding decimal
is_decimal word digits ending suffix cut other numeral_is ends ok =
    rw cut (both (not (slice_index (digits ++ ending) 0 == 48)) (some_cut (is_constant Decimal) (digits ++ ending) (length (digits ++ ending)))
    (not_false (slice_index (digits ++ ending) 0 == 48) (ne_eqb (slice_index (digits ++ ending) 0) 48 (λ nought. other (sym (first_digit digits ending numeral_is.0) ∙ nought))))
    (constant_cut Decimal digits ending suffix numeral_is ends ok))

is_octal : (word digits ending : List ℕ) (suffix : Suffix) → word ≡ digits ++ ending → slice_index digits 0 ≡ 48 → IsNumeral 8 digits → suffix_of ending ≡ Some suffix
    → is_ok (literal_value Octal digits suffix) ≡ true → octal word ≡ true
unfolding octal
is_octal word digits ending suffix cut nought numeral_is ends ok =
    rw cut (both (slice_index (digits ++ ending) 0 == 48) (some_cut (is_constant Octal) (digits ++ ending) (length (digits ++ ending)))
    (eq-eqb (slice_index (digits ++ ending) 0) 48 (first_digit digits ending numeral_is.0 ∙ nought))
    (constant_cut Octal digits ending suffix numeral_is ends ok))

is_hexadecimal : (word rest digits ending : List ℕ) (suffix : Suffix) → (starts_with (codes "0x") word || starts_with (codes "0X") word) ≡ true → drop 2 word ≡ digits ++ ending
    → IsNumeral 16 digits → suffix_of ending ≡ Some suffix → is_ok (literal_value Hexadecimal digits suffix) ≡ true → hexadecimal word ≡ true
unfolding hexadecimal
is_hexadecimal word rest digits ending suffix front cut numeral_is ends ok =
    both (starts_with (codes "0x") word || starts_with (codes "0X") word) (some_cut (is_constant Hexadecimal) (drop 2 word) (length (drop 2 word))) front
    (rw cut (constant_cut Hexadecimal digits ending suffix numeral_is ends ok))

number_is : (word : List ℕ) (radix : Radix) (digits : List ℕ) (suffix : Suffix) → IsLiteral word radix digits suffix → is_ok (literal_value radix digits suffix) ≡ true → is_number word ≡ true
number_is word Decimal digits suffix lit ok =
    let cut : word ≡ digits ++ lit.ending = lit.cut ∙ ap (λ p. p ++ digits ++ lit.ending) lit.begins.0 in
    three word ∙ or_left (decimal word || octal word) (hexadecimal word) (or_left (decimal word) (octal word) (is_decimal word digits lit.ending suffix cut lit.begins.1 lit.numeral lit.ends ok))
number_is word Octal digits suffix lit ok =
    let cut : word ≡ digits ++ lit.ending = lit.cut ∙ ap (λ p. p ++ digits ++ lit.ending) lit.begins.0 in
    three word ∙ or_left (decimal word || octal word) (hexadecimal word) (or_right (decimal word) (octal word) (is_octal word digits lit.ending suffix cut lit.begins.1 lit.numeral lit.ends ok))
number_is word Hexadecimal digits suffix lit ok =
    three word ∙ or_right (decimal word || octal word) (hexadecimal word)
    (⊎_elim
    (λ lower.
    let cut : word ≡ 48 ∷ 120 ∷ (digits ++ lit.ending) = lit.cut ∙ ap (λ p. p ++ digits ++ lit.ending) lower in
    is_hexadecimal word [] digits lit.ending suffix (rw cut refl) (ap (drop 2) cut) lit.numeral lit.ends ok)
    (λ upper.
    let cut : word ≡ 48 ∷ 88 ∷ (digits ++ lit.ending) = lit.cut ∙ ap (λ p. p ++ digits ++ lit.ending) upper in
    is_hexadecimal word [] digits lit.ending suffix (rw cut refl) (ap (drop 2) cut) lit.numeral lit.ends ok)
    lit.begins)

-- `literal` answers a value exactly at the numbers
pub literal_tells : (word : List ℕ) (result : Result Int LiteralFault)
    → ((radix : Radix) (digits : List ℕ) (suffix : Suffix) → IsLiteral word radix digits suffix → result ≡ literal_value radix digits suffix)
    → IsSomeLiteral word ⊎ (result ≡ Err Shape) → is_ok result ≡ is_number word
unfolding HasValue
literal_tells word result value some = bool_same (is_ok result) (is_number word)
    (λ ok. ⊎_elim
    (λ one. number_is word one.0 one.1.0 one.1.1.0 one.1.1.1 (subst (λ r. is_ok r ≡ true) (value one.0 one.1.0 one.1.1.0 one.1.1.1) ok))
    (λ none. let k : false ≡ true = sym (ap is_ok none) ∙ ok in cc) some)
    (λ number.
    let found = number_told word number in
    subst (λ r. is_ok r ≡ true) (sym (value found.0 found.1 found.2 found.3)) found.4)
