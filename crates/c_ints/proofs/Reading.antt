-- The constant that a text writes, as a computation: the radix by the first bytes, then as many digits as there are,
-- then the suffix. It agrees with the definition.
use Rattle.std.proofs.Common.{◌≡◌, ◌≢◌, ℕ, zero, suc, ◌<◌, ◌≤◌, ◌⊎◌, inl, inr, refl, sym, ap, ◌∙◌, arith, List, [], ◌∷◌, ◌++◌, take, drop, length, Bool, true, false, Some, None, Err, Option, Result, lit≤}
use Rattle.std.specs.Prelude.{◌==◌, ◌||◌, slice_index, if◌then◌else◌}
use Rattle.std.specs.List.{prefix_len}
use Rattle.std.specs.Option.{option_map_or}
use Rattle.std.specs.Char.{is_digit, digit_value}
use Rattle.std.specs.Str.Parse.{AllDigits, IsNumeral, digits_value}
use Rattle.std.proofs.lemmas.Bool.{eqb-true, eqb-false, ne_eqb, eq-eqb, or_cases, or_from, both_ways}
use Rattle.std.proofs.lemmas.List.{take_at, drop_at, take-append-drop}
use Rattle.std.proofs.lemmas.List.Folds.{length-prefix_len}
use Rattle.c_ints.specs.declared.int.Int.{Int}
use Rattle.c_ints.specs.declared.constant.Radix.{Radix}
use Rattle.c_ints.specs.declared.constant.Radix.TheVariants.{Decimal, Octal, Hexadecimal}
use Rattle.c_ints.specs.declared.constant.Suffix.{Suffix}
use Rattle.c_ints.specs.declared.constant.LiteralFault.{LiteralFault}
use Rattle.c_ints.specs.declared.constant.LiteralFault.TheVariants.{Shape}
use Rattle.c_ints.specs.Literal.{base, is_u, is_l, suffix_of, literal_value, IsLiteral, IsSomeLiteral}
use Rattle.c_ints.proofs.Digits.{digits_end, digits_all, base_most, letter, typed_written}

-- `x` or `X`
abbrev pub is_x : ℕ → Bool
is_x c = c == 120 || c == 88

-- the radix by the first two bytes
abbrev pub radix_of : List ℕ → Radix
radix_of bytes =
    if slice_index bytes 0 == 48 then (if is_x (slice_index bytes 1) then Hexadecimal else Octal) else Decimal

-- how many bytes come before the digits
abbrev pub prefix_of : Radix → ℕ
prefix_of Decimal = 0
prefix_of Octal = 0
prefix_of Hexadecimal = 2

-- a constant without its prefix
abbrev pub reading_of : Radix → List ℕ → Result Int LiteralFault
reading_of radix rest =
    let n = prefix_len (λ c. is_digit c (base radix)) rest in
    if n == 0 then Err Shape else option_map_or (literal_value radix (take n rest)) (suffix_of (drop n rest)) (Err Shape)

abbrev pub reading : List ℕ → Result Int LiteralFault
reading bytes = reading_of (radix_of bytes) (drop (prefix_of (radix_of bytes)) bytes)

-- digits with a suffix after them are read as such
reading_of_is : (radix : Radix) (digits ending : List ℕ) (s : Suffix) → IsNumeral (base radix) digits → suffix_of ending ≡ Some s → reading_of radix (digits ++ ending) ≡ literal_value radix digits s
reading_of_is radix digits ending s h e =
    let many = digits_end (base radix) digits ending s (base_most radix) h.1 e in
    let some : (length digits == 0) ≡ false = ne_eqb (length digits) 0 (λ z. absurd (omega (arith, h.0))) in
    rw (many, some, take_at digits ending (length digits) refl, drop_at digits ending (length digits) refl, e) refl

-- a text is digits of the radix with a suffix after them
abbrev Written : Radix → List ℕ → Type 0
Written radix rest = (digits : List ℕ) × ((ending : List ℕ) × ((s : Suffix) × ((rest ≡ digits ++ ending) × (IsNumeral (base radix) digits × (suffix_of ending ≡ Some s)))))

-- what is read is written
pub written_digits : (radix : Radix) (rest : List ℕ) → Written radix rest ⊎ (reading_of radix rest ≡ Err Shape)
written_digits radix rest = by_count (prefix_len (λ c. is_digit c (base radix)) rest) (length-prefix_len (λ (c : ℕ). is_digit c (base radix)) rest) (digits_all (base radix) rest)
  where
    by_count : (n : ℕ) → length (take n rest) ≡ n → AllDigits (base radix) (take n rest) → Written radix rest ⊎ ((if n == 0 then Err Shape else option_map_or (literal_value radix (take n rest)) (suffix_of (drop n rest)) (Err Shape)) ≡ Err Shape)
    by_count zero l all = inr refl
    by_count (suc m) l all = by_suffix (suffix_of (drop (suc m) rest)) refl
      where
        by_suffix : (o : Option Suffix) → suffix_of (drop (suc m) rest) ≡ o → Written radix rest ⊎ ((if suc m == 0 then Err Shape else option_map_or (literal_value radix (take (suc m) rest)) o (Err Shape)) ≡ Err Shape)
        by_suffix None e = inr (rw (ne_eqb (suc m) 0 (λ z. absurd (omega arith))) refl)
        by_suffix (Some s) e = inl (take (suc m) rest, (drop (suc m) rest, (s, (sym (take-append-drop (suc m) rest), ((omega arith, all), e)))))

-- ---- the radix

-- neither a digit of at most 10 nor a letter of a suffix is `x` or `X`
digit_not_x : (c : ℕ) → digit_value c < 10 → is_x c ≡ false
digit_not_x c h = or_from (c == 120) (c == 88) (ne_eqb c 120 (λ e. far 120 (lit≤ tt) e)) (ne_eqb c 88 (λ e. far 88 (lit≤ tt) e))
  where
    far : (n : ℕ) → 10 ≤ digit_value n → c ≡ n → ⊥
    far n d e = let near : digit_value n < 10 = rw (← e) h in absurd (omega arith)

letter_not_x : (c : ℕ) → (is_u c || is_l c) ≡ true → is_x c ≡ false
letter_not_x c h = or_from (c == 120) (c == 88) (ne_eqb c 120 (λ e. other 120 refl e)) (ne_eqb c 88 (λ e. other 88 refl e))
  where
    other : (n : ℕ) → (is_u n || is_l n) ≡ false → c ≡ n → ⊥
    other n none e = both_ways (is_u n || is_l n) none (rw (← e) h)

-- the second byte of an octal constant is no `x`
octal_second : (digits ending : List ℕ) (s : Suffix) → AllDigits 8 digits → suffix_of ending ≡ Some s → is_x (slice_index (digits ++ ending) 0) ≡ false
octal_second [] [] s all e = refl
octal_second [] (c ∷ rest) s all e = letter_not_x c (letter c rest s e)
octal_second (d ∷ digits) ending s all e = digit_not_x d (omega (arith, all.0))

x_or_X : (c : ℕ) → is_x c ≡ true → (c ≡ 120) ⊎ (c ≡ 88)
x_or_X c h = by_case (or_cases (c == 120) (c == 88) h)
  where
    by_case : ((c == 120) ≡ true) ⊎ ((c == 88) ≡ true) → (c ≡ 120) ⊎ (c ≡ 88)
    by_case (inl e) = inl (eqb-true c 120 e)
    by_case (inr e) = inr (eqb-true c 88 e)

two_bytes : (text : List ℕ) → (slice_index text 0 == 48) ≡ true → is_x (slice_index text 1) ≡ true → text ≡ 48 ∷ slice_index text 1 ∷ drop 2 text
two_bytes [] p q = cc
two_bytes (a ∷ []) p q = cc
two_bytes (a ∷ b ∷ rest) p q = ap (λ k. k ∷ b ∷ rest) (eqb-true a 48 p)

first_of : (digits ending : List ℕ) → 0 < length digits → slice_index (digits ++ ending) 0 ≡ slice_index digits 0
first_of [] ending h = absurd (omega (arith, h))
first_of (d ∷ digits) ending h = refl

-- ---- agreement with the definition

pub reading_value : (text : List ℕ) (radix : Radix) (digits : List ℕ) (suffix : Suffix) → IsLiteral text radix digits suffix → reading text ≡ literal_value radix digits suffix
reading_value text Decimal digits suffix lit = by_text digits text lit.prefix lit.ending lit.begins.0 lit.begins.1 lit.cut lit.numeral lit.ends
  where
    by_text : (digits text prefix ending : List ℕ) → prefix ≡ [] → slice_index digits 0 ≢ 48 → text ≡ prefix ++ digits ++ ending → IsNumeral 10 digits → suffix_of ending ≡ Some suffix → reading text ≡ literal_value Decimal digits suffix
    by_text [] text prefix ending p first cut numeral ends = absurd (omega (arith, numeral.0))
    by_text (d ∷ ds) text prefix ending p first cut numeral ends =
        rw (cut, p, ne_eqb d 48 first) (reading_of_is Decimal (d ∷ ds) ending suffix numeral ends)
reading_value text Octal digits suffix lit = by_text digits text lit.prefix lit.ending lit.begins.0 lit.begins.1 lit.cut lit.numeral lit.ends
  where
    by_text : (digits text prefix ending : List ℕ) → prefix ≡ [] → slice_index digits 0 ≡ 48 → text ≡ prefix ++ digits ++ ending → IsNumeral 8 digits → suffix_of ending ≡ Some suffix → reading text ≡ literal_value Octal digits suffix
    by_text [] text prefix ending p first cut numeral ends = absurd (omega (arith, numeral.0))
    by_text (d ∷ ds) text prefix ending p first cut numeral ends =
        rw (cut, p, eq-eqb d 48 first, octal_second ds ending suffix numeral.1.1 ends) (reading_of_is Octal (d ∷ ds) ending suffix numeral ends)
reading_value text Hexadecimal digits suffix lit = by_prefix lit.begins
  where
    by_prefix : (lit.prefix ≡ 48 ∷ 120 ∷ []) ⊎ (lit.prefix ≡ 48 ∷ 88 ∷ []) → reading text ≡ literal_value Hexadecimal digits suffix
    by_prefix (inl p) = rw (lit.cut, p) (reading_of_is Hexadecimal digits lit.ending suffix lit.numeral lit.ends)
    by_prefix (inr p) = rw (lit.cut, p) (reading_of_is Hexadecimal digits lit.ending suffix lit.numeral lit.ends)

pub reading_some : (text : List ℕ) → IsSomeLiteral text ⊎ (reading text ≡ Err Shape)
reading_some text = by_tests (slice_index text 0 == 48) (is_x (slice_index text 1)) refl refl
  where
    by_radix : (radix : Radix) → radix_of text ≡ radix → IsSomeLiteral text ⊎ (reading_of radix (drop (prefix_of radix) text) ≡ Err Shape) → IsSomeLiteral text ⊎ (reading text ≡ Err Shape)
    by_radix radix e (inl h) = inl h
    by_radix radix e (inr z) = inr (ap (λ k. reading_of k (drop (prefix_of k) text)) e ∙ z)

    decimal : (slice_index text 0 == 48) ≡ false → Written Decimal text ⊎ (reading_of Decimal text ≡ Err Shape) → IsSomeLiteral text ⊎ (reading_of Decimal text ≡ Err Shape)
    decimal p (inr z) = inr z
    decimal p (inl (digits, (ending, (s, (cut, (numeral, ends)))))) =
        let first : slice_index digits 0 ≢ 48 = λ z. eqb-false (slice_index text 0) 48 p (ap (λ l. slice_index l 0) cut ∙ first_of digits ending numeral.0 ∙ z) in
        inl (Decimal, (digits, (s, record { prefix = []; ending = ending; cut = cut; begins = (refl, first); numeral = numeral; ends = ends })))

    octal : (slice_index text 0 == 48) ≡ true → Written Octal text ⊎ (reading_of Octal text ≡ Err Shape) → IsSomeLiteral text ⊎ (reading_of Octal text ≡ Err Shape)
    octal p (inr z) = inr z
    octal p (inl (digits, (ending, (s, (cut, (numeral, ends)))))) =
        let first : slice_index digits 0 ≡ 48 = sym (first_of digits ending numeral.0) ∙ sym (ap (λ l. slice_index l 0) cut) ∙ eqb-true (slice_index text 0) 48 p in
        inl (Octal, (digits, (s, record { prefix = []; ending = ending; cut = cut; begins = (refl, first); numeral = numeral; ends = ends })))

    hexadecimal : (x : ℕ) → (x ≡ 120) ⊎ (x ≡ 88) → text ≡ 48 ∷ x ∷ drop 2 text → Written Hexadecimal (drop 2 text) ⊎ (reading_of Hexadecimal (drop 2 text) ≡ Err Shape) → IsSomeLiteral text ⊎ (reading_of Hexadecimal (drop 2 text) ≡ Err Shape)
    hexadecimal x which whole (inr z) = inr z
    hexadecimal x (inl small) whole (inl (digits, (ending, (s, (cut, (numeral, ends)))))) =
        inl (Hexadecimal, (digits, (s, record { prefix = 48 ∷ 120 ∷ []; ending = ending; cut = whole ∙ ap (λ l. 48 ∷ x ∷ l) cut ∙ ap (λ k. 48 ∷ k ∷ (digits ++ ending)) small; begins = inl refl; numeral = numeral; ends = ends })))
    hexadecimal x (inr large) whole (inl (digits, (ending, (s, (cut, (numeral, ends)))))) =
        inl (Hexadecimal, (digits, (s, record { prefix = 48 ∷ 88 ∷ []; ending = ending; cut = whole ∙ ap (λ l. 48 ∷ x ∷ l) cut ∙ ap (λ k. 48 ∷ k ∷ (digits ++ ending)) large; begins = inr refl; numeral = numeral; ends = ends })))

    by_tests : (a b : Bool) → (slice_index text 0 == 48) ≡ a → is_x (slice_index text 1) ≡ b → IsSomeLiteral text ⊎ (reading text ≡ Err Shape)
    by_tests false b p q = by_radix Decimal (rw p refl) (decimal p (written_digits Decimal text))
    by_tests true false p q = by_radix Octal (rw (p, q) refl) (octal p (written_digits Octal text))
    by_tests true true p q = by_radix Hexadecimal (rw (p, q) refl) (hexadecimal (slice_index text 1) (x_or_X (slice_index text 1) q) (two_bytes text p q) (written_digits Hexadecimal (drop 2 text)))

-- what `literal` promises of a text
pub record LiteralLaws (text : List ℕ) (r : Result Int LiteralFault) : Type 0 where
  pub value : (radix : Radix) → (digits : List ℕ) → (suffix : Suffix) → IsLiteral text radix digits suffix → r ≡ literal_value radix digits suffix
  pub some : IsSomeLiteral text ⊎ (r ≡ Err Shape)
  pub written : r ≡ Err Shape → IsSomeLiteral text → ⊥
  pub unwritten : (IsSomeLiteral text → ⊥) → r ≡ Err Shape

pub literal_laws : (text : List ℕ) (r : Result Int LiteralFault) → r ≡ reading text → LiteralLaws text r
literal_laws text r same = record {
  value = λ radix digits suffix lit. same ∙ reading_value text radix digits suffix lit;
  some = by_some (reading_some text);
  written = λ e (radix, (digits, (suffix, lit))). typed_written radix suffix (digits_value (base radix) digits) (sym (reading_value text radix digits suffix lit) ∙ sym same ∙ e);
  unwritten = λ none. by_none (reading_some text) none;
}
  where
    by_some : IsSomeLiteral text ⊎ (reading text ≡ Err Shape) → IsSomeLiteral text ⊎ (r ≡ Err Shape)
    by_some (inl h) = inl h
    by_some (inr e) = inr (same ∙ e)

    by_none : IsSomeLiteral text ⊎ (reading text ≡ Err Shape) → (IsSomeLiteral text → ⊥) → r ≡ Err Shape
    by_none (inl h) none = absurd (none h)
    by_none (inr e) none = same ∙ e
