-- The digits at the start of a text, and their value as far as it is counted.
use Rattle.std.proofs.Common.{◌≡◌, ◌≢◌, ℕ, ◌+◌, ◌*◌, ◌<◌, ◌≤◌, ◌⊎◌, inl, inr, refl, sym, ap, ◌∙◌, arith, min, List, [], ◌∷◌, ◌++◌, take, length, Bool, true, false, Some, None, Ok, Err, Option, Result, pos, lit≤, cond}
use Rattle.std.specs.Prelude.{◌==◌, ◌&&◌, ◌||◌, if◌then◌else◌}
use Rattle.std.specs.List.{prefix_len, find}
use Rattle.std.specs.Option.{option_map_or}
use Rattle.std.specs.Char.{is_digit, digit_value}
use Rattle.std.specs.Str.Parse.{AllDigits}
use Rattle.std.proofs.lemmas.Bool.{eqb-true, ltb-true, lt-ltb, le-ltb, cases_lt, or_cases}
use Rattle.std.proofs.lemmas.Nat.{mul-le}
use Rattle.std.proofs.Math.Numerals.{one-add}
use Rattle.std.proofs.lemmas.Int.{ints}
use Rattle.c_ints.specs.declared.kind.Kind.{Kind}
use Rattle.c_ints.specs.declared.kind.Kind.TheVariants.{I8, U8, I16, U16, I32, U32, I64, U64}
use Rattle.c_ints.specs.declared.int.Int.{Int}
use Rattle.c_ints.specs.declared.constant.Radix.{Radix}
use Rattle.c_ints.specs.declared.constant.Radix.TheVariants.{Decimal, Octal, Hexadecimal}
use Rattle.c_ints.specs.declared.constant.Suffix.{Suffix}
use Rattle.c_ints.specs.declared.constant.Suffix.TheVariants.{Plain, Unsigned, Long, UnsignedLong}
use Rattle.c_ints.specs.declared.constant.LiteralFault.{LiteralFault}
use Rattle.c_ints.specs.declared.constant.LiteralFault.TheVariants.{Shape, Range}
use Rattle.c_ints.specs.Kind.{holds}
use Rattle.c_ints.specs.Number.{number}
use Rattle.c_ints.specs.Literal.{base, is_u, is_l, suffix_of, kinds, typed}

-- ---- values

-- a value that is cut at a limit goes on as the value itself
pub capped_step : (v b d top : ℕ) → 1 ≤ b → min (min v top * b + d) top ≡ min (v * b + d) top
capped_step v b d top h = by_order (cases_lt v top)
  where
    by_order : (v < top) ⊎ (top ≤ v) → min (min v top * b + d) top ≡ min (v * b + d) top
    by_order (inl below) = let same : min v top ≡ v = omega arith in rw same refl
    by_order (inr above) =
        let cut : min v top ≡ top = omega arith in
        let one = mul-le top 1 top b (omega arith) h in
        let other = mul-le top b v b above (omega arith) in
        rw cut (omega (arith, one, other))

-- a value past 2 ^ 64 is held by no kind
holds_no : (k : Kind) (v : ℕ) → 18446744073709551616 ≤ v → holds k (pos v) ≡ false
holds_no I8 v h = grind (arith, ints)
holds_no U8 v h = grind (arith, ints)
holds_no I16 v h = grind (arith, ints)
holds_no U16 v h = grind (arith, ints)
holds_no I32 v h = grind (arith, ints)
holds_no U32 v h = grind (arith, ints)
holds_no I64 v h = grind (arith, ints)
holds_no U64 v h = grind (arith, ints)

typed_past : (radix : Radix) (suffix : Suffix) (v : ℕ) → 18446744073709551616 ≤ v → typed radix suffix v ≡ Err Range
typed_past Decimal Plain v h = rw (holds_no I32 v h, holds_no I64 v h)
typed_past Octal Plain v h = rw (holds_no I32 v h, holds_no U32 v h, holds_no I64 v h, holds_no U64 v h)
typed_past Hexadecimal Plain v h = rw (holds_no I32 v h, holds_no U32 v h, holds_no I64 v h, holds_no U64 v h)
typed_past Decimal Long v h = rw (holds_no I64 v h)
typed_past Octal Long v h = rw (holds_no I64 v h, holds_no U64 v h)
typed_past Hexadecimal Long v h = rw (holds_no I64 v h, holds_no U64 v h)
typed_past Decimal Unsigned v h = rw (holds_no U32 v h, holds_no U64 v h)
typed_past Octal Unsigned v h = rw (holds_no U32 v h, holds_no U64 v h)
typed_past Hexadecimal Unsigned v h = rw (holds_no U32 v h, holds_no U64 v h)
typed_past Decimal UnsignedLong v h = rw (holds_no U64 v h)
typed_past Octal UnsignedLong v h = rw (holds_no U64 v h)
typed_past Hexadecimal UnsignedLong v h = rw (holds_no U64 v h)

-- so a value that is cut at 2 ^ 64 is typed as the value itself
pub typed_capped : (radix : Radix) (suffix : Suffix) (v : ℕ) → typed radix suffix (min v 18446744073709551616) ≡ typed radix suffix v
typed_capped radix suffix v = by_order (cases_lt v 18446744073709551616)
  where
    by_order : (v < 18446744073709551616) ⊎ (18446744073709551616 ≤ v) → typed radix suffix (min v 18446744073709551616) ≡ typed radix suffix v
    by_order (inl below) = let same : min v 18446744073709551616 ≡ v = omega arith in ap (typed radix suffix) same
    by_order (inr above) =
        let cut : min v 18446744073709551616 ≡ 18446744073709551616 = omega arith in
        ap (typed radix suffix) cut ∙ typed_past radix suffix 18446744073709551616 (lit≤ tt) ∙ sym (typed_past radix suffix v above)

-- a constant that is written has a value or is out of range
pub typed_written : (radix : Radix) (suffix : Suffix) (v : ℕ) → typed radix suffix v ≢ Err Shape
typed_written radix suffix v = by_kind (find (λ k. holds k (pos v)) (kinds radix suffix))
  where
    by_kind : (o : Option Kind) → ◌≡◌ {A = Result Int LiteralFault} (option_map_or (λ k. Ok (number k (pos v))) o (Err Range)) (Err Shape) → ⊥
    by_kind None e = cc
    by_kind (Some k) e = cc

-- ---- bytes

pub digit_no : (c b : ℕ) → (digit_value c < b → ⊥) → is_digit c b ≡ false
digit_no c b h = le-ltb (digit_value c) b (omega arith)

-- a byte that begins a suffix is one of its letters
pub letter : (c : ℕ) (rest : List ℕ) (s : Suffix) → suffix_of (c ∷ rest) ≡ Some s → (is_u c || is_l c) ≡ true
letter c [] s e = by_tests (is_u c) (is_l c) e
  where
    by_tests : (u l : Bool) → ◌≡◌ {A = Option Suffix} (if u then Some Unsigned else (if l then Some Long else None)) (Some s) → (u || l) ≡ true
    by_tests true l e = refl
    by_tests false true e = refl
    by_tests false false e = cc
letter c (d ∷ []) s e = by_tests (is_u c) (is_l c) (is_u d) (is_l d) e
  where
    by_tests : (u l v m : Bool) → ◌≡◌ {A = Option Suffix} (if (u && m) || (l && v) then Some UnsignedLong else None) (Some s) → (u || l) ≡ true
    by_tests true l v m e = refl
    by_tests false true v m e = refl
    by_tests false false v m e = cc
letter c (d ∷ f ∷ rest) s e = cc

-- and no digit
letter_no_digit : (c b : ℕ) → b ≤ 16 → (is_u c || is_l c) ≡ true → is_digit c b ≡ false
letter_no_digit c b h e = by_letter (or_cases (is_u c) (is_l c) e)
  where
    at : (n : ℕ) → 16 ≤ digit_value n → (c == n) ≡ true → is_digit c b ≡ false
    at n far same = rw (eqb-true c n same) (le-ltb (digit_value n) b (omega arith))

    by_letter : (is_u c ≡ true) ⊎ (is_l c ≡ true) → is_digit c b ≡ false
    by_letter (inl u) = by_u (or_cases (c == 117) (c == 85) u)
      where
        by_u : ((c == 117) ≡ true) ⊎ ((c == 85) ≡ true) → is_digit c b ≡ false
        by_u (inl same) = at 117 (lit≤ tt) same
        by_u (inr same) = at 85 (lit≤ tt) same
    by_letter (inr l) = by_l (or_cases (c == 108) (c == 76) l)
      where
        by_l : ((c == 108) ≡ true) ⊎ ((c == 76) ≡ true) → is_digit c b ≡ false
        by_l (inl same) = at 108 (lit≤ tt) same
        by_l (inr same) = at 76 (lit≤ tt) same

suffix_stops : (b : ℕ) (ending : List ℕ) (s : Suffix) → b ≤ 16 → suffix_of ending ≡ Some s → prefix_len (λ c. is_digit c b) ending ≡ 0
suffix_stops b [] s h e = refl
suffix_stops b (c ∷ rest) s h e = rw (letter_no_digit c b h (letter c rest s e)) refl

-- digits with a suffix after them: the digits end where they end
pub digits_end : (b : ℕ) (digits ending : List ℕ) (s : Suffix) → b ≤ 16 → AllDigits b digits → suffix_of ending ≡ Some s → prefix_len (λ c. is_digit c b) (digits ++ ending) ≡ length digits
digits_end b [] ending s h all e = suffix_stops b ending s h e
digits_end b (c ∷ digits) ending s h all e =
    rw (lt-ltb (digit_value c) b all.0, digits_end b digits ending s h all.1 e) (omega arith)

-- and the digits that a text begins with are digits
pub digits_all : (b : ℕ) (bytes : List ℕ) → AllDigits b (take (prefix_len (λ c. is_digit c b) bytes) bytes)
digits_all b [] = tt
digits_all b (c ∷ bytes) = by_test (is_digit c b) refl (digits_all b bytes)
  where
    by_test : (t : Bool) → is_digit c b ≡ t → AllDigits b (take (prefix_len (λ x. is_digit x b) bytes) bytes) → AllDigits b (take (cond t (1 + prefix_len (λ x. is_digit x b) bytes) 0) (c ∷ bytes))
    by_test true e rest = rw one-add (ltb-true (digit_value c) b e, rest)
    by_test false e rest = tt

pub base_most : (radix : Radix) → base radix ≤ 16
base_most Decimal = lit≤ tt
base_most Octal = lit≤ tt
base_most Hexadecimal = lit≤ tt
