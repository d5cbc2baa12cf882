-- The words that are integer constants with a value (6.4.4.1): digits of a radix, a suffix, and a type that holds the value.
use Rattle.std.specs.Prelude.{ℕ, zero, suc, Bool, false, not, ◌&&◌, ◌||◌, ◌==◌, nat_lt, List, [], length, take, drop, slice_index, Option, Some, None, is_ok, codes}
use Rattle.std.specs.Char.{digit_value}
use Rattle.std.specs.List.{list_all}
use Rattle.c_ints.specs.declared.constant.Radix.{Radix}
use Rattle.c_ints.specs.declared.constant.Radix.TheVariants.{Decimal, Octal, Hexadecimal}
use Rattle.c_ints.specs.declared.constant.Suffix.{Suffix}
use Rattle.c_ints.specs.Literal.{base, suffix_of, literal_value}
use Rattle.c_lexer.specs.Words.{starts_with}

-- one digit of the radix or more
abbrev pub is_numeral : ℕ → List ℕ → Bool
is_numeral radix digits = nat_lt 0 (length digits) && list_all (λ c. nat_lt (digit_value c) radix) digits

-- a suffix with which some type holds the value of the digits
abbrev pub is_typed : Radix → List ℕ → Option Suffix → Bool
is_typed radix digits None = false
is_typed radix digits (Some suffix) = is_ok (literal_value radix digits suffix)

-- digits of the radix with a suffix after them
abbrev pub is_constant : Radix → List ℕ → List ℕ → Bool
is_constant radix digits suffix = is_numeral (base radix) digits && is_typed radix digits (suffix_of suffix)

-- some cut of the text after at most n bytes has parts that pass
abbrev pub some_cut : (List ℕ → List ℕ → Bool) → List ℕ → ℕ → Bool
some_cut test text zero = test [] text
some_cut test text (suc n) = test (take (suc n) text) (drop (suc n) text) || some_cut test text n

-- a decimal constant begins with another digit than 0, an octal one with 0, and a hexadecimal one follows `0x`
unfoldable pub is_number : List ℕ → Bool
is_number word =
    (not (slice_index word 0 == 48) && some_cut (is_constant Decimal) word (length word))
    || ((slice_index word 0 == 48) && some_cut (is_constant Octal) word (length word))
    || ((starts_with (codes "0x") word || starts_with (codes "0X") word) && some_cut (is_constant Hexadecimal) (drop 2 word) (length (drop 2 word)))
