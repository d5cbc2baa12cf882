-- Integer constants as they are written (C11 6.4.4.1, without the suffixes of long long), and the value of each.
use Rattle.std.specs.Prelude.{◌≡◌, ◌≢◌, ℕ, ◌==◌, Bool, ◌&&◌, ◌||◌, pos, List, [], ◌∷◌, ◌++◌, slice_index, ◌⊎◌, Option, Some, None, Result, Ok, Err, if◌then◌else◌}
use Rattle.std.specs.List.{find}
use Rattle.std.specs.Option.{option_map_or}
use Rattle.std.specs.Str.Parse.{IsNumeral, digits_value}
use Rattle.c_ints.specs.declared.kind.Kind.{Kind}
use Rattle.c_ints.specs.declared.kind.Kind.TheVariants.{I32, U32, I64, U64}
use Rattle.c_ints.specs.declared.int.Int.{Int}
use Rattle.c_ints.specs.declared.constant.Radix.{Radix}
use Rattle.c_ints.specs.declared.constant.Radix.TheVariants.{Decimal, Octal, Hexadecimal}
use Rattle.c_ints.specs.declared.constant.Suffix.{Suffix}
use Rattle.c_ints.specs.declared.constant.Suffix.TheVariants.{Plain, Unsigned, Long, UnsignedLong}
use Rattle.c_ints.specs.declared.constant.LiteralFault.{LiteralFault}
use Rattle.c_ints.specs.declared.constant.LiteralFault.TheVariants.{Range}
use Rattle.c_ints.specs.Kind.{holds}
use Rattle.c_ints.specs.Number.{number}

-- how many digits a radix has (paragraph 4)
abbrev pub base : Radix → ℕ
base Decimal = 10
base Octal = 8
base Hexadecimal = 16

-- what comes before the digits, and how the digits begin: `0x` or `0X` before hexadecimal ones; octal digits
-- begin with 0, decimal ones don't (paragraph 3)
abbrev pub Begins : Radix → List ℕ → List ℕ → Type 0
Begins Decimal prefix digits = (prefix ≡ []) × (slice_index digits 0 ≢ 48)
Begins Octal prefix digits = (prefix ≡ []) × (slice_index digits 0 ≡ 48)
Begins Hexadecimal prefix digits = (prefix ≡ 48 ∷ 120 ∷ []) ⊎ (prefix ≡ 48 ∷ 88 ∷ [])

-- one of `u` and `U`, and one of `l` and `L`
abbrev pub is_u : ℕ → Bool
is_u c = c == 117 || c == 85

abbrev pub is_l : ℕ → Bool
is_l c = c == 108 || c == 76

-- the suffix that a text writes: none, or a `u`, an `l`, or both in either order (integer-suffix)
abbrev pub suffix_of : List ℕ → Option Suffix
suffix_of [] = Some Plain
suffix_of (c ∷ []) = if is_u c then Some Unsigned else (if is_l c then Some Long else None)
suffix_of (c ∷ d ∷ []) = if (is_u c && is_l d) || (is_l c && is_u d) then Some UnsignedLong else None
suffix_of (_ ∷ _ ∷ _ ∷ _) = None

-- the text is an integer constant: a prefix, one or more digits of the radix, and a suffix
pub record IsLiteral (text : List ℕ) (radix : Radix) (digits : List ℕ) (suffix : Suffix) : Type 0 where
  pub prefix : List ℕ
  pub ending : List ℕ
  pub cut : text ≡ prefix ++ digits ++ ending
  pub begins : Begins radix prefix digits
  pub numeral : IsNumeral (base radix) digits
  pub ends : suffix_of ending ≡ Some suffix

-- the text is some integer constant
abbrev pub IsSomeLiteral : List ℕ → Type 0
IsSomeLiteral text = (radix : Radix) × ((digits : List ℕ) × ((suffix : Suffix) × IsLiteral text radix digits suffix))

-- the kinds that are tried, in order (the table of paragraph 5)
abbrev pub kinds : Radix → Suffix → List Kind
kinds Decimal Plain = I32 ∷ I64 ∷ []
kinds Octal Plain = I32 ∷ U32 ∷ I64 ∷ U64 ∷ []
kinds Hexadecimal Plain = I32 ∷ U32 ∷ I64 ∷ U64 ∷ []
kinds Decimal Long = I64 ∷ []
kinds Octal Long = I64 ∷ U64 ∷ []
kinds Hexadecimal Long = I64 ∷ U64 ∷ []
kinds _ Unsigned = U32 ∷ U64 ∷ []
kinds _ UnsignedLong = U64 ∷ []

-- the number at the first of its kinds that holds it (paragraph 5), or the fault that none does (6.4.4 paragraph 2)
abbrev pub typed : Radix → Suffix → ℕ → Result Int LiteralFault
typed radix suffix n =
    option_map_or (λ k. Ok (number k (pos n))) (find (λ k. holds k (pos n)) (kinds radix suffix)) (Err Range)

-- the value of a constant of these digits: the first digit counts most (paragraph 4)
abbrev pub literal_value : Radix → List ℕ → Suffix → Result Int LiteralFault
literal_value radix digits suffix = typed radix suffix (digits_value (base radix) digits)
