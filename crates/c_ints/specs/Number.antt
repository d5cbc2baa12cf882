-- An integer is its kind and its value. How a value becomes one of another kind.
use Rattle.std.specs.Prelude.{◌≡◌, ◌^◌, ℤ, pos, ◌+ℤ◌, ◌-ℤ◌, ◌*ℤ◌, int_le, unsigned_abs, if◌then◌else◌}
use Rattle.std.specs.Int.{int_rem_euclid}
use Rattle.c_ints.specs.declared.kind.Kind.{Kind}
use Rattle.c_ints.specs.declared.kind.Kind.TheVariants.{I8, U8, I16, U16, I32, U32, I64, U64}
use Rattle.c_ints.specs.declared.int.Int.{Int}
use Rattle.c_ints.specs.declared.int.Int.TheVariants.{I8 as int8, U8 as uint8, I16 as int16, U16 as uint16, I32 as int32, U32 as uint32, I64 as int64, U64 as uint64}
use Rattle.c_ints.specs.Kind.{width, greatest, promoted}

-- the kind of an integer
abbrev pub kind_of : Int → Kind
kind_of (int8 _) = I8
kind_of (uint8 _) = U8
kind_of (int16 _) = I16
kind_of (uint16 _) = U16
kind_of (int32 _) = I32
kind_of (uint32 _) = U32
kind_of (int64 _) = I64
kind_of (uint64 _) = U64

-- the value of an integer
abbrev pub value_of : Int → ℤ
value_of (int8 z) = z
value_of (uint8 n) = pos n
value_of (int16 z) = z
value_of (uint16 n) = pos n
value_of (int32 z) = z
value_of (uint32 n) = pos n
value_of (int64 z) = z
value_of (uint64 n) = pos n

-- the integer of a kind and a value in its range
abbrev pub number : Kind → ℤ → Int
number I8 z = int8 z
number U8 z = uint8 (unsigned_abs z)
number I16 z = int16 z
number U16 z = uint16 (unsigned_abs z)
number I32 z = int32 z
number U32 z = uint32 (unsigned_abs z)
number I64 z = int64 z
number U64 z = uint64 (unsigned_abs z)

-- the remainder of z by 2 ^ N, which isn't negative, where N is the kind's width
abbrev pub residue : Kind → ℤ → ℤ
residue k z = int_rem_euclid z (pos (2 ^ width k))

-- what a value becomes at a kind: at an unsigned one the remainder, at a signed one the number of the kind that
-- differs from it by a multiple of 2 ^ N (6.3.1.3 paragraphs 2 and 3)
abbrev pub reduced : Kind → ℤ → ℤ
reduced k z =
    let r = residue k z in
    if int_le r (greatest k) then r else r -ℤ pos (2 ^ width k)

-- a and b differ by a multiple of m
abbrev pub IsCongruent : ℤ → ℤ → ℤ → Type 0
IsCongruent m a b = (k : ℤ) × (a ≡ b +ℤ (k *ℤ m))

-- an integer converted to a kind (6.3.1.3)
abbrev pub converted : Int → Kind → Int
converted a to = number to (reduced to (value_of a))

-- an integer promoted: its value stays (6.3.1.1 paragraph 3)
abbrev pub promoted_number : Int → Int
promoted_number a = number (promoted (kind_of a)) (value_of a)
