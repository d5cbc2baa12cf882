-- The eight integer kinds: their ranges, the integer promotions and the common kind of two operands.
-- Sections are those of C11 (ISO/IEC 9899:2011).
use Rattle.std.specs.Prelude.{ℕ, ◌-◌, ◌^◌, Bool, true, false, ℤ, pos, neg_ℤ, ◌≤ℤ◌, int_le, ◌&&◌, nat_lt, nat_le, if◌then◌else◌}
use Rattle.c_ints.specs.declared.kind.Kind.{Kind}
use Rattle.c_ints.specs.declared.kind.Kind.TheVariants.{I8, U8, I16, U16, I32, U32, I64, U64}

-- how many bits a kind has (6.2.6.2, with widths of 8, 16, 32 and 64)
abbrev pub width : Kind → ℕ
width I8 = 8
width U8 = 8
width I16 = 16
width U16 = 16
width I32 = 32
width U32 = 32
width I64 = 64
width U64 = 64

-- whether a kind has negative numbers (6.2.5 paragraphs 4 and 6)
abbrev pub is_signed : Kind → Bool
is_signed I8 = true
is_signed U8 = false
is_signed I16 = true
is_signed U16 = false
is_signed I32 = true
is_signed U32 = false
is_signed I64 = true
is_signed U64 = false

-- the least number of a kind, in two's complement (6.2.6.2 paragraph 2)
abbrev pub least : Kind → ℤ
least k = if is_signed k then neg_ℤ (pos (2 ^ (width k - 1))) else pos 0

-- the greatest number of a kind
abbrev pub greatest : Kind → ℤ
greatest k = if is_signed k then pos (2 ^ (width k - 1) - 1) else pos (2 ^ width k - 1)

-- z is a number of the kind
abbrev pub InRange : Kind → ℤ → Type 0
InRange k z = (least k ≤ℤ z) × (z ≤ℤ greatest k)

-- the same as a test
abbrev pub holds : Kind → ℤ → Bool
holds k z = int_le (least k) z && int_le z (greatest k)

-- the integer promotions: int holds each number of a narrower kind, so each becomes int (6.3.1.1 paragraph 2)
abbrev pub promoted : Kind → Kind
promoted k = if nat_lt (width k) 32 then I32 else k

-- of two kinds of equal signedness, the wider one
abbrev pub wider : Kind → Kind → Kind
wider a b = if nat_le (width b) (width a) then a else b

-- of a signed and an unsigned kind, the signed one where it is wider, and so holds each number of the other, else the unsigned one
abbrev pub signed_if_wider : Kind → Kind → Kind
signed_if_wider s u = if nat_lt (width u) (width s) then s else u

-- the common kind of two promoted kinds (6.3.1.8 paragraph 1, the integer cases in their order)
abbrev pub balanced : Kind → Kind → Kind
balanced a b =
    if is_signed a
    then (if is_signed b then wider a b else signed_if_wider a b)
    else (if is_signed b then signed_if_wider b a else wider a b)

-- the usual arithmetic conversions (6.3.1.8)
abbrev pub common_kind : Kind → Kind → Kind
common_kind a b = balanced (promoted a) (promoted b)

-- one line of a table, by the kind of its column
abbrev pub column : Kind → Kind → Kind → Kind → Kind → Kind → Kind → Kind → Kind → Kind
column i8 u8 i16 u16 i32 u32 i64 u64 I8 = i8
column i8 u8 i16 u16 i32 u32 i64 u64 U8 = u8
column i8 u8 i16 u16 i32 u32 i64 u64 I16 = i16
column i8 u8 i16 u16 i32 u32 i64 u64 U16 = u16
column i8 u8 i16 u16 i32 u32 i64 u64 I32 = i32
column i8 u8 i16 u16 i32 u32 i64 u64 U32 = u32
column i8 u8 i16 u16 i32 u32 i64 u64 I64 = i64
column i8 u8 i16 u16 i32 u32 i64 u64 U64 = u64

-- the promotions written out
abbrev pub promoted_table : Kind → Kind
promoted_table = column I32 I32 I32 I32 I32 U32 I64 U64

-- the common kinds written out; the columns are I8, U8, I16, U16, I32, U32, I64, U64
abbrev pub common_table : Kind → Kind → Kind
common_table I8 = column I32 I32 I32 I32 I32 U32 I64 U64
common_table U8 = column I32 I32 I32 I32 I32 U32 I64 U64
common_table I16 = column I32 I32 I32 I32 I32 U32 I64 U64
common_table U16 = column I32 I32 I32 I32 I32 U32 I64 U64
common_table I32 = column I32 I32 I32 I32 I32 U32 I64 U64
common_table U32 = column U32 U32 U32 U32 U32 U32 I64 U64
common_table I64 = column I64 I64 I64 I64 I64 I64 I64 U64
common_table U64 = column U64 U64 U64 U64 U64 U64 U64 U64
