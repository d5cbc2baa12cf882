-- The definitions of specs/ on small cases, which compute.
use Rattle.std.proofs.Common.{◌≡◌, refl, pos, negsuc, ◌∷◌, [], Ok, Err, Some, None}
use Rattle.c_ints.specs.declared.kind.Kind.TheVariants.{I8, U8, U64}
use Rattle.c_ints.specs.declared.int.Int.TheVariants.{I8 as int8, U8 as uint8, I32 as int32, U32 as uint32, I64 as int64, U64 as uint64}
use Rattle.c_ints.specs.declared.operator.BinOp.TheVariants.{Add, Div, Rem, And, Xor, Shl, Shr, Lt, Eq}
use Rattle.c_ints.specs.declared.operator.UnOp.TheVariants.{Negate, Complement, Not}
use Rattle.c_ints.specs.declared.operator.SafeOp.TheVariants.{Add as SafeAdd}
use Rattle.c_ints.specs.declared.operator.ArithTrap.TheVariants.{Overflow, Divide, Shift}
use Rattle.c_ints.specs.declared.constant.Radix.TheVariants.{Decimal, Hexadecimal}
use Rattle.c_ints.specs.declared.constant.Suffix.TheVariants.{Plain, Unsigned, Long, UnsignedLong}
use Rattle.c_ints.specs.declared.constant.LiteralFault.TheVariants.{Range}
use Rattle.c_ints.specs.Number.{converted}
use Rattle.c_ints.specs.Arithmetic.{binary_value, unary_value, binary_wrapped, unary_wrapped}
use Rattle.c_ints.specs.Literal.{literal_value, suffix_of}

-- -1 becomes 255, 255 becomes -1, and 300 becomes 44
to_unsigned : converted (int32 (negsuc 0)) U8 ≡ uint8 255
to_unsigned = refl

to_signed : converted (uint8 255) I8 ≡ int8 (negsuc 0)
to_signed = refl

low_bits : converted (int32 (pos 300)) I8 ≡ int8 (pos 44)
low_bits = refl

widest : converted (int64 (negsuc 0)) U64 ≡ uint64 18446744073709551615
widest = refl

-- 2147483647 + 1 overflows, 4294967295u + 1 is 0u
sum_overflows : binary_value Add (int32 (pos 2147483647)) (int32 (pos 1)) ≡ Err Overflow
sum_overflows = refl

sum_wraps : binary_value Add (uint32 4294967295) (int32 (pos 1)) ≡ Ok (uint32 0)
sum_wraps = refl

wrapped_sum : binary_wrapped SafeAdd (int32 (pos 2147483647)) (int32 (pos 1)) ≡ int32 (negsuc 2147483647)
wrapped_sum = refl

-- two chars are added as ints
chars : binary_value Add (int8 (pos 127)) (int8 (pos 127)) ≡ Ok (int32 (pos 254))
chars = refl

-- -7 / 2 is -3, and -7 % 2 is -1
quotient : binary_value Div (int32 (negsuc 6)) (int32 (pos 2)) ≡ Ok (int32 (negsuc 2))
quotient = refl

remainder : binary_value Rem (int32 (negsuc 6)) (int32 (pos 2)) ≡ Ok (int32 (negsuc 0))
remainder = refl

least_by_minus_one : binary_value Rem (int32 (negsuc 2147483647)) (int32 (negsuc 0)) ≡ Err Overflow
least_by_minus_one = refl

by_zero : binary_value Rem (uint64 3) (int8 (pos 0)) ≡ Err Divide
by_zero = refl

-- -1 < 1u is false, -1 < 1 is true
unsigned_order : binary_value Lt (int32 (negsuc 0)) (uint32 1) ≡ Ok (int32 (pos 0))
unsigned_order = refl

signed_order : binary_value Lt (int32 (negsuc 0)) (int32 (pos 1)) ≡ Ok (int32 (pos 1))
signed_order = refl

same : binary_value Eq (int32 (negsuc 0)) (uint32 4294967295) ≡ Ok (int32 (pos 1))
same = refl

-- -6 & 11 is 10, and -6 ^ 3u is 4294967289u
bits_and : binary_value And (int32 (negsuc 5)) (int32 (pos 11)) ≡ Ok (int32 (pos 10))
bits_and = refl

bits_xor : binary_value Xor (int32 (negsuc 5)) (uint32 3) ≡ Ok (uint32 4294967289)
bits_xor = refl

-- 1 << 31 overflows, 1u << 31 doesn't, -1 << 0 and 1 << 32 have no value, and -5 >> 1 is -3
shift_overflows : binary_value Shl (int32 (pos 1)) (int64 (pos 31)) ≡ Err Overflow
shift_overflows = refl

shift_fits : binary_value Shl (uint32 1) (int64 (pos 31)) ≡ Ok (uint32 2147483648)
shift_fits = refl

shift_of_negative : binary_value Shl (int32 (negsuc 0)) (int32 (pos 0)) ≡ Err Shift
shift_of_negative = refl

shift_by_width : binary_value Shl (int8 (pos 1)) (int64 (pos 32)) ≡ Err Shift
shift_by_width = refl

shift_right : binary_value Shr (int32 (negsuc 4)) (uint64 1) ≡ Ok (int32 (negsuc 2))
shift_right = refl

-- -(-2147483648) overflows, -1u is 4294967295u, ~0 is -1, ~(unsigned char)0 is -1, !0 is 1
negation : unary_value Negate (int32 (negsuc 2147483647)) ≡ Err Overflow
negation = refl

negation_wrapped : unary_wrapped Negate (int32 (negsuc 2147483647)) ≡ int32 (negsuc 2147483647)
negation_wrapped = refl

unsigned_negation : unary_value Negate (uint32 1) ≡ Ok (uint32 4294967295)
unsigned_negation = refl

complement : unary_value Complement (uint8 0) ≡ Ok (int32 (negsuc 0))
complement = refl

unsigned_complement : unary_value Complement (uint64 0) ≡ Ok (uint64 18446744073709551615)
unsigned_complement = refl

negated : unary_value Not (uint64 0) ≡ Ok (int32 (pos 1))
negated = refl

-- 2147483648 is long, 0x80000000 is unsigned int, 2147483648u too, and 9223372036854775808 has no type
decimal_long : literal_value Decimal (50 ∷ 49 ∷ 52 ∷ 55 ∷ 52 ∷ 56 ∷ 51 ∷ 54 ∷ 52 ∷ 56 ∷ []) Plain ≡ Ok (int64 (pos 2147483648))
decimal_long = refl

hexadecimal_unsigned : literal_value Hexadecimal (56 ∷ 48 ∷ 48 ∷ 48 ∷ 48 ∷ 48 ∷ 48 ∷ 48 ∷ []) Plain ≡ Ok (uint32 2147483648)
hexadecimal_unsigned = refl

decimal_unsigned : literal_value Decimal (50 ∷ 49 ∷ 52 ∷ 55 ∷ 52 ∷ 56 ∷ 51 ∷ 54 ∷ 52 ∷ 56 ∷ []) Unsigned ≡ Ok (uint32 2147483648)
decimal_unsigned = refl

no_type : literal_value Decimal (57 ∷ 50 ∷ 50 ∷ 51 ∷ 51 ∷ 55 ∷ 50 ∷ 48 ∷ 51 ∷ 54 ∷ 56 ∷ 53 ∷ 52 ∷ 55 ∷ 55 ∷ 53 ∷ 56 ∷ 48 ∷ 56 ∷ []) Long ≡ Err Range
no_type = refl

suffix_lu : suffix_of (76 ∷ 117 ∷ []) ≡ Some UnsignedLong
suffix_lu = refl

suffix_uu : suffix_of (117 ∷ 117 ∷ []) ≡ None
suffix_uu = refl
