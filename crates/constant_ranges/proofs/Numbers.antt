-- Numbers and characters are in the ranges of their kinds.
use Rattle.std.proofs.Common.{◌≡◌, ◌≤◌, ◌^◌, ◌-◌, ℕ, ℤ, pos, ◌≤ℤ◌, Bool, true, false, ◌&&◌, int_le, cond, List, [], ◌∷◌, Option, Some, None, find, Result, Ok, Err, refl, sym, ap, subst, ◌∙◌, arith}
use Rattle.std.specs.Option.{option_map_or}
use Rattle.std.proofs.lemmas.Int.{ints}
use Rattle.c_ints.specs.declared.kind.Kind.{Kind}
use Rattle.c_ints.specs.declared.kind.Kind.TheVariants.{I32}
use Rattle.c_ints.specs.declared.int.Int.{Int}
use Rattle.c_ints.specs.declared.constant.Radix.{Radix}
use Rattle.c_ints.specs.declared.constant.Suffix.{Suffix}
use Rattle.c_ints.specs.declared.constant.LiteralFault.{LiteralFault}
use Rattle.c_ints.specs.declared.constant.LiteralFault.TheVariants.{Range}
use Rattle.c_ints.specs.Kind.{InRange, greatest, holds, least}
use Rattle.c_ints.specs.Literal.{kinds, literal_value, typed}
use Rattle.c_ints.specs.Number.{kind_of, number, value_of}
use Rattle.c_ints.proofs.Reduction.{kind_of-number, value_of-number}
use Rattle.c_expr_parser.specs.Placed.{Placed}
use Rattle.c_expr_parser.specs.Terminals.{IsCharacter, IsConstant, IsNumber}
use Rattle.constant_ranges.specs.Ranges.{IsRanged}
use Rattle.constant_ranges.proofs.Characters.{IsSmall, quoted_small}

-- a number of a kind in its range
pub ranged : (k : Kind) (z : ℤ) → InRange k z → IsRanged (number k z)
ranged k z h =
    subst (λ j. InRange j (value_of (number k z))) (sym (kind_of-number k z))
    (subst (InRange k) (sym (value_of-number k z h)) h)

in_range : (k : Kind) (z : ℤ) → holds k z ≡ true → InRange k z
in_range k z e = (grind (arith, ints), grind (arith, ints))

is_value : {made value : Int} → ◌≡◌ {A = Result Int LiteralFault} (Ok made) (Ok value) → made ≡ value
is_value e = cc

no_value : {value : Int} → ◌≡◌ {A = Result Int LiteralFault} (Err Range) (Ok value) → ⊥
no_value e = cc

-- the number at the first kind that holds it
first_ranged : (n : ℕ) (value : Int) (ks : List Kind)
    → option_map_or (λ k. Ok (number k (pos n))) (find (λ k. holds k (pos n)) ks) (Err Range) ≡ Ok value → IsRanged value
first_ranged n value [] e = absurd (no_value e)
first_ranged n value (k ∷ ks) e = by (holds k (pos n)) refl (first_ranged n value ks) e
  where
    by : (b : Bool) → holds k (pos n) ≡ b
        → (option_map_or (λ k. Ok (number k (pos n))) (find (λ k. holds k (pos n)) ks) (Err Range) ≡ Ok value → IsRanged value)
        → option_map_or (λ k. Ok (number k (pos n))) (cond b (Some k) (find (λ k. holds k (pos n)) ks)) (Err Range) ≡ Ok value → IsRanged value
    by true is rest e = subst IsRanged (is_value e) (ranged k (pos n) (in_range k (pos n) is))
    by false is rest e = rest e

pub constant_ranged : (spelling : List ℕ) (value : Int) → IsConstant spelling value → IsRanged value
constant_ranged spelling value c = first_ranged _ value (kinds c.radix c.suffix) c.typed

pub number_ranged : (depth : ℕ) (value : Int) (t : Placed) → IsNumber depth value t → IsRanged value
number_ranged depth value t n = constant_ranged _ value n.constant

small_int : (n : ℕ) → n ≤ 127 → InRange I32 (pos n)
small_int n h = (omega (arith, ints, h), omega (arith, ints, h))

pub character_ranged : (depth : ℕ) (value : Int) (t : Placed) → IsCharacter depth value t → IsSmall t.token → IsRanged value
character_ranged depth value t c small =
    subst IsRanged (sym c.typed) (ranged I32 (pos c.byte) (small_int c.byte (quoted_small t.token.text c.byte (small c.sort) c.quoted)))
