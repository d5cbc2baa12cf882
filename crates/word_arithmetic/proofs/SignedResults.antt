-- What the operators of 64 bits give at signed kinds.
use Rattle.std.proofs.Common.{◌≡◌, ℕ, ◌*◌, ◌/◌, ◌%◌, ◌^◌, ◌<◌, ◌≤◌, refl, subst, sym, ap, ◌∙◌, arith, ℤ, pos, negsuc, ◌≤ℤ◌, unsigned_abs, int_div, int_rem, true, false, Ok, Result}
use Rattle.std.specs.Prelude.{int_lt}
use mir.Syntax.{w64}
use mir.Val.{SFits, to_z, of_z}
use Rattle.std.proofs.lemmas.Int.{ints, to_z-of_z}
use Rattle.std.proofs.lemmas.Nat.{div-add-mod', mul-le}
use Rattle.c_ints.specs.declared.kind.Kind.{Kind}
use Rattle.c_ints.specs.declared.kind.Kind.TheVariants.{I8, U8, I16, U16, I32, U32, I64, U64}
use Rattle.c_ints.specs.declared.operator.ArithTrap.{ArithTrap}
use Rattle.c_ints.specs.declared.operator.BinOp.TheVariants.{Shl}
use Rattle.c_ints.specs.Kind.{greatest, is_signed, width}
use Rattle.c_ints.specs.Number.{number, value_of}
use Rattle.c_ints.specs.Arithmetic.{is_count, operate, settled}
use Rattle.word_arithmetic.specs.WordOperators.{word_result}

-- a quotient and a remainder that were made of words
pub quotient_is : (x y q : ℤ) → SFits w64 x → SFits w64 y → SFits w64 q → q ≡ int_div (to_z w64 (of_z w64 x)) (to_z w64 (of_z w64 y)) → to_z w64 (of_z w64 q) ≡ int_div x y
quotient_is x y q p r s e =
    to_z-of_z w64 q s ∙ e ∙ ap (λ (z : ℤ). int_div z (to_z w64 (of_z w64 y))) (to_z-of_z w64 x p) ∙ ap (int_div x) (to_z-of_z w64 y r)

pub remainder_is : (x y q : ℤ) → SFits w64 x → SFits w64 y → SFits w64 q → q ≡ int_rem (to_z w64 (of_z w64 x)) (to_z w64 (of_z w64 y)) → to_z w64 (of_z w64 q) ≡ int_rem x y
remainder_is x y q p r s e =
    to_z-of_z w64 q s ∙ e ∙ ap (λ (z : ℤ). int_rem z (to_z w64 (of_z w64 y))) (to_z-of_z w64 x p) ∙ ap (int_rem x) (to_z-of_z w64 y r)

-- a signed integer has the number that it is made of
pub signed_value : (k : Kind) (z : ℤ) → is_signed k ≡ true → value_of (number k z) ≡ z
signed_value I8 z h = refl
signed_value U8 z h = cc
signed_value I16 z h = refl
signed_value U16 z h = cc
signed_value I32 z h = refl
signed_value U32 z h = cc
signed_value I64 z h = refl
signed_value U64 z h = cc

settled_word : (k : Kind) (m : ℕ) → is_signed k ≡ true → pos m ≤ℤ greatest k → word_result (settled k (pos m)) ≡ Ok (m % 2 ^ 64)
settled_word I8 m h p = grind (arith, ints)
settled_word U8 m h p = cc
settled_word I16 m h p = grind (arith, ints)
settled_word U16 m h p = cc
settled_word I32 m h p = grind (arith, ints)
settled_word U32 m h p = cc
settled_word I64 m h p = grind (arith, ints)
settled_word U64 m h p = cc

counts : (k : Kind) (c : ℕ) → c < width k → is_count k (pos c) ≡ true
counts k c h = grind arith

-- a number that stays below a bound when it is shifted
shifted_below : (n c g : ℕ) → n ≤ g / 2 ^ c → n * 2 ^ c ≤ g
shifted_below n c g h =
    let more : n * 2 ^ c ≤ g / 2 ^ c * 2 ^ c = mul-le n (2 ^ c) (g / 2 ^ c) (2 ^ c) h (omega arith) in
    omega (arith, more, div-add-mod' g (2 ^ c))

pub shifted_left : (k : Kind) (x z : ℤ) (c g : ℕ) → is_signed k ≡ true → pos g ≡ greatest k → c < width k → z ≡ x → int_lt z (pos 0) ≡ false → unsigned_abs z ≤ g / 2 ^ c
    → ◌≡◌ {A = Result ℕ ArithTrap} (Ok (unsigned_abs z * 2 ^ c % 2 ^ 64)) (word_result (operate Shl k x (pos c)))
shifted_left k x (negsuc n) c g signed top below e positive h = cc
shifted_left k x (pos n) c g signed top below e positive h =
    let near : n * 2 ^ c ≤ g = shifted_below n c g h in
    let fits : pos (n * 2 ^ c) ≤ℤ greatest k = subst (λ (t : ℤ). pos (n * 2 ^ c) ≤ℤ t) top (omega (arith, ints, near)) in
    subst (λ (t : ℤ). ◌≡◌ {A = Result ℕ ArithTrap} (Ok (n * 2 ^ c % 2 ^ 64)) (word_result (operate Shl k t (pos c)))) e (rw (counts k c below, positive) (sym (settled_word k (n * 2 ^ c) signed fits)))
