-- Operators and conversions depend on the kinds of types alone.
use Rattle.std.proofs.Common.{◌≡◌, ◌^◌, ℤ, Bool, true, ◌∷◌, refl, ap, subst, ◌∙◌, arith}
use Rattle.std.specs.Prelude.{if◌then◌else◌}
use Rattle.std.proofs.lemmas.Int.{ints}
use Rattle.c_ints.specs.declared.kind.Kind.{Kind}
use Rattle.c_ints.specs.Kind.{InRange, holds}
use Rattle.c_ints.specs.Number.{kind_of, value_of}
use Rattle.bytecode.specs.Words.{integer_word}
use Rattle.c_ints.specs.declared.int.Int.{Int}
use Rattle.c_ints.specs.declared.operator.BinOp.{BinOp}
use Rattle.c_ints.specs.declared.operator.UnOp.{UnOp}
use Rattle.c_ints.specs.declared.operator.UnOp.TheVariants.{Plus, Negate, Complement, Not}
use Rattle.c_ints.specs.Arithmetic.{binary_kind, unary_kind}
use Rattle.c_tree.specs.BareExpr.{BareType, Integer, Handle, Thread}
use Rattle.c_semantics.specs.Resolution.{kind}
use Rattle.bytecode.specs.declared.kind.ValueKind.TheVariants.{Number}
use Rattle.tree_code.specs.Code.{constant_word, kind_of_type, constant_code, conversion, combination, application, result_of}
use Rattle.expr_gen.specs.Kinds.{integer_kind, constant_as, converting, applying, combining, combined_kind, computing}

pub integer_kinds : (x : BareType) → kind x ≡ integer_kind (kind_of_type x)
integer_kinds (Integer k) = refl
integer_kinds (Handle tag) = refl
integer_kinds Thread = refl

pub constants : (x : BareType) (n : Int) → constant_code x n ≡ constant_as (kind_of_type x) n
constants (Integer k) n = refl
constants (Handle tag) n = refl
constants Thread n = refl

pub conversions : (x y : BareType) → conversion x y ≡ converting (kind_of_type x) (kind_of_type y)
conversions (Integer k) (Integer j) = refl
conversions (Integer k) (Handle tag) = refl
conversions (Integer k) Thread = refl
conversions (Handle tag) y = refl
conversions Thread y = refl

pub applications : (op : UnOp) (x : BareType) → application op x ≡ applying op (kind_of_type x)
applications Plus x = refl
applications Not x = refl
applications Negate (Integer k) = refl
applications Negate (Handle tag) = refl
applications Negate Thread = refl
applications Complement (Integer k) = refl
applications Complement (Handle tag) = refl
applications Complement Thread = refl

pub combinations : (op : BinOp) (x y : BareType) → combination op x y ≡ combining op (kind_of_type x) (kind_of_type y)
combinations op (Integer k) (Integer j) = refl
combinations op (Integer k) (Handle tag) = refl
combinations op (Integer k) Thread = refl
combinations op (Handle tag) y = refl
combinations op Thread (Integer j) = refl
combinations op Thread (Handle tag) = refl
combinations op Thread Thread = refl

pub results : (op : BinOp) (x y : BareType) → kind_of_type (result_of op x y) ≡ combined_kind op (kind_of_type x) (kind_of_type y)
results op x y =
    ap (λ k. Number (binary_kind op k (kind y))) (integer_kinds x)
    ∙ ap (λ k. Number (binary_kind op (integer_kind (kind_of_type x)) k)) (integer_kinds y)

pub unary_results : (op : UnOp) (x : BareType) → Number (unary_kind op (kind x)) ≡ Number (unary_kind op (integer_kind (kind_of_type x)))
unary_results op x = ap (λ k. Number (unary_kind op k)) (integer_kinds x)

pub computations : (op : BinOp) (x y : BareType)
    → combination op x y ∷ conversion x (result_of op x y) ≡ computing op (kind_of_type x) (kind_of_type y)
computations op x y =
    ap (λ i. i ∷ conversion x (result_of op x y)) (combinations op x y)
    ∙ ap (λ c. combining op (kind_of_type x) (kind_of_type y) ∷ c)
    (conversions x (result_of op x y) ∙ ap (converting (kind_of_type x)) (results op x y))

-- an integer in the range of its kind has a word
range_held : (k : Kind) (z : ℤ) → InRange k z → holds k z ≡ true
range_held k z h = grind (arith, ints)

pub ranged_word : (n : Int) (z : ℤ) → z ≡ value_of n → InRange (kind_of n) z → constant_word n ≡ integer_word (value_of n)
ranged_word n z e h =
    let there : InRange (kind_of n) (value_of n) = subst (InRange (kind_of n)) e h in
    ap (λ (b : Bool). if b then integer_word (value_of n) else 2 ^ 64) (range_held (kind_of n) (value_of n) there)
