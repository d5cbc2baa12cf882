-- Types without places are compared as types.
use Rattle.std.proofs.Common.{◌≡◌, Bool, true, false, refl, ap, sym, ◌∙◌}
use Rattle.std.specs.Prelude.{◌↔◌, IsTrue}
use Rattle.std.proofs.lemmas.Slice.Eq.{bytes_eq-Decides}
use Rattle.c_ints.specs.declared.kind.Kind.{Kind}
use Rattle.c_ints.specs.declared.kind.Kind.TheVariants.{I8, U8, I16, U16, I32, U32, I64, U64}
use Rattle.c_tree.specs.BareExpr.{BareType, Integer, Handle, Thread}
use Rattle.c_semantics.specs.Same.{same_kind, same_type}

never : false ≡ true → ⊥
never e = cc

kinds : (k l : Kind) → same_kind k l ≡ true → k ≡ l
kinds I8 I8 h = refl
kinds U8 U8 h = refl
kinds I16 I16 h = refl
kinds U16 U16 h = refl
kinds I32 I32 h = refl
kinds U32 U32 h = refl
kinds I64 I64 h = refl
kinds U64 U64 h = refl
kinds _ _ h = absurd (never h)

kind_alike : (k : Kind) → same_kind k k ≡ true
kind_alike I8 = refl
kind_alike U8 = refl
kind_alike I16 = refl
kind_alike U16 = refl
kind_alike I32 = refl
kind_alike U32 = refl
kind_alike I64 = refl
kind_alike U64 = refl

types : (x y : BareType) → same_type x y ≡ true → x ≡ y
types (Integer k) (Integer l) h = ap Integer (kinds k l h)
types (Handle a) (Handle b) h = ap Handle ((bytes_eq-Decides a b).0 h)
types Thread Thread h = refl
types _ _ h = absurd (never h)

type_alike : (x : BareType) → same_type x x ≡ true
type_alike (Integer k) = kind_alike k
type_alike (Handle tag) = (bytes_eq-Decides tag tag).1 refl
type_alike Thread = refl

-- a test of equality is the test of the definitions
pub type_test : (x y : BareType) (r : Bool) → IsTrue r ↔ (x ≡ y) → same_type x y ≡ r
type_test x y r h = by (same_type x y) refl r h
  where
    by : (t : Bool) → same_type x y ≡ t → (r : Bool) → IsTrue r ↔ (x ≡ y) → t ≡ r
    by true is true h = refl
    by true is false h = absurd (never (h.1 (types x y is)))
    by false is true h = sym is ∙ ap (same_type x) (sym (h.0 refl)) ∙ type_alike x
    by false is false h = refl

pub type_answer : (x y : BareType) (r : Bool) → IsTrue r ↔ (x ≡ y) → r ≡ same_type x y
type_answer x y r h = sym (type_test x y r h)
