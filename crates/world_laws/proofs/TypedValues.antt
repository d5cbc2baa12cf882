-- Values that have the type that they are converted to, or begin with.
use Rattle.std.proofs.Common.{◌≡◌, refl, sym, subst}
use Rattle.std.specs.Prelude.{IsTrue}
use Rattle.c_ints.specs.declared.kind.Kind.{Kind}
use Rattle.c_ints.specs.declared.kind.Kind.TheVariants.{I8, U8, I16, U16, I32, U32, I64, U64}
use Rattle.c_ints.specs.declared.int.Int.{Int}
use Rattle.c_ints.specs.Number.{kind_of, number, value_of, reduced, converted}
use Rattle.c_ints.proofs.Reduction.{kind_of-number}
use Rattle.c_tree.specs.BareExpr.{BareType, Integer, Handle, Thread}
use Rattle.c_semantics.specs.Values.{Value, Number, Reference, Started, zero_of, converted_to}
use Rattle.c_semantics.specs.Same.{same_kind}
use Rattle.patch_faults.specs.TransformLaws.{has_type}

kind_itself : (k : Kind) → IsTrue (same_kind k k)
kind_itself I8 = refl
kind_itself U8 = refl
kind_itself I16 = refl
kind_itself U16 = refl
kind_itself I32 = refl
kind_itself U32 = refl
kind_itself I64 = refl
kind_itself U64 = refl

-- an integer of a kind
pub of_kind : (k : Kind) (n : Int) → kind_of n ≡ k → IsTrue (has_type (Integer k) (Number n))
of_kind k n e = subst (λ x. IsTrue (same_kind x k)) (sym e) (kind_itself k)

pub zero_has_type : (t : BareType) → IsTrue (has_type t (zero_of t))
zero_has_type (Integer k) = of_kind k (number k _) (kind_of-number k _)
zero_has_type (Handle tag) = refl
zero_has_type Thread = refl

pub converted_has_type : (t : BareType) (v : Value) → IsTrue (has_type t (converted_to t v))
converted_has_type (Integer k) (Number n) = of_kind k (converted n k) (kind_of-number k (reduced k (value_of n)))
converted_has_type (Integer k) (Reference object) = zero_has_type (Integer k)
converted_has_type (Integer k) (Started thread) = zero_has_type (Integer k)
converted_has_type (Handle tag) (Number n) = refl
converted_has_type (Handle tag) (Reference object) = refl
converted_has_type (Handle tag) (Started thread) = refl
converted_has_type Thread (Number n) = refl
converted_has_type Thread (Reference object) = refl
converted_has_type Thread (Started thread) = refl
