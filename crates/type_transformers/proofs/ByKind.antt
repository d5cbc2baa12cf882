-- What depends on a type's kind alone.
use Rattle.std.proofs.Common.{◌≡◌, refl}
use Rattle.c_tree.specs.BareExpr.{BareType, Integer, Handle, Thread}
use Rattle.c_semantics.specs.Values.{Value, Number, Reference, Started, zero_of, converted_to}
use Rattle.constant_values.specs.Kinds.{kind_of, zero_of_kind, converted_to_kind}

pub zero_by_kind : (t : BareType) → zero_of_kind (kind_of t) ≡ zero_of t
zero_by_kind (Integer k) = refl
zero_by_kind (Handle tag) = refl
zero_by_kind Thread = refl

pub converted_by_kind : (t : BareType) (v : Value) → converted_to_kind (kind_of t) v ≡ converted_to t v
converted_by_kind (Integer k) (Number n) = refl
converted_by_kind (Integer k) (Reference o) = refl
converted_by_kind (Integer k) (Started t) = refl
converted_by_kind (Handle tag) (Number n) = refl
converted_by_kind (Handle tag) (Reference o) = refl
converted_by_kind (Handle tag) (Started t) = refl
converted_by_kind Thread (Number n) = refl
converted_by_kind Thread (Reference o) = refl
converted_by_kind Thread (Started t) = refl
