-- What keeps transformers in step with types.
use Rattle.std.specs.Prelude.{◌≡◌, ◌≤◌, Bool, false, true, IsTrue, pos, List, [], ◌∷◌, map, All, Contains, None, IfSome}
use Rattle.c_tree.specs.BareExpr.{Bytes, BareType, Integer, Handle, Thread}
use Rattle.c_tree.specs.BareDef.{BareBinding, BareDef}
use Rattle.c_ints.specs.Number.{kind_of, value_of, number}
use Rattle.c_ints.specs.Arithmetic.{is_zero}
use Rattle.c_semantics.specs.Names.{struct_name}
use Rattle.c_semantics.specs.Texts.{definition, global_type, members_of}
use Rattle.c_semantics.specs.Values.{Value, Number, Reference, Started, int_of}
use Rattle.c_semantics.specs.Pieces.{Variable}
use Rattle.c_semantics.specs.Same.{same_kind}
use Rattle.c_semantics.specs.Constants.{constant}
use Rattle.c_semantics.specs.Transformers.{old_object, old_value, transformed, transformed_global}
use Rattle.c_tree.specs.Bare.{bare_type, bare_expr, bare_binding}
use Rattle.c_tree.specs.declared.name.CType.{CType}
use Rattle.c_tree.specs.declared.expr.Expr.{Expr}
use Rattle.c_tree.specs.declared.def.Binding.{Binding}
use Rattle.c_tree.specs.declared.def.Def.{Def}
use Rattle.c_expr_types.specs.declared.found.Found.{Found}
use Rattle.c_expr_types.specs.declared.found.Found.TheVariants.{Wrong, Place, Zero, Null, Nothing, Designator}
use Rattle.c_expr_types.specs.declared.found.Found.TheVariants as found
use Rattle.patch_faults.specs.TransformTypes.{AnObject, AValue, infer_old, names_in}
use Rattle.patch_faults.specs.declared.fault.TransformFault.{TransformFault}
use Rattle.patch_faults.specs.TransformFaults.{value_faults, transform_faults, first_transform_fault, place_of}

-- a value is one of a type
abbrev pub has_type : BareType → Value → Bool
has_type (Integer k) (Number n) = same_kind (kind_of n) k
has_type (Handle tag) (Reference object) = true
has_type Thread (Started thread) = true
has_type _ _ = false

-- an object has the fields of a layout, in its order, each of its type
abbrev pub HaveTypes : List BareBinding → List Variable → Type 0
HaveTypes [] [] = Unit {0}
HaveTypes (b ∷ bs) (v ∷ vs) = (v.name ≡ b.name) × IsTrue (has_type b.declared v.value) × HaveTypes bs vs
HaveTypes _ _ = ⊥

-- what an object of text p becomes in text q has the layout of q
abbrev pub FieldsHaveTypes : Type 0
FieldsHaveTypes =
    (p q : List BareDef) (tag : Bytes) (fields : List Variable)
    → HaveTypes (members_of (definition p (struct_name tag))) fields
    → HaveTypes (members_of (definition q (struct_name tag))) (transformed p q tag fields)

-- what a global of text p becomes in text q has cells of its type in q
abbrev pub CellsHaveTypes : Type 0
CellsHaveTypes =
    (p q : List BareDef) (name : Bytes) (cells : List Value)
    → All (λ v. IsTrue (has_type (global_type (definition p name)) v)) cells
    → All (λ v. IsTrue (has_type (global_type (definition q name)) v)) (transformed_global p q name cells)

-- the value of an expression is as the expression was found: one of its type, or 0 at its kind, where `NULL` is the int 0.
-- Of an expression with a fault nothing is said, nor of the word `old` where it is an object
abbrev pub AsFound : Found → Value → Type 0
AsFound (Place t) v = IsTrue (has_type (bare_type t) v)
AsFound (found.Value t) v = IsTrue (has_type (bare_type t) v)
AsFound (Zero k) v = v ≡ Number (number k (pos 0))
AsFound Null v = v ≡ int_of 0
AsFound Nothing v = ⊥
AsFound Designator v = Unit {0}
AsFound (Wrong fault) v = Unit {0}

-- in the transformer of a struct that had these fields, where `old` is an object with fields of their types
abbrev pub ObjectsAreAsFound : Type 0
ObjectsAreAsFound =
    (q : List Def) (layout : List Binding) (fields : List Variable) (e : Expr)
    → HaveTypes (map bare_binding layout) fields
    → AsFound (infer_old (names_in q) (AnObject layout) e).found (constant (old_object fields) (bare_expr e))

-- in the transformer of a global that had a type, where `old` is a value of it
abbrev pub GlobalsAreAsFound : Type 0
GlobalsAreAsFound =
    (q : List Def) (t : CType) (v : Value) (e : Expr)
    → IsTrue (has_type (bare_type t) v)
    → AsFound (infer_old (names_in q) (AValue t) e).found (constant (old_value v) (bare_expr e))

-- a value that is converted to a type as by assignment (6.5.16.1): from an integer to an integer, from a handle or 0 to a
-- handle, and from a `thrd_t` to a `thrd_t`
abbrev pub takes : BareType → Value → Bool
takes (Integer k) (Number n) = true
takes (Handle tag) (Reference object) = true
takes (Handle tag) (Number n) = is_zero (value_of n)
takes Thread (Started thread) = true
takes _ _ = false

-- where the value that a transformer gives has no fault, it is one that is converted to its type: to that of a field
abbrev pub ObjectsConvert : Type 0
ObjectsConvert =
    (q : List Def) (layout : List Binding) (fields : List Variable) (t : CType) (e : Expr)
    → HaveTypes (map bare_binding layout) fields
    → value_faults q (AnObject layout) t e ≡ []
    → IsTrue (takes (bare_type t) (constant (old_object fields) (bare_expr e)))

-- and to that of a global, which had the type u
abbrev pub GlobalsConvert : Type 0
GlobalsConvert =
    (q : List Def) (t u : CType) (v : Value) (e : Expr)
    → IsTrue (has_type (bare_type u) v)
    → value_faults q (AValue u) t e ≡ []
    → IsTrue (takes (bare_type t) (constant (old_value v) (bare_expr e)))

-- the fault that is reported is one of all, and no other is before it
pub record IsFirstOf (faults : List TransformFault) (told : TransformFault) : Type 0 where
  pub among : Contains faults told
  pub least : All (λ f. place_of told ≤ place_of f) faults

abbrev pub FirstIsLeast : Type 0
FirstIsLeast = (p q : List Def) → IfSome (first_transform_fault p q) (IsFirstOf (transform_faults p q))

-- where no fault is reported, there is none
abbrev pub NoneWhereNone : Type 0
NoneWhereNone = (p q : List Def) → first_transform_fault p q ≡ None → transform_faults p q ≡ []
