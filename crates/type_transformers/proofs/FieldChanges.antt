-- How new fields come from old ones, one by one and together.
use Rattle.std.proofs.Common.{◌≡◌, ℕ, zero, suc, ◌<◌, Bool, true, false, List, [], ◌∷◌, ◌++◌, map, length, find, None, Some, option_map, bytes_eq, refl, sym, ap, ◌∙◌, arith, if◌then◌else◌}
use Rattle.std.specs.Prelude.{slice_index_or, unwrap_or}
use Rattle.std.specs.Option.{option_map_or}
use Rattle.c_tree.specs.BareExpr.{BareType, BareExpr}
use Rattle.c_tree.specs.Bare.{bare_field_value}
use Rattle.c_tree.specs.BareDef.{BareBinding, BareFieldValue, BareDef}
use Rattle.c_tree.specs.declared.def.FieldValue.{FieldValue}
use Rattle.c_semantics.specs.Same.{same_type}
use Rattle.c_semantics.specs.Texts.{bound}
use Rattle.c_semantics.specs.Values.{Value, int_of, zero_of, converted_to}
use Rattle.c_semantics.specs.Pieces.{Variable}
use Rattle.c_semantics.specs.Evaluation.{in_scope}
use Rattle.c_semantics.specs.Constants.{constant}
use Rattle.c_semantics.specs.Transformers.{old_object, default_field, new_field, given_fields}
use Rattle.constant_values.specs.Kinds.{kind_of}
use Rattle.versioned_structs.specs.Transforms.{new_values, variables, layout_in, IsTransformOf}
use Rattle.versioned_structs.specs.Formulas.{value_in}
use Rattle.versioned_structs.specs.declared.formula.Formula.{Formula}
use Rattle.versioned_structs.specs.declared.transform.FieldChange.{FieldChange}
use Rattle.versioned_structs.specs.declared.transform.FieldChange.TheVariants.{Copied, Zero, Given}
use Rattle.type_transformers.specs.Hows.{How, how_by_default, how_field, how_of}
use Rattle.type_transformers.specs.Hows as how
use Rattle.type_transformers.specs.Places.{place_in}
use Rattle.type_transformers.specs.Fields.{IsGivenChange, IsDefaultChange, IsFieldChange, AreFieldChanges}
use Rattle.type_transformers.proofs.ByKind.{zero_by_kind, converted_by_kind}
use Rattle.type_transformers.proofs.Placing.{value_at_place, bound_at, not_bound}

-- past the end alone the default counts
within_any : (vs : List Value) (i : ℕ) (a b : Value) → i < length vs → slice_index_or vs i a ≡ slice_index_or vs i b
within_any [] i a b within = absurd (omega arith)
within_any (v ∷ vs) zero a b within = refl
within_any (v ∷ vs) (suc i) a b within = within_any vs i a b (omega arith)

-- a field that is copied
pub copied_is : (layout : List BareBinding) (b : BareBinding) (place : ℕ) (d : BareBinding)
    → place_in layout b.name ≡ Some place → same_type (slice_index_or layout place d).declared b.declared ≡ true
    → IsDefaultChange layout b (Copied place)
copied_is layout b place d at same =
    let found = bound_at layout b.name place at in
    let here = found.is d in
    let inside = found.within in
    let stays : option_map_or (λ o. same_type o.declared b.declared) (bound layout b.name) false ≡ true =
    ap (λ o. option_map_or (λ o. same_type o.declared b.declared) o false) here ∙ same
    in
    record {
      value = λ values same_length.
          let within : place < length values = omega arith in
          within_any values place (int_of 0) (zero_of b.declared) within
          ∙ sym (ap (λ o. option_map_or (λ i. slice_index_or values i (zero_of b.declared)) o (zero_of b.declared)) at)
          ∙ sym (value_at_place layout values b.name (zero_of b.declared))
          ∙ sym (ap (λ t. if t then unwrap_or (in_scope (variables layout values) b.name) (zero_of b.declared) else zero_of b.declared) stays);
      how = sym (ap (λ t. if t then how.Copied else how.Zero) stays);
    }

-- a field that isn't: none has its name and type
pub zero_is : (layout : List BareBinding) (b : BareBinding)
    → option_map_or (λ o. same_type o.declared b.declared) (bound layout b.name) false ≡ false
    → IsDefaultChange layout b (Zero (kind_of b.declared))
zero_is layout b stays = record {
  value = λ values same_length.
      zero_by_kind b.declared
      ∙ sym (ap (λ t. if t then unwrap_or (in_scope (variables layout values) b.name) (zero_of b.declared) else zero_of b.declared) stays);
  how = sym (ap (λ t. if t then how.Copied else how.Zero) stays);
}

pub zero_without_place : (layout : List BareBinding) (b : BareBinding)
    → place_in layout b.name ≡ None → IsDefaultChange layout b (Zero (kind_of b.declared))
zero_without_place layout b at =
    zero_is layout b (ap (λ o. option_map_or (λ o. same_type o.declared b.declared) o false) (not_bound layout b.name at))

pub zero_of_other_type : (layout : List BareBinding) (b : BareBinding) (place : ℕ) (d : BareBinding)
    → place_in layout b.name ≡ Some place → same_type (slice_index_or layout place d).declared b.declared ≡ false
    → IsDefaultChange layout b (Zero (kind_of b.declared))
zero_of_other_type layout b place d at differs =
    zero_is layout b (ap (λ o. option_map_or (λ o. same_type o.declared b.declared) o false) ((bound_at layout b.name place at).is d) ∙ differs)

-- a field that the transformer gives
pub given_is : (layout : List BareBinding) (type : BareType) (e : BareExpr) (formula : Formula)
    → ((values : List Value) → value_in values formula ≡ constant (old_object (variables layout values)) e)
    → IsGivenChange layout type e (Given (kind_of type) formula)
given_is layout type e formula is = record {
  value = λ values. converted_by_kind type (value_in values formula) ∙ ap (converted_to type) (is values);
  how = refl;
}

-- what a transformer's values give for a name, by the values with and without places
pub value_found : (name : List ℕ) (given : List FieldValue)
    → find (λ v. bytes_eq name v.field) (map bare_field_value given) ≡ option_map bare_field_value (find (λ v. bytes_eq name v.field.text) given)
value_found name [] = refl
value_found name (v ∷ given) = by (bytes_eq name v.field.text) (value_found name given)
  where
    by : (t : Bool) → find (λ v. bytes_eq name v.field) (map bare_field_value given) ≡ option_map bare_field_value (find (λ v. bytes_eq name v.field.text) given)
        → (if t then Some (bare_field_value v) else find (λ v. bytes_eq name v.field) (map bare_field_value given))
        ≡ option_map bare_field_value (if t then Some v else find (λ v. bytes_eq name v.field.text) given)
    by true rest = refl
    by false rest = rest

-- a field with a value
pub field_given : (layout : List BareBinding) (given : List FieldValue) (b : BareBinding) (v : FieldValue) (change : FieldChange)
    → find (λ v. bytes_eq b.name v.field.text) given ≡ Some v → IsGivenChange layout b.declared (bare_field_value v).value change
    → IsFieldChange layout (map bare_field_value given) b change
field_given layout given b v change found is =
    let here : find (λ v. bytes_eq b.name v.field) (map bare_field_value given) ≡ Some (bare_field_value v) =
    value_found b.name given ∙ ap (option_map bare_field_value) found
    in
    record {
      value = λ values same_length.
          is.value values
          ∙ sym (ap (λ o. option_map_or (λ v. converted_to b.declared (constant (old_object (variables layout values)) v.value)) o (default_field layout (variables layout values) b)) here);
      how = is.how ∙ sym (ap (λ o. option_map_or (λ v. how.Given) o (how_by_default layout b)) here);
    }

-- a field without one
pub field_by_default : (layout : List BareBinding) (given : List FieldValue) (b : BareBinding) (change : FieldChange)
    → find (λ v. bytes_eq b.name v.field.text) given ≡ None → IsDefaultChange layout b change
    → IsFieldChange layout (map bare_field_value given) b change
field_by_default layout given b change found is =
    let none : find (λ v. bytes_eq b.name v.field) (map bare_field_value given) ≡ None =
    value_found b.name given ∙ ap (option_map bare_field_value) found
    in
    record {
      value = λ values same_length.
          is.value values same_length
          ∙ sym (ap (λ o. option_map_or (λ v. converted_to b.declared (constant (old_object (variables layout values)) v.value)) o (default_field layout (variables layout values) b)) none);
      how = is.how ∙ sym (ap (λ o. option_map_or (λ v. how.Given) o (how_by_default layout b)) none);
    }

-- one field more
pub changes_push : (layout : List BareBinding) (given : List BareFieldValue) (bs : List BareBinding) (changes : List FieldChange)
    (b : BareBinding) (change : FieldChange)
    → AreFieldChanges layout given bs changes → IsFieldChange layout given b change
    → AreFieldChanges layout given (bs ++ b ∷ []) (changes ++ change ∷ [])
changes_push layout given [] [] b change are is = (is, tt)
changes_push layout given [] (c ∷ changes) b change are is = absurd are
changes_push layout given (x ∷ bs) [] b change are is = absurd are
changes_push layout given (x ∷ bs) (c ∷ changes) b change are is = (are.0, changes_push layout given bs changes b change are.1 is)

pub as_many : (layout : List BareBinding) (given : List BareFieldValue) (bs : List BareBinding) (changes : List FieldChange)
    → AreFieldChanges layout given bs changes → length changes ≡ length bs
as_many layout given [] [] are = refl
as_many layout given [] (c ∷ changes) are = absurd are
as_many layout given (b ∷ bs) [] are = absurd are
as_many layout given (b ∷ bs) (c ∷ changes) are = let rest = as_many layout given bs changes are.1 in omega arith

pub hows : (layout : List BareBinding) (given : List BareFieldValue) (bs : List BareBinding) (changes : List FieldChange)
    → AreFieldChanges layout given bs changes → map how_of changes ≡ map (how_field layout given) bs
hows layout given [] [] are = refl
hows layout given [] (c ∷ changes) are = absurd are
hows layout given (b ∷ bs) [] are = absurd are
hows layout given (b ∷ bs) (c ∷ changes) are =
    let first = are.0.how in
    let rest = hows layout given bs changes are.1 in
    cc

values_are : (layout : List BareBinding) (given : List BareFieldValue) (bs : List BareBinding) (changes : List FieldChange) (values : List Value)
    → length values ≡ length layout → AreFieldChanges layout given bs changes
    → variables bs (new_values changes values)
    ≡ map (λ b. let v : Variable = record { name = b.name; value = new_field layout (variables layout values) given b } in v) bs
values_are layout given [] [] values same are = refl
values_are layout given [] (c ∷ changes) values same are = absurd are
values_are layout given (b ∷ bs) [] values same are = absurd are
values_are layout given (b ∷ bs) (c ∷ changes) values same are =
    let first = are.0.value values same in
    let rest = values_are layout given bs changes values same are.1 in
    ap (λ w. let v : Variable = record { name = b.name; value = w } in v ∷ variables bs (new_values changes values)) first
    ∙ ap (λ vs. let v : Variable = record { name = b.name; value = new_field layout (variables layout values) given b } in v ∷ vs) rest

-- the changes of all fields are the transform of the struct
pub changes_transform : (p q : List BareDef) (tag : List ℕ) (changes : List FieldChange)
    → AreFieldChanges (layout_in p tag) (given_fields q tag) (layout_in q tag) changes → IsTransformOf p q tag changes
changes_transform p q tag changes are = record {
  each_field = as_many (layout_in p tag) (given_fields q tag) (layout_in q tag) changes are;
  transforms = λ values same. values_are (layout_in p tag) (given_fields q tag) (layout_in q tag) changes values same are;
}
