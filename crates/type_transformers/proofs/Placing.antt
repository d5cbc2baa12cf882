-- The places of names in a layout, and what is at them.
use Rattle.std.proofs.Common.{◌≡◌, ℕ, suc, ◌+◌, ◌<◌, Bool, true, false, List, [], ◌∷◌, map, length, get_or, drop, find, Option, None, Some, option_map, bytes_eq, refl, sym, ap, ◌∙◌, arith, add-one, drop-cons, if◌then◌else◌}
use Rattle.std.specs.Prelude.{unwrap_or, slice_index_or}
use Rattle.std.specs.Option.{option_map_or}
use Rattle.c_tree.specs.BareExpr.{Bytes}
use Rattle.c_tree.specs.Bare.{bare_binding}
use Rattle.c_tree.specs.BareDef.{BareBinding}
use Rattle.c_tree.specs.declared.def.Binding.{Binding}
use Rattle.c_semantics.specs.Texts.{bound}
use Rattle.c_semantics.specs.Values.{Value}
use Rattle.c_semantics.specs.Evaluation.{in_scope}
use Rattle.versioned_structs.specs.Transforms.{variables}
use Rattle.type_transformers.specs.Places.{place_in}

on_from : (n : ℕ) (o : Option ℕ) → option_map (λ i. n + i) (option_map suc o) ≡ option_map (λ i. n + 1 + i) o
on_from n None = refl
on_from n (Some i) = ap Some (omega arith)

-- the fields from a place on: one field more
fields_from : (fields : List Binding) (place : ℕ) (field : Binding) → place < length fields → field ≡ get_or fields place field
    → map bare_binding (drop place fields) ≡ bare_binding field ∷ map bare_binding (drop (place + 1) fields)
fields_from fields place field within is =
    ap (map bare_binding) (drop-cons fields place field within)
    ∙ ap (λ n. map bare_binding (get_or fields place field ∷ drop n fields)) (sym (add-one place))
    ∙ ap (λ f. bare_binding f ∷ map bare_binding (drop (place + 1) fields)) (sym is)

by_test : (name : Bytes) (b : BareBinding) (bs : List BareBinding) (n : ℕ) (t : Bool) → bytes_eq name b.name ≡ t
    → option_map (λ i. n + i) (place_in (b ∷ bs) name) ≡ option_map (λ i. n + i) (if t then Some 0 else option_map suc (place_in bs name))
by_test name b bs n t is = ap (λ t. option_map (λ i. n + i) (if t then Some 0 else option_map suc (place_in bs name))) is

-- a field that has another name
pub place_passes : (fields : List Binding) (name : Bytes) (place : ℕ) (field : Binding)
    → place < length fields → field ≡ get_or fields place field → bytes_eq name field.name.text ≡ false
    → option_map (λ i. place + i) (place_in (map bare_binding (drop place fields)) name)
    ≡ option_map (λ i. place + 1 + i) (place_in (map bare_binding (drop (place + 1) fields)) name)
place_passes fields name place field within is differs =
    let rest = map bare_binding (drop (place + 1) fields) in
    ap (λ bs. option_map (λ i. place + i) (place_in bs name)) (fields_from fields place field within is)
    ∙ by_test name (bare_binding field) rest place false differs
    ∙ on_from place (place_in rest name)

-- the field that has the name
pub place_is_here : (fields : List Binding) (name : Bytes) (place : ℕ) (field : Binding)
    → place < length fields → field ≡ get_or fields place field → bytes_eq name field.name.text ≡ true
    → option_map (λ i. place + i) (place_in (map bare_binding (drop place fields)) name) ≡ Some place
place_is_here fields name place field within is same =
    let rest = map bare_binding (drop (place + 1) fields) in
    ap (λ bs. option_map (λ i. place + i) (place_in bs name)) (fields_from fields place field within is)
    ∙ by_test name (bare_binding field) rest place true same
    ∙ ap Some (omega arith)

always : {A : Type 0} (d : Value) (o : Option A) → option_map_or (λ i. d) o d ≡ d
always d None = refl
always d (Some i) = refl

-- the value of the field with a name is at the name's place
pub value_at_place : (bs : List BareBinding) (values : List Value) (name : Bytes) (d : Value)
    → unwrap_or (in_scope (variables bs values) name) d ≡ option_map_or (λ i. slice_index_or values i d) (place_in bs name) d
value_at_place [] values name d = refl
value_at_place (b ∷ bs) [] name d = sym (always d (place_in (b ∷ bs) name))
value_at_place (b ∷ bs) (v ∷ values) name d = by (bytes_eq name b.name) (place_in bs name) (value_at_place bs values name d)
  where
    by : (t : Bool) (o : Option ℕ)
        → unwrap_or (in_scope (variables bs values) name) d ≡ option_map_or (λ i. slice_index_or values i d) o d
        → unwrap_or (option_map (λ x. x.value) (if t then Some (record { name = b.name; value = v }) else find (λ x. bytes_eq name x.name) (variables bs values))) d
        ≡ option_map_or (λ i. slice_index_or (v ∷ values) i d) (if t then Some 0 else option_map suc o) d
    by true o rest = refl
    by false None rest = rest
    by false (Some i) rest = rest

-- a name with a place is bound there
pub record IsBoundAt (bs : List BareBinding) (name : Bytes) (place : ℕ) : Type 0 where
  pub within : place < length bs
  pub is : (d : BareBinding) → bound bs name ≡ Some (get_or bs place d)

pub bound_at : (bs : List BareBinding) (name : Bytes) (place : ℕ) → place_in bs name ≡ Some place → IsBoundAt bs name place
bound_at [] name place e = cc
bound_at (b ∷ bs) name place e = by (bytes_eq name b.name) refl (place_in bs name) refl (λ i is. bound_at bs name i is) e
  where
    by : (t : Bool) → bytes_eq name b.name ≡ t → (o : Option ℕ) → place_in bs name ≡ o
        → ((i : ℕ) → place_in bs name ≡ Some i → IsBoundAt bs name i)
        → (if t then Some 0 else option_map suc o) ≡ Some place → IsBoundAt (b ∷ bs) name place
    by true same o is further e =
        let first : 0 ≡ place = cc in
        record {
          within = omega arith;
          is = λ d. ap (λ t. if t then Some b else bound bs name) same ∙ ap (λ n. Some (get_or (b ∷ bs) n d)) first;
        }
    by false differs None is further e = cc
    by false differs (Some i) is further e =
        let later : suc i ≡ place = cc in
        let rest = further i is in
        let inside = rest.within in
        record {
          within = omega arith;
          is = λ d. ap (λ t. if t then Some b else bound bs name) differs ∙ rest.is d ∙ ap (λ n. Some (get_or (b ∷ bs) n d)) later;
        }

-- a name without a place is not bound
pub not_bound : (bs : List BareBinding) (name : Bytes) → place_in bs name ≡ None → bound bs name ≡ None
not_bound [] name e = refl
not_bound (b ∷ bs) name e = by (bytes_eq name b.name) refl (place_in bs name) refl (not_bound bs name) e
  where
    by : (t : Bool) → bytes_eq name b.name ≡ t → (o : Option ℕ) → place_in bs name ≡ o
        → (place_in bs name ≡ None → bound bs name ≡ None)
        → (if t then Some 0 else option_map suc o) ≡ None → bound (b ∷ bs) name ≡ None
    by true same o is further e = cc
    by false differs None is further e = ap (λ t. if t then Some b else bound bs name) differs ∙ further is
    by false differs (Some i) is further e = cc
