-- Typed cells and fields: what is read of them and written to them.
use Rattle.std.proofs.Common.{◌≡◌, ℕ, zero, suc, Bool, true, false, List, [], ◌∷◌, find, Some, option_map, is_some, unwrap_or, All, cond, refl, sym, ap, subst, ◌∙◌, bytes_eq, if◌then◌else◌}
use Rattle.std.specs.Prelude.{IsTrue, slice_get, slice_set}
use Rattle.std.specs.Option.{option_map_or}
use Rattle.std.proofs.lemmas.List.Elements.{All-get_or}
use Rattle.std.proofs.lemmas.Option.{get_or_from_slice_get, same_Some, slice_get-map, slice_get_within}
use Rattle.c_tree.specs.BareExpr.{Bytes}
use Rattle.c_tree.specs.BareDef.{BareBinding, BareDef}
use Rattle.c_semantics.specs.Texts.{bound, bound_type, definition, global_type, int}
use Rattle.c_semantics.specs.Values.{Value, int_of}
use Rattle.c_semantics.specs.Pieces.{Variable}
use Rattle.c_semantics.specs.Evaluation.{in_scope, with_value}
use Rattle.c_semantics.specs.Transformers.{zero_fields}
use Rattle.source_model.specs.Worlds.{World, Object, with_cells}
use Rattle.world_laws.proofs.Found.{same_bytes, written}
use Rattle.typed_trees.specs.ValueTypes.{HasType, ScopeHas}
use Rattle.typed_trees.proofs.ValuesOfTypes.{never, zero_has}
use Rattle.typed_runs.specs.TypedWorlds.{GlobalsTyped, ObjectTyped, tags_of}

module _ (text : List BareDef) (tags : List Bytes) where
  -- cells that are written under a name have its type
  pub cells_written : (w : World) (name : Bytes) (cells : List Value) → All (HasType tags (global_type (definition text name))) cells
      → GlobalsTyped text tags w → GlobalsTyped text tags (with_cells name cells w)
  cells_written w name cells new h n has =
      written (All (HasType tags (global_type (definition text n)))) name cells w.globals n (h n has)
      (λ same. subst (λ m. All (HasType tags (global_type (definition text m))) cells) (sym (same_bytes n name same)) new)

  -- an object by its number
  pub object_at : (os : List Object) (n : ℕ) (o : Object) → slice_get os n ≡ Some o → All (ObjectTyped text tags) os → ObjectTyped text tags o
  object_at os n o is h =
      subst (ObjectTyped text tags) (get_or_from_slice_get os n o o is)
      (All-get_or (ObjectTyped text tags) os n o (slice_get_within os n o is) h)

-- ---- fields

module _ (tags : List Bytes) where
  -- a field that is read
  pub field_has : (ms : List BareBinding) (fs : List Variable) (name : Bytes) → ScopeHas tags ms fs → IsTrue (is_some (bound ms name))
      → HasType tags (bound_type ms name) (unwrap_or (in_scope fs name) (int_of 0))
  field_has [] fs name h there = absurd (never there)
  field_has (m ∷ ms) [] name h there = absurd h
  field_has (m ∷ ms) (f ∷ fs) name h there =
      subst
      (λ n. HasType tags (bound_type (m ∷ ms) name)
      (unwrap_or (option_map (λ v. v.value) (cond (bytes_eq name n) (Some f) (find (λ v. bytes_eq name v.name) fs))) (int_of 0)))
      (sym h.0) (by (bytes_eq name m.name) there (field_has ms fs name h.2))
    where
      by : (b : Bool) → IsTrue (is_some (cond b (Some m) (bound ms name)))
          → (IsTrue (is_some (bound ms name)) → HasType tags (bound_type ms name) (unwrap_or (in_scope fs name) (int_of 0)))
          → HasType tags (option_map_or (λ x. x.declared) (cond b (Some m) (bound ms name)) int)
          (unwrap_or (option_map (λ v. v.value) (cond b (Some f) (find (λ v. bytes_eq name v.name) fs))) (int_of 0))
      by true is rest = h.1
      by false is rest = rest is

  -- and one that is written
  pub field_written : (ms : List BareBinding) (fs : List Variable) (name : Bytes) (v : Value) → ScopeHas tags ms fs
      → HasType tags (bound_type ms name) v → ScopeHas tags ms (with_value name v fs)
  field_written [] [] name v h new = tt
  field_written [] (f ∷ fs) name v h new = absurd h
  field_written (m ∷ ms) [] name v h new = absurd h
  field_written (m ∷ ms) (f ∷ fs) name v h new =
      subst (λ n. ScopeHas tags (m ∷ ms) (if bytes_eq name n then record f { value = v } ∷ fs else f ∷ with_value name v fs)) (sym h.0)
      (by (bytes_eq name m.name) new (field_written ms fs name v h.2))
    where
      by : (b : Bool) → HasType tags (option_map_or (λ x. x.declared) (cond b (Some m) (bound ms name)) int) v
          → (HasType tags (bound_type ms name) v → ScopeHas tags ms (with_value name v fs))
          → ScopeHas tags (m ∷ ms) (if b then record f { value = v } ∷ fs else f ∷ with_value name v fs)
      by true is rest = (h.0, is, h.2)
      by false is rest = (h.0, h.1, rest is)

  -- a new object
  pub zeros_have : (ms : List BareBinding) → ScopeHas tags ms (zero_fields ms)
  zeros_have [] = tt
  zeros_have (m ∷ ms) = (refl, zero_has tags m.declared, zeros_have ms)

-- ---- tags

pub tag_at : (os : List Object) (n : ℕ) (o : Object) → slice_get os n ≡ Some o → slice_get (tags_of os) n ≡ Some o.tag
tag_at os n o is = slice_get-map (λ (x : Object). x.tag) os n ∙ ap (option_map (λ (x : Object). x.tag)) is

-- the tag of an object that a handle names
pub tag_is : (os : List Object) (n : ℕ) (o : Object) (tag : Bytes) → slice_get os n ≡ Some o → slice_get (tags_of os) n ≡ Some tag → tag ≡ o.tag
tag_is os n o tag is has = same_Some tag o.tag (sym has ∙ tag_at os n o is)

-- an object that is changed keeps its tag
pub tags_kept : (os : List Object) (n : ℕ) (o p : Object) → slice_get os n ≡ Some o → p.tag ≡ o.tag → tags_of (slice_set os n p) ≡ tags_of os
tags_kept [] n o p at same = refl
tags_kept (x ∷ os) zero o p at same = ap (λ y. y ∷ tags_of os) (same ∙ ap (λ (y : Object). y.tag) (sym (same_Some x o at)))
tags_kept (x ∷ os) (suc n) o p at same = ap (λ ys. x.tag ∷ ys) (tags_kept os n o p at same)
