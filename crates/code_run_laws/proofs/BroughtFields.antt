-- What fields become over versions: nothing where there is no newer text, and values in range where they were.
use Rattle.std.proofs.Common.{◌≡◌, ℕ, zero, suc, ◌+◌, ◌-◌, ◌<◌, Bool, true, false, List, [], ◌∷◌, ◌++◌, map, find, length, Option, Some, None, option_map, unwrap_or, cond, refl, ap, ◌∙◌, bytes_eq, arith, if◌then◌else◌}
use Rattle.std.specs.Option.{option_map_or}
use Rattle.std.proofs.lemmas.List.Elements.{All-cons, All-head, All-nil, All-tail}
use Rattle.c_tree.specs.BareExpr.{Bytes}
use Rattle.c_tree.specs.BareDef.{BareBinding, BareDef, BareFieldValue}
use Rattle.c_semantics.specs.Names.{struct_name}
use Rattle.c_semantics.specs.Texts.{bound, definition, members_of}
use Rattle.c_semantics.specs.Changes.{same_interface}
use Rattle.c_semantics.specs.Same.{same_type}
use Rattle.c_semantics.specs.Values.{Value, converted_to, zero_of}
use Rattle.c_semantics.specs.Pieces.{Variable}
use Rattle.c_semantics.specs.Evaluation.{in_scope}
use Rattle.c_semantics.specs.Constants.{constant}
use Rattle.c_semantics.specs.Transformers.{default_field, given_fields, new_field, old_object, transformed}
use Rattle.source_model.specs.Worlds.{Object}
use Rattle.source_model.specs.Installs.{brought, brought_by}
use Rattle.version_laws.proofs.TableHistories.{text_as_before}
use Rattle.tree_code.specs.Ranges.{Ranged}
use Rattle.tree_code.proofs.WordSteps.{converted_ranged}
use Rattle.tree_code.proofs.WordValues.{zero_ranged}
use Rattle.code_runs.specs.Layouts.{FieldsRanged, brought_fields, brought_once, newest_fields, text_at}
use Rattle.code_run_laws.proofs.FieldWords.{zeros_ranged}

-- ---- no newer text

-- fields by the last text are as they are
pub newest_as_they_are : (texts : List (List BareDef)) (tag : Bytes) (n : ℕ) (fields : List Variable) → suc n ≡ length texts
    → newest_fields texts tag n fields ≡ fields
newest_as_they_are texts tag n fields e =
    let none : length texts - suc n ≡ 0 = omega (arith, e) in ap (λ k. brought_fields texts tag n k fields) none

-- ---- one object

-- an object that lives, with these fields
abbrev living : Bytes → List Variable → Object
living tag fields = record { tag = tag; fields = fields; live = true }

module _ (p q : List BareDef) (o : Object) where
  abbrev By : (Object → Type 0) → Option BareDef → Option BareDef → Type 0
  By P a b = P (brought_by p q o a b)

  pub brought_tag : (brought p q o).tag ≡ o.tag
  brought_tag = by (definition p (struct_name o.tag)) (definition q (struct_name o.tag))
    where
      by : (a b : Option BareDef) → By (λ x. x.tag ≡ o.tag) a b
      by a None = refl
      by None (Some d) = refl
      by (Some a) (Some b) = each (same_interface a b)
        where
          each : (s : Bool) → (if s then o else record o { fields = transformed p q o.tag o.fields }).tag ≡ o.tag
          each true = refl
          each false = refl

  pub brought_live : (brought p q o).live ≡ o.live
  brought_live = by (definition p (struct_name o.tag)) (definition q (struct_name o.tag))
    where
      by : (a b : Option BareDef) → By (λ x. x.live ≡ o.live) a b
      by a None = refl
      by None (Some d) = refl
      by (Some a) (Some b) = each (same_interface a b)
        where
          each : (s : Bool) → (if s then o else record o { fields = transformed p q o.tag o.fields }).live ≡ o.live
          each true = refl
          each false = refl

  pub brought_has : (brought p q o).fields ≡ brought_once p q o.tag o.fields
  brought_has = by (definition p (struct_name o.tag)) (definition q (struct_name o.tag))
    where
      by : (a b : Option BareDef) → (brought_by p q o a b).fields ≡ (brought_by p q (living o.tag o.fields) a b).fields
      by a None = refl
      by None (Some d) = refl
      by (Some a) (Some b) = each (same_interface a b)
        where
          each : (s : Bool) → (if s then o else record o { fields = transformed p q o.tag o.fields }).fields
              ≡ (if s then living o.tag o.fields else living o.tag (transformed p q o.tag o.fields)).fields
          each true = refl
          each false = refl

-- ---- values in range

scope_ranged : (fs : List Variable) (name : Bytes) (other : Value) → FieldsRanged fs → Ranged other → Ranged (unwrap_or (in_scope fs name) other)
scope_ranged [] name other h o = o
scope_ranged (f ∷ fs) name other h o =
    by (bytes_eq name f.name) (All-head (λ v. Ranged v.value) f fs h) (scope_ranged fs name other (All-tail (λ v. Ranged v.value) f fs h) o)
  where
    by : (b : Bool) → Ranged f.value → Ranged (unwrap_or (in_scope fs name) other)
        → Ranged (unwrap_or (option_map (λ v. v.value) (cond b (Some f) (find (λ v. bytes_eq name v.name) fs))) other)
    by true own rest = own
    by false own rest = rest

default_ranged : (layout : List BareBinding) (fs : List Variable) (b : BareBinding) → FieldsRanged fs → Ranged (default_field layout fs b)
default_ranged layout fs b h = by (option_map_or (λ o. same_type o.declared b.declared) (bound layout b.name) false)
  where
    by : (s : Bool) → Ranged (if s then unwrap_or (in_scope fs b.name) (zero_of b.declared) else zero_of b.declared)
    by true = scope_ranged fs b.name (zero_of b.declared) h (zero_ranged b.declared)
    by false = zero_ranged b.declared

new_ranged : (layout : List BareBinding) (fs : List Variable) (given : List BareFieldValue) (b : BareBinding) → FieldsRanged fs
    → Ranged (new_field layout fs given b)
new_ranged layout fs given b h = by (find (λ v. bytes_eq b.name v.field) given)
  where
    by : (o : Option BareFieldValue)
        → Ranged (option_map_or (λ v. converted_to b.declared (constant (old_object fs) v.value)) o (default_field layout fs b))
    by None = default_ranged layout fs b h
    by (Some v) = converted_ranged b.declared (constant (old_object fs) v.value)

each_ranged : (bs : List BareBinding) (value : BareBinding → Value) → ((b : BareBinding) → Ranged (value b))
    → FieldsRanged (map (λ b. record { name = b.name; value = value b }) bs)
each_ranged [] value h = All-nil (λ v. Ranged v.value)
each_ranged (b ∷ bs) value h =
    All-cons (λ v. Ranged v.value) (record { name = b.name; value = value b }) (map (λ c. record { name = c.name; value = value c }) bs) (h b)
    (each_ranged bs value h)

once_ranged : (p q : List BareDef) (tag : Bytes) (fs : List Variable) → FieldsRanged fs → FieldsRanged (brought_once p q tag fs)
once_ranged p q tag fs h = by (definition p (struct_name tag)) (definition q (struct_name tag))
  where
    by : (a b : Option BareDef) → FieldsRanged (brought_by p q (living tag fs) a b).fields
    by a None = h
    by None (Some d) = zeros_ranged (members_of (Some d))
    by (Some a) (Some b) = each (same_interface a b)
      where
        each : (s : Bool) → FieldsRanged (if s then living tag fs else living tag (transformed p q tag fs)).fields
        each true = h
        each false =
            each_ranged (members_of (definition q (struct_name tag))) (new_field (members_of (definition p (struct_name tag))) fs (given_fields q tag))
            (λ b. new_ranged (members_of (definition p (struct_name tag))) fs (given_fields q tag) b h)

pub brought_ranged : (texts : List (List BareDef)) (tag : Bytes) (from n : ℕ) (fs : List Variable) → FieldsRanged fs
    → FieldsRanged (brought_fields texts tag from n fs)
brought_ranged texts tag from zero fs h = h
brought_ranged texts tag from (suc n) fs h =
    once_ranged (text_at texts (from + n)) (text_at texts (suc (from + n))) tag (brought_fields texts tag from n fs)
    (brought_ranged texts tag from n fs h)

-- ---- one text more

module _ (texts : List (List BareDef)) (q : List BareDef) where
  pub text_still : (n : ℕ) → n < length texts → text_at (texts ++ q ∷ []) n ≡ text_at texts n
  text_still n within = text_as_before texts q (suc n) (omega (arith, within))

  pub brought_still : (tag : Bytes) (from n : ℕ) (fs : List Variable) → from + n < length texts
      → brought_fields (texts ++ q ∷ []) tag from n fs ≡ brought_fields texts tag from n fs
  brought_still tag from zero fs within = refl
  brought_still tag from (suc n) fs within =
      ap (λ t. brought_once t (text_at (texts ++ q ∷ []) (suc (from + n))) tag (brought_fields (texts ++ q ∷ []) tag from n fs))
      (text_still (from + n) (omega (arith, within)))
      ∙ ap (λ t. brought_once (text_at texts (from + n)) t tag (brought_fields (texts ++ q ∷ []) tag from n fs))
      (text_still (suc (from + n)) (omega (arith, within)))
      ∙ ap (brought_once (text_at texts (from + n)) (text_at texts (suc (from + n))) tag) (brought_still tag from n fs (omega (arith, within)))
