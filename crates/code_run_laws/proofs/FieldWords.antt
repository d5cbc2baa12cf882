-- The words of fields: a field that is read or written has the word of its number among the members.
use Rattle.std.proofs.Common.{◌≡◌, ℕ, ◌+◌, Bool, true, false, not, cond, List, [], ◌∷◌, ◌++◌, find, get_or, set, length, replicate, Some, option_map, is_some, unwrap_or, refl, sym, ap, subst, ◌∙◌, bytes_eq, if◌then◌else◌, arith}
use Rattle.std.specs.Prelude.{IsTrue}
use Rattle.std.proofs.lemmas.List.Elements.{All-cons, All-head, All-nil, All-tail}
use Rattle.c_tree.specs.BareExpr.{Bytes}
use Rattle.c_tree.specs.BareDef.{BareBinding}
use Rattle.c_semantics.specs.Texts.{bound}
use Rattle.c_semantics.specs.Values.{Value, int_of, zero_of}
use Rattle.c_semantics.specs.Pieces.{Variable}
use Rattle.c_semantics.specs.Evaluation.{in_scope, with_value}
use Rattle.c_semantics.specs.Transformers.{zero_fields}
use Rattle.typed_trees.specs.ValueTypes.{ScopeHas}
use Rattle.typed_trees.proofs.ValuesOfTypes.{never}
use Rattle.bytecode.specs.Words.{Naming, word_of}
use Rattle.tree_code.specs.Ranges.{Ranged}
use Rattle.tree_code.proofs.WordValues.{zero_ranged, zero_word}
use Rattle.code_runs.specs.CodeData.{field_number}
use Rattle.code_runs.specs.Layouts.{FieldsRanged, field_words}
use Rattle.code_run_laws.proofs.NameNumbers.{next_place, next_set}

module _ (tags : List Bytes) (naming : Naming) where
  pub field_read : (ms : List BareBinding) (fs : List Variable) (name : Bytes) (others : List ℕ) → ScopeHas tags ms fs
      → IsTrue (is_some (bound ms name))
      → get_or (field_words naming fs ++ others) (field_number ms name) 0 ≡ word_of naming (unwrap_or (in_scope fs name) (int_of 0))
  field_read [] fs name others h there = absurd (never there)
  field_read (m ∷ ms) [] name others h there = absurd h
  field_read (m ∷ ms) (f ∷ fs) name others h there =
      subst
      (λ n. get_or (word_of naming f.value ∷ field_words naming fs ++ others) (field_number (m ∷ ms) name) 0
      ≡ word_of naming (unwrap_or (option_map (λ v. v.value) (cond (bytes_eq name n) (Some f) (find (λ v. bytes_eq name v.name) fs))) (int_of 0)))
      (sym h.0) (by (bytes_eq name m.name) there (field_read ms fs name others h.2))
    where
      by : (b : Bool) → IsTrue (is_some (cond b (Some m) (bound ms name)))
          → (IsTrue (is_some (bound ms name))
          → get_or (field_words naming fs ++ others) (field_number ms name) 0 ≡ word_of naming (unwrap_or (in_scope fs name) (int_of 0)))
          → get_or (word_of naming f.value ∷ field_words naming fs ++ others) (cond (not b) (1 + field_number ms name) 0) 0
          ≡ word_of naming (unwrap_or (option_map (λ v. v.value) (cond b (Some f) (find (λ v. bytes_eq name v.name) fs))) (int_of 0))
      by true is rest = refl
      by false is rest = next_place (word_of naming f.value) (field_words naming fs ++ others) (field_number ms name) 0 ∙ rest is

  pub field_set : (ms : List BareBinding) (fs : List Variable) (name : Bytes) (v : Value) (others : List ℕ) → ScopeHas tags ms fs
      → IsTrue (is_some (bound ms name))
      → set (field_words naming fs ++ others) (field_number ms name) (word_of naming v) ≡ field_words naming (with_value name v fs) ++ others
  field_set [] fs name v others h there = absurd (never there)
  field_set (m ∷ ms) [] name v others h there = absurd h
  field_set (m ∷ ms) (f ∷ fs) name v others h there =
      subst
      (λ n. set (word_of naming f.value ∷ field_words naming fs ++ others) (field_number (m ∷ ms) name) (word_of naming v)
      ≡ field_words naming (if bytes_eq name n then record f { value = v } ∷ fs else f ∷ with_value name v fs) ++ others)
      (sym h.0) (by (bytes_eq name m.name) there (field_set ms fs name v others h.2))
    where
      by : (b : Bool) → IsTrue (is_some (cond b (Some m) (bound ms name)))
          → (IsTrue (is_some (bound ms name))
          → set (field_words naming fs ++ others) (field_number ms name) (word_of naming v) ≡ field_words naming (with_value name v fs) ++ others)
          → set (word_of naming f.value ∷ field_words naming fs ++ others) (cond (not b) (1 + field_number ms name) 0) (word_of naming v)
          ≡ field_words naming (if b then record f { value = v } ∷ fs else f ∷ with_value name v fs) ++ others
      by true is rest = refl
      by false is rest =
          next_set (word_of naming f.value) (field_words naming fs ++ others) (field_number ms name) (word_of naming v)
          ∙ ap (λ ws. word_of naming f.value ∷ ws) (rest is)

  -- a new object has all words 0
  pub zero_words : (ms : List BareBinding) → field_words naming (zero_fields ms) ≡ replicate (length ms) 0
  zero_words [] = refl
  zero_words (m ∷ ms) = ap (λ w. w ∷ field_words naming (zero_fields ms)) (zero_word naming m.declared) ∙ ap (λ ws. 0 ∷ ws) (zero_words ms)

-- ---- fields in range

abbrev pub InRangeField : Variable → Type 0
InRangeField f = Ranged f.value

pub zeros_ranged : (ms : List BareBinding) → FieldsRanged (zero_fields ms)
zeros_ranged [] = All-nil InRangeField
zeros_ranged (m ∷ ms) =
    All-cons InRangeField (record { name = m.name; value = zero_of m.declared }) (zero_fields ms) (zero_ranged m.declared) (zeros_ranged ms)

pub read_ranged : (fs : List Variable) (name : Bytes) → FieldsRanged fs → Ranged (unwrap_or (in_scope fs name) (int_of 0))
read_ranged [] name h = (omega arith, omega arith)
read_ranged (f ∷ fs) name h =
    by (bytes_eq name f.name) (All-head InRangeField f fs h) (read_ranged fs name (All-tail InRangeField f fs h))
  where
    by : (b : Bool) → Ranged f.value → Ranged (unwrap_or (in_scope fs name) (int_of 0))
        → Ranged (unwrap_or (option_map (λ v. v.value) (cond b (Some f) (find (λ v. bytes_eq name v.name) fs))) (int_of 0))
    by true own rest = own
    by false own rest = rest

pub write_ranged : (fs : List Variable) (name : Bytes) (v : Value) → Ranged v → FieldsRanged fs → FieldsRanged (with_value name v fs)
write_ranged [] name v new h = h
write_ranged (f ∷ fs) name v new h = by (bytes_eq name f.name) (write_ranged fs name v new (All-tail InRangeField f fs h))
  where
    by : (b : Bool) → FieldsRanged (with_value name v fs)
        → FieldsRanged (if b then record f { value = v } ∷ fs else f ∷ with_value name v fs)
    by true rest = All-cons InRangeField (record f { value = v }) fs new (All-tail InRangeField f fs h)
    by false rest = All-cons InRangeField f (with_value name v fs) (All-head InRangeField f fs h) rest
