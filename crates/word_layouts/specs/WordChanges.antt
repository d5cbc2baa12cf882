-- Changes of words that are those of texts.
use Rattle.std.specs.Prelude.{◌≡◌, ℕ, suc, ◌+◌, ◌<◌, ◌≤◌, true, List, map, length, Contains, Option, Some, None, is_some}
use Rattle.c_tree.specs.BareExpr.{Bytes}
use Rattle.c_tree.specs.BareDef.{BareDef}
use Rattle.c_semantics.specs.Names.{struct_name}
use Rattle.c_semantics.specs.Texts.{definition}
use Rattle.c_semantics.specs.Transformers.{transformed, zero_fields}
use Rattle.source_model.specs.Worlds.{Object}
use Rattle.source_model.specs.Installs.{brought}
use Rattle.constant_values.specs.Kinds.{kind_of}
use Rattle.versioned_structs.specs.Limits.{most_fields}
use Rattle.versioned_structs.specs.Transforms.{layout_in, IsTransformOf}
use Rattle.code_runs.specs.CodeData.{number_of}
use Rattle.word_layouts.specs.declared.change.Conversion.{Conversion}
use Rattle.word_layouts.specs.declared.change.WordChange.{WordChange}
use Rattle.word_layouts.specs.declared.change.WordChange.TheVariants.{Zero, Given}
use Rattle.word_layouts.specs.declared.layouts.VersionChanges.{VersionChanges}
use Rattle.code_runs.specs.Layouts.{text_at}
use Rattle.word_layouts.specs.ChangedWords.{change_at, change_of}

-- text q gives the struct a new layout: an object of it is transformed, and had fields of these kinds
pub record IsConversion (p q : List BareDef) (tag : Bytes) (c : Conversion) : Type 0 where
  pub defined : is_some (definition p (struct_name tag)) ≡ true
  pub kinds : c.kinds.items ≡ map (λ b. kind_of b.declared) (layout_in p tag)
  pub transform : IsTransformOf p q tag c.transform
  pub changes : (o : Object) → o.tag ≡ tag → brought p q o ≡ record o { fields = transformed p q tag o.fields }

-- what becomes of each object of the struct where text q follows text p: it stays where there is no change, and a struct that is
-- added has zeros
abbrev pub IsWordChange : List BareDef → List BareDef → Bytes → Option WordChange → Type 0
IsWordChange p q tag None = (o : Object) → o.tag ≡ tag → brought p q o ≡ o
IsWordChange p q tag (Some Zero) = (o : Object) → o.tag ≡ tag → brought p q o ≡ record o { fields = zero_fields (layout_in q tag) }
IsWordChange p q tag (Some (Given c)) = IsConversion p q tag c

-- no struct of a text has more fields than an object has words
abbrev pub HasFewFields : List BareDef → Type 0
HasFewFields text = (tag : Bytes) → length (layout_in text tag) ≤ most_fields

-- changes are those of the versions of some texts, and are found by the numbers of the tags
pub record StandFor (texts : List (List BareDef)) (tags : List Bytes) (versions : List VersionChanges) : Type 0 where
  pub count : length versions + 1 ≡ length texts
  pub few : (n : ℕ) → n < length texts → HasFewFields (text_at texts n)
  pub each : (n : ℕ) (tag : Bytes) → suc n < length texts → Contains tags tag
      → IsWordChange (text_at texts n) (text_at texts (suc n)) tag (change_at versions (number_of tags tag) n)

-- changes of objects are those where text q follows text p, each found by the number of its tag
abbrev pub AreChangesOf : (p q : List BareDef) → (tags : List Bytes) → VersionChanges → Type 0
AreChangesOf p q tags v = (tag : Bytes) → Contains tags tag → IsWordChange p q tag (change_of v (number_of tags tag))
