-- Objects whose words have the layout of an older text, and what brings them to that of the text in force. An install leaves all objects
-- as they are; a stop that uses a field brings the object that it uses.
use Rattle.std.specs.Prelude.{◌≡◌, ℕ, zero, suc, ◌+◌, ◌-◌, true, List, ◌∷◌, ◌++◌, map, length, All, Option, Some, None}
use Rattle.std.specs.FinMap.{get}
use Rattle.c_tree.specs.BareExpr.{Bytes}
use Rattle.c_tree.specs.BareDef.{BareDef}
use Rattle.c_semantics.specs.Names.{struct_name}
use Rattle.c_semantics.specs.Texts.{definition, members_of}
use Rattle.c_semantics.specs.Pieces.{Variable}
use Rattle.c_semantics.specs.Stops.{Stop, ReadField, WriteField}
use Rattle.source_model.specs.Installs.{brought}
use Rattle.version_laws.specs.Histories.{last_text, text_in}
use Rattle.typed_trees.specs.ValueTypes.{ScopeHas}
use Rattle.typed_trees.specs.ExpressionTypes.{IsStruct}
use Rattle.bytecode.specs.Words.{Naming, Distinguishes, word_of}
use Rattle.tree_code.specs.Ranges.{Ranged}
use Rattle.object_store.specs.declared.object.Object.{Object}
use Rattle.object_store.specs.Stores.{with_object}
use Rattle.code_runs.specs.CodeData.{Data, Names, number_of}
use Rattle.code_runs.specs.SharedStops.{with_objects}

-- ---- fields as words

-- the words of the fields of an object, in order
abbrev pub field_words : Naming → List Variable → List ℕ
field_words naming fields = map (λ f. word_of naming f.value) fields

abbrev pub FieldsRanged : List Variable → Type 0
FieldsRanged fields = All (λ f. Ranged f.value) fields

-- words begin with those of some fields, in order
abbrev pub BeginWith : Naming → List Variable → List ℕ → Type 0
BeginWith naming fields words = (others : List ℕ) × (words ≡ field_words naming fields ++ others)

-- ---- fields over versions

-- the text with a number, counted from 0
abbrev pub text_at : List (List BareDef) → ℕ → List BareDef
text_at texts n = text_in texts (suc n)

-- what the fields of an object become where text q follows text p
abbrev pub brought_once : List BareDef → List BareDef → Bytes → List Variable → List Variable
brought_once p q tag fields = (brought p q (record { tag = tag; fields = fields; live = true })).fields

-- and where n texts follow the one with a number, one after the other
abbrev pub brought_fields : List (List BareDef) → (tag : Bytes) → (from n : ℕ) → List Variable → List Variable
brought_fields texts tag from zero fields = fields
brought_fields texts tag from (suc n) fields =
    brought_once (text_at texts (from + n)) (text_at texts (suc (from + n))) tag (brought_fields texts tag from n fields)

-- what they are by the last text
abbrev pub newest_fields : List (List BareDef) → (tag : Bytes) → (from : ℕ) → List Variable → List Variable
newest_fields texts tag from = brought_fields texts tag from (length texts - suc from)

-- fields are those of the struct with a tag in a text, which defines it. The list has the struct tags of all objects, by number
abbrev pub AreFieldsIn : List BareDef → (tags : List Bytes) → (tag : Bytes) → List Variable → Type 0
AreFieldsIn text tags tag fields =
    let d = definition text (struct_name tag) in IsStruct d × ScopeHas tags (members_of d) fields

-- an object of the struct with a tag is brought to the last text, where that defines the struct: whatever fields its words stand for,
-- by a naming that tells objects apart, its new words stand for what these fields are by the last text
pub record Brings (texts : List (List BareDef)) (tag : Bytes) (old new : Object) : Type 0 where
  pub tag_stays : new.tag ≡ old.tag
  pub layout : suc new.layout ≡ length texts
  pub words : (naming : Naming) (tags : List Bytes) (fields : List Variable) → Distinguishes (length tags) naming
      → IsStruct (definition (last_text texts) (struct_name tag)) → AreFieldsIn (text_at texts old.layout) tags tag fields → FieldsRanged fields
      → BeginWith naming fields old.fields → BeginWith naming (newest_fields texts tag old.layout fields) new.fields

-- ---- at a stop

-- the tag and the handle of the object whose field a stop uses, with these words on its stack
abbrev pub used_object : Stop → List ℕ → Option (Bytes × ℕ)
used_object (ReadField tag name) (h ∷ under) = Some (tag, h)
used_object (WriteField tag name) (w ∷ h ∷ under) = Some (tag, h)
used_object _ stack = None

-- the tag of the struct whose field a stop reads or writes
abbrev pub field_tag : Stop → Option Bytes
field_tag (ReadField tag name) = Some tag
field_tag (WriteField tag name) = Some tag
field_tag _ = None

-- what is shared once the object that a stop uses has the layout of the text in force
pub data Freshens (texts : List (List BareDef)) (names : Names) (s : Stop) (stack : List ℕ) (d : Data) : Data → Type 0 where
  -- there is one layout, since no text was installed
  one_text : length texts ≡ 1 → Freshens texts names s stack d d
  -- it uses no field
  uses_none : used_object s stack ≡ None → Freshens texts names s stack d d
  -- its handle is null, or that of an object that was ended
  null : (tag : Bytes) → used_object s stack ≡ Some (tag, 0) → Freshens texts names s stack d d
  none_lives : (tag : Bytes) (h : ℕ) → used_object s stack ≡ Some (tag, h) → get d.objects.live h ≡ None → Freshens texts names s stack d d
  -- the object has it already
  newest : (tag : Bytes) (h : ℕ) (own : Object) → used_object s stack ≡ Some (tag, h) → get d.objects.live h ≡ Some own
      → own.layout ≡ d.version → Freshens texts names s stack d d
  -- the object, which is one of the struct, is brought to it
  brings : (tag : Bytes) (h : ℕ) (old new : Object) → used_object s stack ≡ Some (tag, h) → get d.objects.live h ≡ Some old
      → (old.tag ≡ number_of names.tags tag → Brings texts tag old new)
      → Freshens texts names s stack d (with_objects d (with_object d.objects h new))
