-- When words stand for what the threads of a world share.
use Rattle.std.specs.Prelude.{◌≡◌, ℕ, suc, ◌<◌, Bool, true, false, List, [], ◌∷◌, ◌++◌, map, length, Contains, Option, Some, None}
use Rattle.c_tree.specs.BareExpr.{Bytes}
use Rattle.c_tree.specs.BareDef.{BareDef}
use Rattle.c_semantics.specs.Texts.{definition}
use Rattle.c_semantics.specs.Pieces.{Variable}
use Rattle.source_model.specs.Worlds.{World, cells_of}
use Rattle.source_model.specs.Worlds as world
use Rattle.typed_transformers.specs.TransformerTypes.{HasCells}
use Rattle.typed_runs.specs.TypedWorlds.{tags_of}
use Rattle.bytecode.specs.Words.{Naming, word_of}
use Rattle.tree_code.specs.Ranges.{AllRanged}
use Rattle.object_store.specs.declared.object.Object.{Object}
use Rattle.object_store.specs.Naming.{Objects, IsNamed}
use Rattle.program_locks.specs.Locking.{holder_of}
use Rattle.code_runs.specs.CodeData.{Data, Names, number_of, row}
use Rattle.code_runs.specs.Layouts.{AreFieldsIn, FieldsRanged, field_words, newest_fields, text_at}

-- words begin with those of some fields, in order
pub record FieldsMatch (naming : Naming) (fields : List Variable) (words : List ℕ) : Type 0 where
  pub others : List ℕ
  pub are : words ≡ field_words naming fields ++ others
  pub ranged : FieldsRanged fields

-- an object that lives has the words of fields by the text of its layout, which defines its struct; its fields in the world are what
-- these are by the last text. No object has more fields than words, and the list has the struct tags of all objects, by number
pub record LivesAs (names : Names) (texts : List (List BareDef)) (tags : List Bytes) (naming : Naming) (o : world.Object) (own : Object)
    : Type 0 where
  pub tag : own.tag ≡ number_of names.tags o.tag
  pub known : own.layout < length texts
  pub old : List Variable
  pub fits : AreFieldsIn (text_at texts own.layout) tags o.tag old
  pub words : FieldsMatch naming old own.fields
  pub brought : o.fields ≡ newest_fields texts o.tag own.layout old

-- one that was ended isn't kept
abbrev pub ObjectMatches : Names → List (List BareDef) → List Bytes → Naming → Bool → world.Object → Option Object → Type 0
ObjectMatches names texts tags naming true o (Some own) = LivesAs names texts tags naming o own
ObjectMatches names texts tags naming false o None = Unit {0}
ObjectMatches names texts tags naming _ o own = ⊥

-- objects by number
abbrev pub ObjectsMatch : Names → List (List BareDef) → List Bytes → Naming → List world.Object → Objects → Type 0
ObjectsMatch names texts tags naming [] [] = Unit {0}
ObjectsMatch names texts tags naming (o ∷ os) (own ∷ owns) =
    ObjectMatches names texts tags naming o.live o own × ObjectsMatch names texts tags naming os owns
ObjectsMatch names texts tags naming _ _ = ⊥

-- what is shared stands for what a world has after the versions of some texts: the globals and arrays of its text, its objects, and the
-- mutexes that have a number
pub record DataMatches (texts : List (List BareDef)) (names : Names) (naming : Naming) (objects : Objects) (w : World) (d : Data) : Type 0
  where
    pub rows : length d.cells ≡ length names.cells
    pub cells : (name : Bytes) → HasCells (definition w.text name) → row d (number_of names.cells name) ≡ map (word_of naming) (cells_of w name)
    pub ranged : (name : Bytes) → HasCells (definition w.text name) → AllRanged (cells_of w name)
    pub named : IsNamed naming.object objects d.objects
    pub objects_match : ObjectsMatch names texts (tags_of w.objects) naming w.objects objects
    pub capacity : d.objects.capacity ≡ w.capacity
    pub mutexes : length d.holders ≡ length names.mutexes
    pub holders : (name : Bytes) → Contains names.mutexes name → holder_of d.holders (number_of names.mutexes name) ≡ world.holder_of w name
    pub version : suc d.version ≡ length texts
