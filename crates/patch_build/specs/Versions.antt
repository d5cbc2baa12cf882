-- The versions so far, and what is said of the texts that they are texts of.
use Rattle.std.specs.Prelude.{◌≡◌, ◌↔◌, List, [], ◌∷◌, ◌++◌, length, Contains}
use Rattle.name_sets.specs.Texts.{IsTable}
use Rattle.c_tree.specs.BareExpr.{Bytes}
use Rattle.c_semantics.specs.SourceTexts.{Text, text_of}
use Rattle.c_semantics.specs.Store.{store}
use Rattle.source_model.specs.Patches.{all_names}
use Rattle.code_store.specs.Stored.{IsStoreOf}
use Rattle.patch_build.specs.declared.patch.Versions.{Versions}

-- a table has exactly some names
pub record IsTableOf (list table : List Bytes) : Type 0 where
  pub table_is : IsTable table
  pub members : (name : Bytes) → Contains table name ↔ Contains list name

-- the versions are those of some texts, the first of all first
pub record AreVersions (texts : List Text) (versions : Versions) : Type 0 where
  pub before : List Text
  pub last_is : texts ≡ before ++ text_of versions.last.now ∷ []
  pub count_is : length texts ≡ versions.count
  pub names_are : IsTableOf (all_names texts) versions.names.now
  pub store_is : IsStoreOf versions.names.now (store texts) versions.store.now

-- a fact of the texts of the versions, whichever texts these are
abbrev pub ForVersions : Versions → (List Text → Type 0) → Type 0
ForVersions versions fact = (texts : List Text) → AreVersions texts versions → fact texts

-- a table has the texts of an older one in the same places
pub record Extends (old new : List Bytes) : Type 0 where
  pub more : List Bytes
  pub is : new ≡ old ++ more
