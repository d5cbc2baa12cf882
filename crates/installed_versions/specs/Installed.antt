-- Of which texts some versions are, and what an install replaced.
use Rattle.std.specs.Prelude.{◌≡◌, ℕ, suc, List, ◌++◌, length}
use Rattle.std.specs.Arc.{arc_value}
use Rattle.std.specs.Option.{ForSome}
use Rattle.c_tree.specs.BareExpr.{Bytes}
use Rattle.c_semantics.specs.SourceTexts.{Text}
use Rattle.c_semantics.specs.Store.{store}
use Rattle.source_model.specs.Patches.{all_names}
use Rattle.code_store.specs.Stored.{IsStoreOf}
use Rattle.code_store.specs.declared.body.StoredBody.{StoredBody}
use Rattle.rows_in_force.specs.StoreRows.{AreRowsOver}
use Rattle.patch_build.specs.declared.patch.Versions.{Versions}
use Rattle.patch_build.specs.Versions.{IsTableOf}
use Rattle.installed_versions.specs.declared.installed.Installed.{Installed}
use Rattle.installed_versions.specs.declared.installed.Replaced.{Replaced}

-- so many versions with these names and bodies are those of some texts, in their order
pub record IsInstalled (texts : List Text) (count : ℕ) (names : List Bytes) (bodies : List StoredBody) : Type 0 where
  pub count_is : length texts ≡ count
  pub names_are : IsTableOf (all_names texts) names
  pub store_is : IsStoreOf names (store texts) bodies

-- the rows that are kept are those over the bodies that are there
abbrev pub HasItsRows : Installed → Type 0
HasItsRows installed = ForSome installed.rows (λ rows. AreRowsOver installed.store (arc_value rows))

-- what a decision sees of versions
pub record IsSeenAs (versions : Versions) (count : ℕ) (names : List Bytes) (bodies : List StoredBody) : Type 0 where
  pub count_is : versions.count ≡ count
  pub names_are : versions.names.now ≡ names
  pub bodies_are : versions.store.now ≡ bodies

-- what an install replaced: it added bodies after those before, put other names in place of the names, and made one
-- version more; it kept no rows
pub record Replaces (before after : Installed) (replaced : Replaced) : Type 0 where
  pub more : List StoredBody
  pub bodies : after.store ≡ before.store ++ more
  pub kept : replaced.bodies ≡ length before.store
  pub names : replaced.names ≡ before.names
  pub rows : replaced.rows ≡ before.rows
  pub count : after.count ≡ suc before.count
