-- What an install of a text needs.
use Rattle.std.specs.Prelude.{◌≡◌, suc, false, List, [], ◌∷◌, ◌++◌, map, All}
use Rattle.c_tree.specs.BareExpr.{Bytes}
use Rattle.c_tree.specs.Bare.{bare_def}
use Rattle.c_tree.specs.declared.def.Program.{Program}
use Rattle.c_semantics.specs.Changes.{changed, interface}
use Rattle.c_semantics.specs.SourceTexts.{Text, text_of}
use Rattle.c_semantics.specs.Store.{brought_bodies, store}
use Rattle.source_model.specs.Patches.{all_names, last_definitions}
use Rattle.brought_bodies.specs.Sets.{IsSetOf}
use Rattle.code_store.specs.Limits.{are_too_many}
use Rattle.code_store.specs.Stored.{meant_body, IsNewTo, IsStoreOf}
use Rattle.type_transformers.specs.Changes.{changing, name_of, IsChange}
use Rattle.patch_build.specs.declared.patch.Patch.{Patch}
use Rattle.patch_build.specs.declared.patch.Versions.{Versions}
use Rattle.patch_build.specs.Versions.{IsTableOf, Extends}

-- what installing a text after the versions of some texts needs
pub record IsPatchFor (texts : List Text) (versions : Versions) (next : Program) (patch : Patch) : Type 0 where
  -- the names, those so far with their ids
  pub names : IsTableOf (all_names (texts ++ text_of next ∷ [])) patch.names
  pub ids : Extends versions.names.now patch.names
  -- the names that change, and those whose interface changes
  pub changed : IsSetOf patch.names patch.changed (changed (last_definitions texts) (text_of next).definitions)
  pub interface : IsSetOf patch.names patch.interface (interface (last_definitions texts) (text_of next).definitions)
  -- the bodies that the text brings, which can be added to the store
  pub bodies : map (meant_body patch.names) patch.bodies.items
      ≡ brought_bodies (suc versions.count) (last_definitions texts) (text_of next)
  pub new : All (λ body. IsNewTo versions.store.now body.function body.generation) patch.bodies.items
  pub room : (names : List Bytes) → are_too_many
      (map (meant_body names) versions.store.now ++ map (meant_body names) patch.bodies.items) ≡ false
  pub store : IsStoreOf patch.names (store (texts ++ text_of next ∷ [])) (versions.store.now ++ patch.bodies.items)
  -- how old data becomes new
  pub changing : map name_of patch.transforms.items ≡ changing (map bare_def versions.last.now.definitions) (map bare_def next.definitions)
  pub transforms : All (IsChange (map bare_def versions.last.now.definitions) (map bare_def next.definitions)) patch.transforms.items
