-- What is said of an offer before the threads are looked at.
use Rattle.std.specs.Prelude.{◌≡◌, List, Some, None, option_copied}
use Rattle.std.specs.Arc.{arc_value}
use Rattle.std.specs.Option.{ForSome}
use Rattle.c_tree.specs.declared.def.Program.{Program}
use Rattle.c_semantics.specs.SourceTexts.{Text, text_of}
use Rattle.c_semantics.specs.Store.{store}
use Rattle.source_model.specs.Patches.{not_patch}
use Rattle.rows_in_force.specs.StoreRows.{AreRowsOver}
use Rattle.patch_build.specs.declared.patch.Versions.{Versions}
use Rattle.patch_build.specs.Versions.{ForVersions}
use Rattle.offer_decision.specs.declared.prepared.Found.{Found}
use Rattle.offer_decision.specs.declared.prepared.Found.TheVariants.{Patch, NotPatch}
use Rattle.offer_decision.specs.declared.prepared.Offered.{Offered}
use Rattle.offer_decision.specs.declared.prepared.Prepared.{Prepared}
use Rattle.offer_decision.specs.Patches.{IsPatchFor}

-- the rows that an offer comes with are those over the bodies of its versions
abbrev pub HasItsRows : Offered → Type 0
HasItsRows offered = ForSome (option_copied offered.rows) (λ rows. AreRowsOver offered.versions.store.now (arc_value rows))

-- what was found of a text after the versions of some texts
abbrev pub IsFound : List Text → Versions → Program → Found → Type 0
IsFound texts versions next (NotPatch cause) = not_patch (store texts) texts (text_of next) ≡ Some cause
IsFound texts versions next (Patch patch rows) =
    (not_patch (store texts) texts (text_of next) ≡ None)
    × IsPatchFor texts versions next patch
    × AreRowsOver versions.store.now (arc_value rows)

-- what was prepared for a text holds of the versions, whichever texts they are texts of
pub record IsPrepared (versions : Versions) (next : Program) (prepared : Prepared) : Type 0 where
  pub count : prepared.versions ≡ versions.count
  pub found : ForVersions versions (λ texts. IsFound texts versions next prepared.found)
