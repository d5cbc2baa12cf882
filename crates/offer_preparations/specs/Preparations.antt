-- What holds of a preparation, and of what it made.
use Rattle.std.specs.Prelude.{◌≡◌, ℕ, List, Some, slice_get}
use Rattle.std.specs.Arc.{arc_value}
use Rattle.std.specs.Option.{ForSome}
use Rattle.c_tree.specs.declared.def.Program.{Program}
use Rattle.rows_in_force.specs.StoreRows.{AreRowsOver}
use Rattle.patch_build.specs.declared.patch.Versions.{Versions}
use Rattle.installed_versions.specs.declared.installed.Installed.{Installed}
use Rattle.installed_versions.specs.Installed.{IsSeenAs}
use Rattle.offer_decision.specs.declared.prepared.Prepared.{Prepared}
use Rattle.offer_decision.specs.Prepared.{IsPrepared}
use Rattle.version_copies.specs.SameBodies.{HaveSameBodies}
use Rattle.offer_preparations.specs.declared.preparation.Preparation.{Preparation}

-- the texts of the run
abbrev pub trees_of : Preparation → List Program
trees_of p = (arc_value p.texts).items

-- the rows that it has are those over its bodies
abbrev pub HasOwnRows : Preparation → Type 0
HasOwnRows p = ForSome p.rows (λ rows. AreRowsOver p.store (arc_value rows))

-- versions are the same as those of which it has copies, and a text is that of its offer
pub record IsOf (versions : Versions) (next : Program) (p : Preparation) : Type 0 where
  pub count_is : versions.count ≡ p.count
  pub names_are : versions.names.now ≡ p.names
  pub bodies_are : HaveSameBodies p.store versions.store.now
  pub last_at : slice_get (trees_of p) p.last ≡ Some versions.last.now
  pub next_at : slice_get (trees_of p) p.k ≡ Some next

-- what was prepared holds of such versions
pub record IsMade (p : Preparation) (prepared : Prepared) : Type 0 where
  pub versions : Versions
  pub next : Program
  pub of : IsOf versions next p
  pub is : IsPrepared versions next prepared

-- what holds of a preparation before and after it has done its work
pub record IsPreparation (p : Preparation) : Type 0 where
  pub rows : HasOwnRows p
  pub made : ForSome p.made (IsMade p)

-- what was prepared holds of versions, the last of which has the text with one number, and of the offer with another
pub record IsPreparedOn (trees : List Program) (k last : ℕ) (installed : Installed) (prepared : Prepared) : Type 0 where
  pub versions : Versions
  pub next : Program
  pub seen : IsSeenAs versions installed.count installed.names installed.store
  pub last_at : slice_get trees last ≡ Some versions.last.now
  pub next_at : slice_get trees k ≡ Some next
  pub is : IsPrepared versions next prepared
