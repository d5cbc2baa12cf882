-- A preparation before it has done its work, after it, and where it fits.
use Rattle.std.proofs.Common.{Bor, ◌≡◌, ℕ, List, Option, Some, None, IfSome, map, slice_get, refl, sym, ap, subst, ◌∙◌}
use Rattle.std.specs.Prelude.{option_copied}
use Rattle.std.specs.Arc.{arc_value}
use Rattle.std.specs.Option.{ForSome}
use Rattle.std.proofs.lemmas.Option.{same_Some, none-some}
use Rattle.c_tree.specs.declared.def.Program.{Program}
use Rattle.rows_in_force.specs.StoreRows.{AreRowsOver}
use Rattle.patch_build.specs.declared.patch.Versions.{Versions}
use Rattle.installed_versions.specs.declared.installed.Installed.{Installed}
use Rattle.offer_decision.specs.declared.prepared.Prepared.{Prepared}
use Rattle.offer_decision.specs.Prepared.{IsPrepared}
use Rattle.version_copies.specs.SameBodies.{content_of, HaveSameBodies}
use Rattle.offer_preparations.specs.declared.preparation.Preparation.{Preparation}
use Rattle.offer_preparations.specs.Fitting.{Fits}
use Rattle.offer_preparations.specs.Preparations.{IsMade, IsPreparation, IsPreparedOn, trees_of}
use Rattle.offer_preparations.proofs.Carried.{prepared_carried, rows_carried}

pub if_some : {T : Type 0} (o : Option T) (P : T → Type 0) → ForSome o P → IfSome o P
if_some None P h = tt
if_some (Some x) P h = h x refl

pub for_some : {T : Type 0} (o : Option T) (P : T → Type 0) → IfSome o P → ForSome o P
for_some None P h x e = absurd (none-some x e)
for_some (Some y) P h x e = subst P (same_Some y x e) h

-- where nothing is made yet
pub begun : (installed : Installed) (p : Preparation) → HaveSameBodies installed.store p.store → p.made ≡ None
    → IfSome p.rows (λ rows. AreRowsOver installed.store (arc_value rows)) → IsPreparation p
begun installed p same none rows = record {
  rows = λ own e.
      rows_carried installed.store p.store (arc_value own) same
      (for_some p.rows (λ rows. AreRowsOver installed.store (arc_value rows)) rows own e);
  made = λ prepared e. absurd (none-some prepared (sym none ∙ e));
}

-- a text that was found
pub found : (o : Option (Bor Program)) (t : Bor Program) (trees : List Program) (n : ℕ) → option_copied o ≡ slice_get trees n
    → o ≡ Some t → slice_get trees n ≡ Some t.now
found o t trees n e is = sym e ∙ ap option_copied is

-- what is prepared on its own copies
pub made_is : (p : Preparation) (versions : Versions) (next : Program) (prepared : Prepared) → versions.count ≡ p.count
    → versions.names.now ≡ p.names → versions.store.now ≡ p.store
    → slice_get (trees_of p) p.last ≡ Some versions.last.now → slice_get (trees_of p) p.k ≡ Some next
    → IsPrepared versions next prepared → IsMade p prepared
made_is p versions next prepared count names store last text is = record {
  versions = versions;
  next = next;
  of = record { count_is = count; names_are = names; bodies_are = ap (map content_of) (sym store); last_at = last; next_at = text };
  is = is;
}

-- what was made, where it fits
pub fitting_made : (p : Preparation) (k last : ℕ) (installed : Installed) (prepared : Prepared) → Fits p k last installed
    → p.made ≡ Some prepared → IsPreparation p → IsPreparedOn (trees_of p) k last installed prepared
fitting_made p k last installed prepared fits made is =
    let own : IsMade p prepared = is.made prepared made in
    let was = own.versions in
    let now : Versions = record was {
      names = record was.names { now = installed.names };
      store = record was.store { now = installed.store };
    } in
    record {
      versions = now;
      next = own.next;
      seen = record { count_is = own.of.count_is ∙ fits.count; names_are = refl; bodies_are = refl };
      last_at = ap (slice_get (trees_of p)) (sym fits.text) ∙ own.of.last_at;
      next_at = ap (slice_get (trees_of p)) (sym fits.offer) ∙ own.of.next_at;
      is = prepared_carried was now own.next prepared
          (record {
            count = refl;
            names = own.of.names_are ∙ fits.names;
            bodies = sym own.of.bodies_are ∙ fits.bodies;
            last = refl;
          })
          own.is;
    }
