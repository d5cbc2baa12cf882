-- What an offer needs to be prepared, and what was prepared for it, by the versions of a state.
use Rattle.std.specs.Prelude.{◌≡◌, ℕ, ◌≤◌, List, ◌++◌, ◌∷◌, [], Some, map, slice_get}
use Rattle.c_tree.specs.declared.def.Program.{Program}
use Rattle.c_semantics.specs.SourceTexts.{Text, text_of}
use Rattle.source_model.specs.Guards.{Setup}
use Rattle.patch_build.specs.declared.patch.Versions.{Versions}
use Rattle.patch_build.specs.Versions.{AreVersions}
use Rattle.installed_versions.specs.Installed.{IsInstalled, IsSeenAs}
use Rattle.offer_decision.specs.declared.prepared.Offered.{Offered}
use Rattle.offer_decision.specs.declared.prepared.Prepared.{Prepared}
use Rattle.offer_decision.specs.Prepared.{HasItsRows, IsPrepared}
use Rattle.offer_preparations.specs.declared.preparation.Preparation.{Preparation}
use Rattle.offer_preparations.specs.Preparations.{IsPreparation, trees_of}
use Rattle.plain_engine.specs.Plain.{ShownState}

-- versions are those of a state, and a text is that of an offer
pub record AreVersionsAt (s : ShownState) (k : ℕ) (versions : Versions) (next : Program) : Type 0 where
  pub last : Program
  pub last_at : slice_get s.run.trees s.last ≡ Some last
  pub next_at : slice_get s.run.trees k ≡ Some next
  pub same : IsSeenAs versions s.installed.count s.installed.names s.installed.store
  pub are : (texts before : List Text) → IsInstalled texts s.installed.count s.installed.names s.installed.store
      → texts ≡ before ++ text_of last ∷ [] → AreVersions texts versions

-- what was prepared for an offer holds of the versions of a state
pub record IsPreparedAt (s : ShownState) (k : ℕ) (prepared : Prepared) : Type 0 where
  pub versions : Versions
  pub next : Program
  pub at : AreVersionsAt s k versions next
  pub is : IsPrepared versions next prepared

-- it was prepared for no more versions than there are, and if for as many, it holds of them; so it stays in every event
pub record IsPreparedFor (s : ShownState) (k : ℕ) (prepared : Prepared) : Type 0 where
  pub early : prepared.versions ≤ s.installed.count
  pub is : prepared.versions ≡ s.installed.count → IsPreparedAt s k prepared

-- an offer can be prepared, and what is prepared of it is prepared for it
pub record CanBePrepared (s : ShownState) (k : ℕ) (offered : Offered) : Type 0 where
  pub rows : HasItsRows offered
  pub at : AreVersionsAt s k offered.versions offered.text.now
  pub fits : (prepared : Prepared) → IsPrepared offered.versions offered.text.now prepared → IsPreparedFor s k prepared

-- a preparation is one of an offer in a run of a setup: it shares the texts of the setup
pub record IsPreparationIn (setup : Setup) (p : Preparation) : Type 0 where
  pub is : IsPreparation p
  pub texts : map text_of (trees_of p) ≡ setup.first ∷ map (λ o. o.text) setup.offers
