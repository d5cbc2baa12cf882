-- Code stands for the worlds of legal journals of accepted texts, and for the world after an install: of a text that follows the last
-- one well, of one that is a patch for a journal's versions, and of one that the journal installs.
use Rattle.std.specs.Prelude.{◌≡◌, ℕ, List, [], ◌∷◌, ◌++◌, All, Some, None}
use Rattle.run_types.specs.declared.run.Event.{Event}
use Rattle.run_types.specs.declared.run.Event.TheVariants.{Decide}
use Rattle.c_semantics.specs.SourceTexts.{Text}
use Rattle.source_model.specs.Answers.{Installed}
use Rattle.source_model.specs.Guards.{Guard, Offer, Rules, Setup, bodies_of, offer_at}
use Rattle.source_model.specs.Installs.{installed}
use Rattle.source_model.specs.Journals.{guard_after, happens}
use Rattle.source_model.specs.Patches.{not_patch}
use Rattle.source_model.specs.Worlds.{World}
use Rattle.frame_bodies.specs.AcceptedTexts.{IsAccepted, definitions_of}
use Rattle.typed_transformers.specs.TransformerTypes.{Follows}
use Rattle.accepted_runs.specs.AcceptedRuns.{TextsAreAccepted}
use Rattle.code_runs.specs.CodeData.{Names}
use Rattle.code_runs.specs.CodeInstalls.{Installs}
use Rattle.code_runs.specs.CodeThreads.{CodeWorld}
use Rattle.code_run_laws.specs.MoveLaws.{IsCoded, Stands}
use Rattle.code_run_laws.specs.WorldMatches.{Numbers, WorldMatches}

-- the functions of an accepted text have code
abbrev pub AcceptedTextsAreCoded : Type 0
AcceptedTextsAreCoded = (text : Text) → IsAccepted text → IsCoded text.definitions

-- where the names of a legal journal's versions are numbered, code that matches the world stands for it: all else that this asks holds
-- in each world that a legal journal comes to
abbrev pub JournalsStand : Type 0
JournalsStand =
    (rules : Rules) (setup : Setup) (events : List Event) (g : Guard) (names : Names) (own : CodeWorld)
    → TextsAreAccepted setup → guard_after rules setup events ≡ Some g
    → All (Numbers names) (definitions_of g.versions) → WorldMatches (definitions_of g.versions) names g.world own
    → Stands g.versions names g.world own

-- an accepted text q whose transformers have no fault after the last text, and whose names are numbered, is installed
abbrev pub InstallsStand : Type 0
InstallsStand =
    (texts : List Text) (p q : Text) (names : Names) (w : World) (own new : CodeWorld)
    → Follows p q → Numbers names q.definitions
    → Stands (texts ++ p ∷ []) names w own → Installs (definitions_of (texts ++ p ∷ [])) names q.definitions own new
    → Stands ((texts ++ p ∷ []) ++ q ∷ []) names (installed q.definitions w) new

-- a text that is a patch for the versions that a legal journal came to has no such fault
abbrev pub PatchesStand : Type 0
PatchesStand =
    (rules : Rules) (setup : Setup) (events : List Event) (g : Guard) (q : Text) (names : Names) (own new : CodeWorld)
    → TextsAreAccepted setup → guard_after rules setup events ≡ Some g
    → IsAccepted q → not_patch (bodies_of g) g.versions q ≡ None → Numbers names q.definitions
    → Stands g.versions names g.world own → Installs (definitions_of g.versions) names q.definitions own new
    → Stands (g.versions ++ q ∷ []) names (installed q.definitions g.world) new

-- the next event of a legal journal installs the text of offer k
pub record InstallsNext (rules : Rules) (setup : Setup) (k : ℕ) (o : Offer) (g after : Guard) : Type 0 where
  pub version : ℕ
  pub offered : offer_at setup k ≡ Some o
  pub decided : happens rules setup (Decide k) g ≡ Some after
  pub answered : after.answers ≡ g.answers ++ record { offer = k; answer = Installed version } ∷ []

abbrev pub JournalInstallsStand : Type 0
JournalInstallsStand =
    (rules : Rules) (setup : Setup) (events : List Event) (k : ℕ) (o : Offer) (g after : Guard) (names : Names) (own new : CodeWorld)
    → TextsAreAccepted setup → guard_after rules setup events ≡ Some g → InstallsNext rules setup k o g after
    → Numbers names o.text.definitions
    → Stands g.versions names g.world own → Installs (definitions_of g.versions) names o.text.definitions own new
    → Stands after.versions names after.world new
