-- Runs whose texts are accepted.
use Rattle.std.specs.Prelude.{◌≡◌, ℕ, false, List, Some}
use Rattle.run_types.specs.declared.run.Event.{Event}
use Rattle.effects.specs.Rows.{AreRows}
use Rattle.source_model.specs.Guards.{Guard, Offer, Rules, Setup, offer_at}
use Rattle.source_model.specs.Journals.{guard_after}
use Rattle.source_model.specs.Runs.{result}
use Rattle.frame_bodies.specs.AcceptedTexts.{IsAccepted}
use Rattle.admission_laws.specs.SoundTexts.{AllSound}
use Rattle.admission_laws.specs.AdmissionLaws.{IsVersionConsistent}

-- the texts that a run is given are accepted: the first, and that of each offer
pub record TextsAreAccepted (setup : Setup) : Type 0 where
  pub first : IsAccepted setup.first
  pub offered : (k : ℕ) (o : Offer) → offer_at setup k ≡ Some o → IsAccepted o.text

-- then all texts that the run can come to are sound
abbrev pub AcceptedRunsAreSound : Type 0
AcceptedRunsAreSound = (setup : Setup) → TextsAreAccepted setup → AllSound setup

-- and no move misuses a definition, for each guard that a legal journal comes to
abbrev pub NoRunMisuses : Type 0
NoRunMisuses =
    (rules : Rules) (setup : Setup) (events : List Event) (g : Guard)
    → AreRows rules.row → TextsAreAccepted setup → guard_after rules setup events ≡ Some g → g.world.misused ≡ false

-- and the definitions of each transaction share a version, of those that ended and of those in progress
abbrev pub TransactionsShareAVersion : Type 0
TransactionsShareAVersion =
    (rules : Rules) (setup : Setup) (events : List Event) (g : Guard)
    → AreRows rules.row → TextsAreAccepted setup → guard_after rules setup events ≡ Some g → IsVersionConsistent (result g.world)
