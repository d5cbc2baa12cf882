-- A legal journal with the texts of its run and what was answered to its offers.
use Rattle.std.specs.Prelude.{◌≡◌, ℕ, List, ◌∷◌, map, Some}
use Rattle.c_tree.specs.BareExpr.{Bytes}
use Rattle.c_tree.specs.declared.def.Program.{Program}
use Rattle.c_semantics.specs.SourceTexts.{text_of}
use Rattle.run_types.specs.declared.run.Event.{Event}
use Rattle.source_model.specs.declared.answer.OfferAnswer.{OfferAnswer}
use Rattle.source_model.specs.Answers.{answer_seen}
use Rattle.source_model.specs.Guards.{Guard, Rules, Setup}
use Rattle.source_model.specs.Journals.{answers, guard_after}

-- the events are legal for a setup and come to a guard; the texts are the setup's, and what was given is the guard's answers
pub record IsJournal (setup : Setup) (g : Guard) (texts : List Program) (objects : ℕ) (events : List Event) (given : List OfferAnswer) : Type 0 where
  pub texts_are : map text_of texts ≡ setup.first ∷ map (λ o. o.text) setup.offers
  pub limits_are : setup.limits ≡ record { objects = objects; slots = 16 }
  pub rules : Rules
  pub legal : guard_after rules setup events ≡ Some g
  -- the texts for which the ids in the answers stand
  pub names : List Bytes
  pub answered : map (answer_seen names) given ≡ answers setup g
