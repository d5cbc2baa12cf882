-- The world that a legal journal of accepted texts comes to is one of its versions, and typed by them.
use Rattle.std.proofs.Common.{◌≡◌, List, [], Some, ap, subst, ◌∙◌}
use Rattle.std.proofs.lemmas.List.Elements.{All-cons, All-nil, All-push}
use Rattle.run_types.specs.declared.run.Event.{Event}
use Rattle.source_model.specs.Guards.{Guard, Rules, Setup}
use Rattle.source_model.specs.JournalLaws.{HasMain}
use Rattle.source_model.specs.Journals.{guard_after}
use Rattle.source_model.proofs.Events.{Handles, in_each_guard}
use Rattle.version_laws.specs.Histories.{IsHistory, last_text}
use Rattle.version_laws.proofs.RunHistories.{runs_are_of}
use Rattle.world_laws.proofs.Accepted.{main_in}
use Rattle.world_laws.proofs.Runs.{worlds_hold}
use Rattle.frame_bodies.specs.AcceptedTexts.{AreAccepted, IsAccepted, definitions_of}
use Rattle.accepted_runs.specs.AcceptedRuns.{TextsAreAccepted}
use Rattle.typed_runs.specs.TypedRunLaws.{IsWorldOf}
use Rattle.typed_runs.proofs.AcceptedWorlds.{each_has}
use Rattle.typed_journals.specs.TypedJournals.{JournalsAreTyped}
use Rattle.typed_journals.proofs.Journals.{all_accepted, journal_ran, texts}
use Rattle.code_run_laws.specs.MoveLaws.{IsCoded}
use Rattle.code_install_laws.specs.InstalledTexts.{AcceptedTextsAreCoded, JournalsStand}

module _ (rules : Rules) (setup : Setup) (events : List Event) (g : Guard) (accepted : TextsAreAccepted setup)
    (legal : guard_after rules setup events ≡ Some g) where
  -- its versions are accepted texts
  pub versions_accepted : AreAccepted g.versions
  versions_accepted =
      in_each_guard rules setup (λ x. AreAccepted x.versions) (All-cons IsAccepted setup.first [] accepted.first (All-nil IsAccepted)) step events
      g legal
    where
      step : (e : Event) (x : Guard) → AreAccepted x.versions → Handles rules setup e x (λ y. AreAccepted y.versions)
      step e x h = record {
        moves = λ none t w is. h;
        checks = λ none t is. h;
        opens = λ none k above reached. h;
        ends = λ k closes a is. h;
        installs = λ k closes o names is at. All-push IsAccepted x.versions o.text h (accepted.offered k o at);
      }

  pub is_world_of : IsWorldOf g.versions g.world
  is_world_of =
      let r = journal_ran setup rules events g legal in
      let all = all_accepted setup accepted in
      let of = runs_are_of (definitions_of (texts setup)) setup.limits r.ms g.world (each_has HasMain main_in (texts setup) all) r.ran in
      let holds = worlds_hold (texts setup) setup.limits r.ms g.world all r.ran in
      record {
        history = subst (λ ts. IsHistory ts g.world.table) r.are of.history;
        last = of.last ∙ ap last_text r.are;
        holds = holds.0;
      }

pub journals_stand : AcceptedTextsAreCoded → JournalsAreTyped → JournalsStand
journals_stand coded typed rules setup events g names own accepted legal numbers matches =
    let versions = versions_accepted rules setup events g accepted legal in
    record {
      accepted = versions;
      coded = each_has IsCoded coded g.versions versions;
      numbers = numbers;
      of = is_world_of rules setup events g accepted legal;
      typed = typed rules setup events g accepted legal;
      matches = matches;
    }
