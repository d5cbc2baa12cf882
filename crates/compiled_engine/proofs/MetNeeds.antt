-- The needs of a run by code hold wherever a legal journal of accepted texts comes to.
use Rattle.source_model.specs.Guards.{Setup}
use Rattle.code_install_laws.proofs.JournalWorlds.{is_world_of, versions_accepted}
use Rattle.accepted_runs.specs.AcceptedRuns.{NoRunMisuses, TextsAreAccepted}
use Rattle.typed_journals.specs.TypedJournals.{JournalsAreTyped, ThreadsOfJournalsGoOn}
use Rattle.plain_engine.specs.Needs.{MeetsNeeds}
use Rattle.compiled_run.specs.Needs.{NeedsOf}

-- the versions are accepted, the world is one of them and typed by them, its threads go on, and no definition was misused
pub accepted_runs_meet_needs : JournalsAreTyped → ThreadsOfJournalsGoOn → NoRunMisuses → (setup : Setup) → TextsAreAccepted setup
    → MeetsNeeds NeedsOf setup
accepted_runs_meet_needs typed go_on well setup accepted rules events g moves rows legal ran versions = record {
  versions = g.versions;
  accepted = versions_accepted rules setup events g accepted legal;
  are = versions;
  world = g.world;
  ran = ran;
  of = is_world_of rules setup events g accepted legal;
  typed = typed rules setup events g accepted legal;
  used_well = well rules setup events g rows accepted legal;
  goes_on = λ going t th there. go_on rules setup events g t th accepted legal going there;
}
