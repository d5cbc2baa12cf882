use Rattle.tree_code.proofs.AfterStops.{code_goes_on_after_stops}
use Rattle.tree_code.proofs.LocalEvaluation.{code_does_local_evaluation, entered_frames_match}
use Rattle.typed_runs.proofs.AcceptedWorlds.{first_world_typed}
use Rattle.code_run_laws.proofs.InstallsAlike.{installs_alike_by}
use Rattle.code_run_laws.proofs.LawsOfMoves.{code_moves_alike, code_waits_alike}
use Rattle.code_run_laws.proofs.SharedStops.{shared_stops_alike}
use Rattle.code_run_laws.proofs.StartsAlike.{starts_alike_by}
use Rattle.code_run_laws.proofs.StaysAlike.{stays_alike_by}
use Rattle.object_store.proofs.NamedObjects.{handles_are_apart}
use Rattle.store_laws.specs.HandleLaws.{HandlesDistinguish}
use Rattle.code_run_laws.proofs.laws.code_moves_as_the_source_machine.Goals as goal

handles_distinguish : HandlesDistinguish
handles_distinguish n objects s named threads =
    let told = handles_are_apart n.object objects s named in
    record { apart = told.0; no_null = told.1; no_none = threads }

pub returns-clause-moves : goal.returns-clause-moves
returns-clause-moves c =
    code_moves_alike
    (record {
      local = code_does_local_evaluation;
      resumed = code_goes_on_after_stops;
      entered = entered_frames_match;
      apart = handles_distinguish;
    })
    shared_stops_alike

pub returns-clause-waits : goal.returns-clause-waits
returns-clause-waits c = code_waits_alike code_goes_on_after_stops

pub returns-clause-stays : goal.returns-clause-stays
returns-clause-stays c = stays_alike_by code_goes_on_after_stops

pub returns-clause-installs : goal.returns-clause-installs
returns-clause-installs c = installs_alike_by handles_distinguish

pub returns-clause-starts : goal.returns-clause-starts
returns-clause-starts c = starts_alike_by first_world_typed
