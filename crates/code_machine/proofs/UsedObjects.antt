-- A thread that may move in a run uses objects well.
use Rattle.std.proofs.Common.{◌≡◌, ℕ, List, length, Some, None, refl, ap}
use Rattle.std.specs.Prelude.{option_map, slice_get}
use Rattle.c_tree.specs.BareDef.{BareDef}
use Rattle.code_image.specs.declared.act.StopPlace.{StopPlace}
use Rattle.code_image.specs.declared.image.CodeImage.{CodeImage}
use Rattle.code_machine.specs.declared.running.Running.{Running}
use Rattle.code_machine.specs.declared.state.RunState.{RunState}
use Rattle.code_machine.specs.Seen.{finish_of}
use Rattle.code_machine.specs.Stops.{RestsAt, resting}
use Rattle.code_machine.specs.Versions.{IsReady, UsesObjectsWell}
use Rattle.code_machine.proofs.Going.{runs_there}
use Rattle.code_machine.proofs.Worlds.{lives_so}

pub uses_well : (all : List (List BareDef)) (image : CodeImage) (run : RunState) (slot : ℕ) (r : Running) (x : StopPlace) → IsReady all image run slot
    → slice_get run.slots.items slot ≡ Some r → RestsAt image.functions.items (length image.callees.items) r x → run.finish ≡ None
    → UsesObjectsWell all run.versions.items run.layouts image r run.shared
uses_well all image run slot r x ready there rests going = record {
  layouts_of = record { stand = ready.run_is.stand; version = ready.run_is.version; known = ready.well.known; tags = ready.well.tags };
  fields = λ f below frames.
      ready.well.fields (resting r f below) f (ap (option_map finish_of) going)
      (lives_so all run.versions.items image run slot x r f below (runs_there all image run slot r ready.run_is there) there rests going frames) refl;
}
