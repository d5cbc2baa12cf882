-- Private work that is done in a step, or at another time.
use Rattle.std.specs.Prelude.{◌≡◌, ℕ, ◌+◌, ◌≤◌, false, List, Result, IfOk, IsOk, OnOk, length, vec_capacity}
use Rattle.std.specs.declared.alloc.AllocError.{AllocError}
use Rattle.c_tree.specs.BareDef.{BareDef}
use Rattle.code_image.specs.declared.image.CodeImage.{CodeImage}
use Rattle.code_image.specs.Images.{names_in}
use Rattle.code_machine.specs.declared.machine.CodeMachine.{CodeMachine}
use Rattle.code_machine.specs.declared.moves.CodeStep.{CodeStep}
use Rattle.code_machine.specs.declared.state.RunState.{RunState}
use Rattle.code_machine.specs.Enough.{HasEnough}
use Rattle.code_machine.specs.Keeping.{UsesNothing}
use Rattle.code_machine.specs.Kept.{IsKeptRun}
use Rattle.code_machine.specs.Leading.{Led, has_moved}
use Rattle.code_machine.specs.Seen.{code_world, image_of, output_of, world_of}
use Rattle.code_machine.specs.Steps.{StepsTo}
use Rattle.code_machine.specs.Used.{HasUsed}
use Rattle.code_machine.specs.Versions.{IsMachineOf, IsReady, IsRunOf, SameVersions, texts_of, versions_of}

-- a step of the thread in a slot, by what it came to
pub record IsStep (image : CodeImage) (slot : ℕ) (old new : RunState) (result : Result CodeStep AllocError) : Type 0 where
  pub kept : IsKeptRun image new
  pub run : (all : List (List BareDef)) → IsRunOf all image old → IsRunOf all image new
  pub same : SameVersions old new
  pub used : (n : ℕ) → HasUsed n old → HasUsed (1 + n) new
  pub leaves : new.leaves_work ≡ old.leaves_work
  pub stays : IfOk result (λ step. has_moved step ≡ false → UsesNothing old new)
  pub came : (all : List (List BareDef)) → IsReady all image old slot
      → IfOk result (λ step. StepsTo all image slot old new (has_moved step))
  pub led : (all : List (List BareDef)) → IsRunOf all image old
      → IfOk result (Led (texts_of all old) (names_in all) image (world_of image old) slot)
  pub long : OnOk result (length new.output.items ≤ length old.output.items + image.longest_print)
  pub capacity : vec_capacity old.output ≤ vec_capacity new.output
  pub enough : HasEnough image old slot → IsOk result

-- nothing that is seen of a machine changed
pub record SameMachine (old new : CodeMachine) : Type 0 where
  pub image : image_of new ≡ image_of old
  pub world : code_world new ≡ code_world old
  pub output : output_of new ≡ output_of old
  pub run : (all : List (List BareDef)) → IsMachineOf all old → IsMachineOf all new
  pub versions : versions_of new ≡ versions_of old
  pub used : (n : ℕ) → HasUsed n old.run → HasUsed n new.run
