-- What a step keeps of a run, whatever its texts are.
use Rattle.std.specs.Prelude.{◌≡◌, ℕ, ◌+◌, List}
use Rattle.c_tree.specs.BareDef.{BareDef}
use Rattle.code_image.specs.declared.image.CodeImage.{CodeImage}
use Rattle.code_machine.specs.declared.state.RunState.{RunState}
use Rattle.code_machine.specs.Kept.{IsKeptRun}
use Rattle.code_machine.specs.Seen.{world_of}
use Rattle.code_machine.specs.Used.{HasUsed}
use Rattle.code_machine.specs.Versions.{IsRunOf, SameVersions}

-- its slots fit the code, it stays one of the same texts and in the same versions, one more of its numbers is used at most, and private
-- work is left as before
pub record Keeps (image : CodeImage) (old new : RunState) : Type 0 where
  pub kept : IsKeptRun image new
  pub run : (all : List (List BareDef)) → IsRunOf all image old → IsRunOf all image new
  pub same : SameVersions old new
  pub used : (n : ℕ) → HasUsed n old → HasUsed (1 + n) new
  pub leaves : new.leaves_work ≡ old.leaves_work

-- a step that can't move prints nothing, and uses none
pub record UsesNothing (old new : RunState) : Type 0 where
  pub output : new.output ≡ old.output
  pub used : (n : ℕ) → HasUsed n old → HasUsed n new

-- neither leaving private work nor doing it changes what is seen of a run
pub record SameRun (image : CodeImage) (old new : RunState) : Type 0 where
  pub kept : IsKeptRun image new
  pub world : world_of image new ≡ world_of image old
  pub run : (all : List (List BareDef)) → IsRunOf all image old → IsRunOf all image new
  pub same : SameVersions old new
  pub output : new.output ≡ old.output
  pub used : (n : ℕ) → HasUsed n old → HasUsed n new
