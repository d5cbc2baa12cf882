-- When a machine over code is the run of some texts.
use Rattle.std.specs.Prelude.{◌≡◌, ℕ, ◌≤◌, ◌<◌, ◌^◌, List, drop, length, Some}
use Rattle.c_tree.specs.BareDef.{BareDef}
use Rattle.c_semantics.specs.SourceTexts.{Text}
use Rattle.source_model.specs.Worlds.{World, Limits}
use Rattle.source_model.specs.Runs.{SourceMove}
use Rattle.version_laws.specs.Histories.{versions_by}
use Rattle.frame_bodies.specs.AcceptedTexts.{definitions_of}
use Rattle.source_runner.specs.SourceRuns.{world_after}
use Rattle.code_run_laws.specs.MoveLaws.{Stands}
use Rattle.code_image.specs.Images.{names_in}
use Rattle.code_machine.specs.declared.machine.CodeMachine.{CodeMachine}
use Rattle.code_machine.specs.Seen.{code_world, output_of}
use Rattle.code_machine.specs.Versions.{IsMachineOf, texts_by, versions_of}
use Rattle.image_load.specs.declared.text_data.TextData.{TextData}
use Rattle.image_load.specs.TextTables.{AreDataOf}
use Rattle.compiled_run.specs.Needs.{ThreadsGoOn}

-- the machine is one of these texts, of which those that the moves install were installed, and the tables are theirs. What its threads
-- came to stands for the world that the moves came to. Of its output so many bytes have no text any more
pub record IsRunOf (texts : List (List BareDef)) (limits : Limits) (moves : List SourceMove) (machine : CodeMachine) (tables : List TextData)
    (kept : ℕ) : Type 0 where
  pub machine_is : IsMachineOf texts machine
  pub tables_are : AreDataOf texts tables
  pub versions : List Text
  pub are : versions_by texts moves ≡ definitions_of versions
  pub installed : texts_by texts (versions_of machine) ≡ definitions_of versions
  pub world : World
  pub ran : world_after texts limits moves ≡ Some world
  pub stands : Stands versions (names_in texts) world (code_world machine)
  pub goes_on : ThreadsGoOn world
  pub within : kept ≤ length world.output
  pub output_is : output_of machine ≡ drop kept world.output
  pub few : length world.output < 2 ^ 64
