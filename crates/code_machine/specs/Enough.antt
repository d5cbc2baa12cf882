-- When a step of a thread has the numbers and the memory that it needs.
use Rattle.std.specs.Prelude.{◌≡◌, ℕ, suc, ◌+◌, ◌<◌, ◌≤◌, ◌^◌, Vec, length, vec_capacity}
use Rattle.std.specs.declared.alloc.Global.{Global}
use Rattle.resolved_tree.specs.Nodes.{Table}
use Rattle.object_store.specs.Handles.{creation_limit}
use Rattle.code_runs.specs.CodeData.{Data}
use Rattle.code_runs.specs.CodeThreads.{CodeThread, CodeWorld, Live}
use Rattle.code_runs.specs.CodeWaits.{in_slot}
use Rattle.word_data.specs.Performing.{MayFail}
use Rattle.code_image.specs.declared.act.Act.{Act}
use Rattle.code_image.specs.declared.act.Act.TheVariants.{Shared, Begin}
use Rattle.code_image.specs.declared.image.CodeImage.{CodeImage}
use Rattle.code_machine.specs.declared.state.RunState.{RunState}
use Rattle.code_machine.specs.Kept.{most_threads}
use Rattle.code_machine.specs.Seen.{world_of}

-- there is a number for one more object and one more thread, and for one more transaction of the thread in a slot
pub record HasNumbers (w : CodeWorld) (slot : ℕ) : Type 0 where
  pub creations : w.shared.objects.created < creation_limit
  pub threads : w.threads < most_threads
  pub depth : (thread : CodeThread) → in_slot w slot ≡ Live thread → suc thread.depth < 2 ^ 64

-- and there is room for the bytes that one stop prints at most
pub record HasEnough (image : CodeImage) (run : RunState) (slot : ℕ) : Type 0 where
  pub numbers : HasNumbers (world_of image run) slot
  pub room : length run.output.items + image.longest_print ≤ vec_capacity run.output

-- when what a thread in so many transactions does at a stop, and that starts no thread, may be out of memory
abbrev pub ActMayFail : Table → Act → ℕ → Data → Vec ℕ Global → Type 0
ActMayFail t (Shared stop) depth d output = MayFail t stop d output
ActMayFail t Begin depth d output = 2 ^ 64 ≤ suc depth
ActMayFail t act depth d output = ⊥
