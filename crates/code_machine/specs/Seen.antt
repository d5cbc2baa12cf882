-- A machine as runs of code have it.
use Rattle.std.specs.Prelude.{ℕ, List, [], ◌∷◌, map, drop, slice_get, slice_index_or, Option, Some, None, option_map, unwrap_or}
use Rattle.c_tree.specs.BareExpr.{Bytes}
use Rattle.source_model.specs.Worlds as world
use Rattle.resolved_tree.specs.Nodes.{Table}
use Rattle.resolved_tree.specs.Trees.{table}
use Rattle.bytecode.specs.Instructions.{Instruction}
use Rattle.bytecode.specs.Seen.{code_of}
use Rattle.settled_code.specs.Settled.{settled_state}
use Rattle.code_runs.specs.CodeThreads.{CodeFrame, CodeEnter, CodeThread, CodeSlot, CodeWorld}
use Rattle.code_runs.specs.CodeThreads as seen
use Rattle.word_frames.specs.Seen.{arguments_of, frames_of, innermost}
use Rattle.code_image.specs.declared.function.CodeFunction.{CodeFunction}
use Rattle.code_image.specs.declared.image.CodeImage.{CodeImage}
use Rattle.code_image.specs.Acts.{named}
use Rattle.code_machine.specs.declared.running.Next.{Next}
use Rattle.code_machine.specs.declared.running.Next.TheVariants.{Enters, Continues, Stands}
use Rattle.code_machine.specs.declared.running.Stand.{Stand}
use Rattle.code_machine.specs.declared.running.Stand.TheVariants.{Free, Live, Over}
use Rattle.code_machine.specs.declared.running.Running.{Running}
use Rattle.code_machine.specs.declared.state.Finish.{Finish}
use Rattle.code_machine.specs.declared.state.Finish.TheVariants.{Finished, Trapped}
use Rattle.code_machine.specs.declared.state.RunState.{RunState}
use Rattle.code_machine.specs.declared.machine.CodeMachine.{CodeMachine}

-- the names of an image's texts
abbrev pub words_of : CodeImage → Table
words_of image = table image.trees

-- the name with a number among those that functions have
abbrev pub name_at : CodeImage → ℕ → Bytes
name_at image n = unwrap_or (named (words_of image) image.callees.items n) []

-- a frame that isn't there
abbrev pub no_frame : CodeFrame
no_frame = record { function = []; version = 0; standing = 0; state = record { place = 0; stack = []; locals = [] } }

-- an enter that is due
abbrev pub enter_of : CodeImage → Running → ℕ → ℕ → CodeEnter
enter_of image r n count = record { function = name_at image n; arguments = arguments_of r.frames count; version = r.version }

-- a thread by its frames, by what it does next
abbrev pub standing_with : Running → List CodeFrame → CodeThread
standing_with r frames =
    record { serial = r.serial; depth = r.depth; next = seen.Rests (slice_index_or frames 0 no_frame); below = drop 1 frames }

abbrev pub entering_with : Running → CodeEnter → List CodeFrame → CodeThread
entering_with r e frames = record { serial = r.serial; depth = r.depth; next = seen.Enters e; below = frames }

-- the code of the function with a number
abbrev pub code_there : Table → Option CodeFunction → List Instruction
code_there t None = []
code_there t (Some g) = code_of t g.verified.body.code.items

abbrev pub code_at : CodeImage → ℕ → List Instruction
code_at image unit = code_there (words_of image) (slice_get image.functions.items unit)

-- frames, of which the innermost has executed its private instructions
abbrev pub settled_frame : List Instruction → CodeFrame → CodeFrame
settled_frame code f = record f { state = settled_state code f.state }

abbrev pub settled_first : List Instruction → List CodeFrame → List CodeFrame
settled_first code [] = []
settled_first code (f ∷ below) = settled_frame code f ∷ below

-- a thread that has private instructions to execute is seen as the thread that has executed them
abbrev pub thread_by : CodeImage → Running → Next → CodeThread
thread_by image r (Enters n count) = entering_with r (enter_of image r n count) (frames_of (words_of image) r.frames)
thread_by image r Continues =
    standing_with r (settled_first (code_at image (innermost r.frames).unit) (frames_of (words_of image) r.frames))
thread_by image r (Stands end) = standing_with r (frames_of (words_of image) r.frames)

abbrev pub thread_of : CodeImage → Running → CodeThread
thread_of image r = thread_by image r r.next

-- a slot
abbrev pub slot_by : CodeImage → Running → Stand → CodeSlot
slot_by image r Free = seen.Free
slot_by image r Live = seen.Live (thread_of image r)
slot_by image r (Over word) = seen.Over r.serial word

abbrev pub slot_of : CodeImage → Running → CodeSlot
slot_of image r = slot_by image r r.stand

-- how a run has ended
abbrev pub finish_of : Finish → world.Finish
finish_of (Finished result) = world.Finished result
finish_of (Trapped kind slot) = world.Trapped kind slot

-- the state of a run
abbrev pub world_of : CodeImage → RunState → CodeWorld
world_of image run = record {
  shared = run.shared;
  slots = map (slot_of image) run.slots.items;
  threads = run.threads;
  finish = option_map finish_of run.finish;
}

-- ---- a machine

abbrev pub code_world : CodeMachine → CodeWorld
code_world m = world_of m.image.value m.run

abbrev pub image_of : CodeMachine → CodeImage
image_of m = m.image.value

-- what was printed and not taken yet
abbrev pub output_of : CodeMachine → List ℕ
output_of m = m.run.output.items
