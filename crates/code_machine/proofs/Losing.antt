-- A frame that rests where its code has no stop.
use Rattle.std.proofs.Common.{◌≡◌, ℕ, ◌-◌, List, ◌∷◌, Some, None, refl, subst, ap, ◌∙◌, arith}
use Rattle.std.specs.Prelude.{slice_get}
use Rattle.std.specs.Option.{option_flatten}
use Rattle.run_types.specs.declared.trap.TrapKind.{TrapKind}
use Rattle.c_tree.specs.BareDef.{BareDef}
use Rattle.bytecode.specs.Instructions.{Instruction}
use Rattle.bytecode.specs.Meaning.{Step, Rests as RestsAt, Traps as TrapsAt, step}
use Rattle.bytecode.specs.Seen.{code_of}
use Rattle.tree_code.specs.CodedPieces.{Stops}
use Rattle.thread_state.specs.declared.steps.End.TheVariants.{Rests as RestsThere}
use Rattle.code_runs.specs.CodeThreads.{CodeFrame, Live}
use Rattle.code_runs.specs.CodeMoves.{frame_code}
use Rattle.word_frames.specs.Seen.{depth_of, frame_of, frames_below, frames_of, innermost}
use Rattle.word_frames.proofs.FrameLists.{innermost_first}
use Rattle.code_image.specs.declared.function.CodeFunction.{CodeFunction}
use Rattle.code_image.specs.declared.image.CodeImage.{CodeImage}
use Rattle.code_image.specs.Images.{IsFunctionOf}
use Rattle.code_machine.specs.declared.running.Next.TheVariants.{Stands}
use Rattle.code_machine.specs.declared.running.Running.{Running}
use Rattle.code_machine.specs.declared.running.Stand.TheVariants.{Live as LiveStand}
use Rattle.code_machine.specs.declared.state.RunState.{RunState}
use Rattle.code_machine.specs.Kept.{FitsImage, IsFrame, Stood}
use Rattle.code_machine.specs.Seen.{slot_by, standing_with, thread_by, words_of, world_of}
use Rattle.code_machine.specs.Steps.{RestsNowhere}
use Rattle.code_machine.specs.Stops.{resting}
use Rattle.code_machine.specs.Versions.{RunsCode, texts_of}
use Rattle.code_machine.proofs.Fitting.{rests_is}
use Rattle.code_machine.proofs.Going.{code_is, function_of}
use Rattle.code_machine.proofs.Worlds.{slot_is}

-- a step that rests doesn't trap
no_trap : (s : Step) (kind : TrapKind) → s ≡ RestsAt → s ≡ TrapsAt kind → ⊥
no_trap s kind rests traps = cc

pub lost : (all : List (List BareDef)) (image : CodeImage) (run : RunState) (slot : ℕ) (r : Running) (g : CodeFunction)
    → RunsCode all run.versions.items image r → FitsImage image r → slice_get run.slots.items slot ≡ Some r → r.stand ≡ LiveStand
    → r.next ≡ Stands RestsThere → slice_get image.functions.items (innermost r.frames).unit ≡ Some g
    → option_flatten (slice_get g.stops.items (innermost r.frames).place) ≡ None
    → RestsNowhere (texts_of all run) (world_of image run) slot
lost all image run slot r g runs fits there live next found none =
    let t = words_of image in
    let callees = image.callees.items in
    let texts = texts_of all run in
    let stood : Stood image.functions.items r.frames RestsThere = fits.stood RestsThere next in
    let frame : CodeFrame = frame_of t r.frames.highest_stack r.frames.words.items (depth_of r.frames - 1) (innermost r.frames) in
    let below : List CodeFrame = frames_below t r.frames.highest_stack r.frames.words.items r.frames.frames.items (depth_of r.frames - 1) in
    let frames : frames_of t r.frames ≡ frame ∷ below = innermost_first t r.frames.highest_stack r.frames.words.items r.frames.frames.items (depth_of r.frames) stood.some in
    let here : IsFrame image.functions.items (innermost r.frames) = fits.frames (depth_of r.frames - 1) (omega (arith, stood.some)) in
    let code : frame_code texts frame ≡ code_of t g.verified.body.code.items = code_is all run.versions.items image r g frame below runs stood.some found frames here in
    let of : IsFunctionOf t all callees g = function_of all run.versions.items image r g frame below runs stood.some found frames in
    let rests : step (frame_code texts frame) frame.state ≡ RestsAt =
    ap (λ (c : List Instruction). step c frame.state) code
    ∙ rests_is (step (code_of t g.verified.body.code.items) frame.state) (stood.ends t g frame below found frames) in
    record {
      thread = resting r frame below;
      frame = frame;
      lives = slot_is image run slot r there ∙ ap (slot_by image r) live ∙ ap Live (ap (thread_by image r) next ∙ ap (standing_with r) frames);
      next = refl;
      traps = λ kind e. no_trap (step (frame_code texts frame) frame.state) kind rests e;
      stops = λ s n after h.
          of.others (innermost r.frames).place s n after none
          (subst (λ (c : List Instruction). Stops c s n (innermost r.frames).place after) code h);
    }
