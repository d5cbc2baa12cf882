-- An operator of a thread traps.
use Rattle.std.proofs.Common.{◌≡◌, ℕ, ◌-◌, List, [], ◌∷◌, Some, None, refl, sym, ap, ◌∙◌, arith}
use Rattle.std.specs.Prelude.{option_map, slice_get}
use Rattle.std.proofs.lemmas.List.{append-nil}
use Rattle.run_types.specs.declared.trap.TrapKind.{TrapKind}
use Rattle.c_tree.specs.BareDef.{BareDef}
use Rattle.bytecode.specs.Instructions.{Instruction}
use Rattle.bytecode.specs.Meaning.{Traps as TrapsAt, step}
use Rattle.bytecode.specs.Seen.{code_of}
use Rattle.thread_state.specs.declared.steps.End.TheVariants.{Traps as TrapsThere}
use Rattle.code_runs.specs.CodeThreads.{CodeFrame, Live}
use Rattle.code_runs.specs.CodeMoves.{frame_code, traps}
use Rattle.code_runs.specs.CodeWaits.{trapping}
use Rattle.word_frames.specs.Seen.{depth_of, frame_of, frames_below, frames_of, innermost}
use Rattle.word_frames.proofs.FrameLists.{innermost_first}
use Rattle.code_image.specs.declared.function.CodeFunction.{CodeFunction}
use Rattle.code_image.specs.declared.image.CodeImage.{CodeImage}
use Rattle.code_image.specs.Images.{names_in}
use Rattle.code_machine.specs.declared.running.Next.TheVariants.{Stands}
use Rattle.code_machine.specs.declared.running.Running.{Running}
use Rattle.code_machine.specs.declared.running.Stand.TheVariants.{Live as LiveStand}
use Rattle.code_machine.specs.declared.state.Finish.TheVariants.{Trapped}
use Rattle.code_machine.specs.declared.state.RunState.{RunState}
use Rattle.code_machine.specs.Kept.{FitsImage, IsFrame, Stood}
use Rattle.code_machine.specs.Seen.{finish_of, slot_by, standing_with, thread_by, words_of, world_of}
use Rattle.code_machine.specs.Steps.{Moved}
use Rattle.code_machine.specs.Stops.{resting}
use Rattle.code_machine.specs.Versions.{RunsCode, texts_of}
use Rattle.code_machine.proofs.Lists.{some}
use Rattle.code_machine.proofs.Fitting.{traps_is}
use Rattle.code_machine.proofs.Going.{code_is}
use Rattle.code_machine.proofs.Worlds.{slot_is}

pub trap_moves : (all : List (List BareDef)) (image : CodeImage) (old : RunState) (slot : ℕ) (kind : TrapKind) (r : Running)
    → RunsCode all old.versions.items image r → FitsImage image r → slice_get old.slots.items slot ≡ Some r → r.stand ≡ LiveStand → r.next ≡ Stands (TrapsThere kind) → old.finish ≡ None
    → Moved (texts_of all old) (names_in all) slot (world_of image old) (world_of image (record old { finish = Some (Trapped kind slot) })) old.output.items old.output.items
trap_moves all image old slot kind r code fits there live next runs =
    let t = words_of image in
    let texts : List (List BareDef) = texts_of all old in
    let stood : Stood image.functions.items r.frames (TrapsThere kind) = fits.stood (TrapsThere kind) next in
    let frame : CodeFrame = frame_of t r.frames.highest_stack r.frames.words.items (depth_of r.frames - 1) (innermost r.frames) in
    let below : List CodeFrame = frames_below t r.frames.highest_stack r.frames.words.items r.frames.frames.items (depth_of r.frames - 1) in
    let frames : frames_of t r.frames ≡ frame ∷ below = innermost_first t r.frames.highest_stack r.frames.words.items r.frames.frames.items (depth_of r.frames) stood.some in
    let here : IsFrame image.functions.items (innermost r.frames) = fits.frames (depth_of r.frames - 1) (omega (arith, stood.some)) in
    let found : (g : CodeFunction) × (slice_get image.functions.items (innermost r.frames).unit ≡ Some g) = some image.functions.items (innermost r.frames).unit here.inside in
    let own : frame_code texts frame ≡ code_of t (found.0).verified.body.code.items =
    code_is all old.versions.items image r found.0 frame below code stood.some found.1 frames here in
    let traps_there : step (frame_code texts frame) frame.state ≡ TrapsAt kind =
    ap (λ (c : List Instruction). step c frame.state) own
    ∙ traps_is (step (code_of t (found.0).verified.body.code.items) frame.state) kind (stood.ends t found.0 frame below found.1 frames) in
    record {
      going = ap (option_map finish_of) runs;
      thread = resting r frame below;
      lives = slot_is image old slot r there ∙ ap (slot_by image r) live ∙ ap Live (ap (thread_by image r) next ∙ ap (standing_with r) frames);
      ready = trapping frame kind traps_there;
      printed = [];
      moves = traps frame kind refl traps_there;
      output = sym (append-nil old.output.items);
    }
