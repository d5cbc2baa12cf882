-- What is done at the stop at which a thread rests.
use Rattle.std.proofs.Common.{◌≡◌, ℕ, List, ◌∷◌, length, Some, sym, subst, ap}
use Rattle.std.specs.Prelude.{slice_get}
use Rattle.c_tree.specs.BareDef.{BareDef}
use Rattle.version_laws.specs.Histories.{text_in}
use Rattle.local_evaluation.specs.Pieces.{stop_of}
use Rattle.bytecode.specs.Instructions.{Instruction}
use Rattle.bytecode.specs.Seen.{code_of}
use Rattle.tree_code.specs.CodedPieces.{Stops}
use Rattle.thread_state.specs.declared.steps.End.TheVariants.{Rests as RestsThere}
use Rattle.code_runs.specs.CodeThreads.{CodeFrame}
use Rattle.code_runs.specs.CodeMoves.{frame_code}
use Rattle.word_frames.specs.Seen.{frames_of, innermost}
use Rattle.code_image.specs.declared.act.StopPlace.{StopPlace}
use Rattle.code_image.specs.declared.function.CodeFunction.{CodeFunction}
use Rattle.code_image.specs.declared.image.CodeImage.{CodeImage}
use Rattle.code_image.specs.Acts.{Acts, IsStopPlace, named}
use Rattle.code_image.specs.Images.{IsFunctionOf, code_in_image, names_in}
use Rattle.code_machine.specs.declared.running.Running.{Running}
use Rattle.code_machine.specs.Kept.{IsFrame, Stood}
use Rattle.code_machine.specs.Seen.{words_of}
use Rattle.code_machine.specs.Stops.{RestsAt}
use Rattle.code_machine.specs.Versions.{RunsCode, texts_by}
use Rattle.code_machine.proofs.Lists.{some}
use Rattle.code_machine.proofs.Fitting.{head_is}
use Rattle.code_machine.proofs.Going.{code_is, function_of, own_text}
use Rattle.code_machine.proofs.Resuming.{frame_there, stood_there}

module _ (all_texts : List (List BareDef)) (versions : List ℕ) (image : CodeImage) (r : Running) (x : StopPlace)
    (code : RunsCode all_texts versions image r) (rests : RestsAt image.functions.items (length image.callees.items) r x)
    (frame : CodeFrame) (below : List CodeFrame) (frames : frames_of (words_of image) r.frames ≡ frame ∷ below) where
  stood : Stood image.functions.items r.frames RestsThere
  stood = stood_there image.functions.items (length image.callees.items) r x rests

  here : IsFrame image.functions.items (innermost r.frames)
  here = frame_there image.functions.items (length image.callees.items) r x rests

  -- the function of its frame
  found : (g : CodeFunction) × (slice_get image.functions.items (innermost r.frames).unit ≡ Some g)
  found = some image.functions.items (innermost r.frames).unit here.inside

  abbrev of : IsFunctionOf (words_of image) all_texts image.callees.items (found.0)
  of = function_of all_texts versions image r (found.0) frame below code stood.some (found.1) frames

  stop_is : IsStopPlace (words_of image) (names_in all_texts) of.text image.callees.items (code_in_image (words_of image) (found.0)) (innermost r.frames).place x
  stop_is = of.stops (innermost r.frames).place x (rests.there (found.0) (found.1))

  -- the act does what the stop says, by the text of its frame
  pub acts_at : Acts (words_of image) (names_in all_texts) (text_in (texts_by all_texts versions) frame.version) (named (words_of image) image.callees.items)
      (stop_of (words_of image) x.stop) x.act
  acts_at =
      subst (λ (text : List BareDef). Acts (words_of image) (names_in all_texts) text (named (words_of image) image.callees.items) (stop_of (words_of image) x.stop) x.act)
      (sym (own_text all_texts versions image r (found.0) frame below code stood.some (found.1) frames)) stop_is.acts

  -- the stop is at the place of its frame
  pub stops_at : Stops (frame_code (texts_by all_texts versions) frame) (stop_of (words_of image) x.stop) x.point frame.state.place x.after
  stops_at =
      let t = words_of image in
      let own : frame_code (texts_by all_texts versions) frame ≡ code_of t (found.0).verified.body.code.items =
      code_is all_texts versions image r (found.0) frame below code stood.some (found.1) frames here in
      let at : frame.state.place ≡ (innermost r.frames).place = ap (λ (f : CodeFrame). f.state.place) (head_is t r.frames frame below stood.some frames) in
      let there : Stops (code_of t (found.0).verified.body.code.items) (stop_of t x.stop) x.point (innermost r.frames).place x.after = stop_is.stops in
      subst (λ (p : ℕ). Stops (frame_code (texts_by all_texts versions) frame) (stop_of t x.stop) x.point p x.after) (sym at)
      (subst (λ (c : List Instruction). Stops c (stop_of t x.stop) x.point (innermost r.frames).place x.after) (sym own) there)
