-- A frame goes on: what is kept of it, and what the definitions say.
use Rattle.std.proofs.Common.{◌≡◌, ℕ, ◌-◌, ◌<◌, List, [], ◌∷◌, Some, sym, subst, ap, ◌∙◌, arith}
use Rattle.std.specs.Prelude.{All, slice_get, slice_index_or}
use Rattle.std.proofs.lemmas.List.Elements.{All-get_or, All-set}
use Rattle.c_tree.specs.BareDef.{BareDef}
use Rattle.version_laws.specs.Histories.{text_in}
use Rattle.resolved_tree.specs.Nodes.{Table, word}
use Rattle.bytecode.specs.Meaning.{step}
use Rattle.bytecode.specs.Seen.{code_of}
use Rattle.thread_state.specs.declared.steps.End.{End}
use Rattle.thread_state.specs.Heights.{HasHeight}
use Rattle.code_runs.specs.CodeThreads.{CodeFrame}
use Rattle.code_runs.specs.CodeMoves.{code_in, frame_code}
use Rattle.word_frames.specs.declared.frame.Frame.{Frame}
use Rattle.word_frames.specs.declared.frames.Frames.{Frames}
use Rattle.word_frames.specs.Seen.{IsKept, depth_of, frames_of, innermost, no_frame}
use Rattle.word_frames.specs.Changes.{with_innermost}
use Rattle.word_frames.specs.Changes as change
use Rattle.code_image.specs.declared.function.CodeFunction.{CodeFunction}
use Rattle.code_image.specs.declared.image.CodeImage.{CodeImage}
use Rattle.code_image.specs.Stacks.{AreNeverHigher}
use Rattle.code_image.specs.Images.{IsFunctionOf}
use Rattle.code_machine.specs.declared.running.Next.TheVariants.{Continues, Enters, Stands}
use Rattle.code_machine.specs.declared.running.Running.{Running}
use Rattle.code_machine.specs.declared.state.RunState.{RunState}
use Rattle.code_machine.specs.Kept.{Fits, IsFrame, Stood, Wait, end_of}
use Rattle.code_machine.specs.Seen.{standing_with, words_of}
use Rattle.code_machine.specs.Stops.{CanGoOn, Executed, WentOn}
use Rattle.code_machine.specs.Versions.{IsOfVersion, IsRunOf, RunsCode, texts_by}
use Rattle.code_machine.proofs.Lists.{all, one, read, seen}
use Rattle.code_machine.proofs.Fitting.{are_frames, depth_is, end_is, frame_moved, head_is, innermost_is, moved, same_head, wait_still}

-- ---- the code of frames

-- the text of a version is that of a function whose frame it has
text_is : (all_texts : List (List BareDef)) (versions : List ℕ) (functions : List CodeFunction) (f : Frame) (g : CodeFunction) (text : List BareDef)
    → IsOfVersion functions versions f → slice_get functions f.unit ≡ Some g → slice_get all_texts g.text ≡ Some text
    → text_in (texts_by all_texts versions) f.version ≡ text
text_is all_texts versions functions f g text of there own =
    ap (text_in (texts_by all_texts versions)) of.version
    ∙ seen (λ n. slice_index_or all_texts n []) versions of.before g.text [] (of.text g there)
    ∙ read all_texts g.text text [] own

module _ (all_texts : List (List BareDef)) (versions : List ℕ) (image : CodeImage) (r : Running) (g : CodeFunction) (f : CodeFrame) (below : List CodeFrame)
    (code : RunsCode all_texts versions image r) (some : 0 < depth_of r.frames) (there : slice_get image.functions.items (innermost r.frames).unit ≡ Some g)
    (frames : frames_of (words_of image) r.frames ≡ f ∷ below) where
  -- the function of the innermost frame, and its text
  pub function_of : IsFunctionOf (words_of image) all_texts image.callees.items g
  function_of =
      all (IsFunctionOf (words_of image) all_texts image.callees.items) image.functions.items (innermost r.frames).unit g code.image_is.functions there

  pub own_text : text_in (texts_by all_texts versions) f.version ≡ function_of.text
  own_text =
      let functions : List CodeFunction = image.functions.items in
      let of : IsOfVersion functions versions (innermost r.frames) =
      All-get_or (IsOfVersion functions versions) r.frames.frames.items (depth_of r.frames - 1) no_frame (omega (arith, some)) code.frames in
      ap (λ (x : CodeFrame). text_in (texts_by all_texts versions) x.version) (head_is (words_of image) r.frames f below some frames)
      ∙ text_is all_texts versions functions (innermost r.frames) g function_of.text of there function_of.own

  -- its code is that of its function
  pub code_is : IsFrame image.functions.items (innermost r.frames)
      → frame_code (texts_by all_texts versions) f ≡ code_of (words_of image) g.verified.body.code.items
  code_is frame =
      let function : f.function ≡ word (words_of image) g.name =
      ap (λ (x : CodeFrame). x.function) (head_is (words_of image) r.frames f below some frames) ∙ ap (word (words_of image)) (frame.function g there) in
      ap (λ (text : List BareDef). code_in (text ∷ []) 1 f.function) own_text ∙ ap (code_in (function_of.text ∷ []) 1) function ∙ sym function_of.code

-- a thread of a run has the code of its versions
pub runs_there : (all_texts : List (List BareDef)) (image : CodeImage) (run : RunState) (n : ℕ) (r : Running) → IsRunOf all_texts image run
    → slice_get run.slots.items n ≡ Some r → RunsCode all_texts run.versions.items image r
runs_there all_texts image run n r is there = record { image_is = is.image_is; frames = is.frames n r there }

-- it has it still with the same frames
pub runs_so : (all_texts : List (List BareDef)) (versions : List ℕ) (image : CodeImage) (old new : Running) → new.frames.frames.items ≡ old.frames.frames.items
    → RunsCode all_texts versions image old → RunsCode all_texts versions image new
runs_so all_texts versions image old new same code =
    record { image_is = code.image_is; frames = subst (All (IsOfVersion image.functions.items versions)) (sym same) code.frames }

-- and where the innermost one is elsewhere in its code
of_moved : (functions : List CodeFunction) (versions : List ℕ) (f : Frame) (point place height : ℕ) → IsOfVersion functions versions f
    → IsOfVersion functions versions (moved f point place height)
of_moved functions versions f point place height of = record { before = of.before; version = of.version; text = of.text }

pub runs_moved : (all_texts : List (List BareDef)) (versions : List ℕ) (image : CodeImage) (old new : Running) (point place height : ℕ) → 0 < depth_of old.frames
    → new.frames.frames.items ≡ with_innermost old.frames (moved (innermost old.frames) point place height)
    → RunsCode all_texts versions image old → RunsCode all_texts versions image new
runs_moved all_texts versions image old new point place height some frames code =
    let P : Frame → Type 0 = IsOfVersion image.functions.items versions in
    let fs : List Frame = old.frames.frames.items in
    let here : P (innermost old.frames) = All-get_or P fs (depth_of old.frames - 1) no_frame (omega (arith, some)) code.frames in
    let moved_there : P (moved (innermost old.frames) point place height) = of_moved image.functions.items versions (innermost old.frames) point place height here in
    record {
      image_is = code.image_is;
      frames = subst (All P) (sym frames) (All-set P fs (depth_of old.frames - 1) (moved (innermost old.frames) point place height) moved_there code.frames);
    }

-- ---- a frame goes on

module _ (functions : List CodeFunction) (g : CodeFunction) (old new : Frames) (point place height : ℕ) (end : End)
    (some : 0 < depth_of old) (there : slice_get functions (innermost old).unit ≡ Some g)
    (frames : new.frames.items ≡ with_innermost old (moved (innermost old) point (innermost new).place (innermost new).height)) where
  -- the function of the innermost frame is the same
  same_function : (k : CodeFunction) → slice_get functions (innermost new).unit ≡ Some k → g ≡ k
  same_function k is =
      let at = innermost_is functions old new (moved (innermost old) point (innermost new).place (innermost new).height) some frames in
      one (slice_get functions (innermost old).unit) g k there (sym (ap (λ (f : Frame). slice_get functions f.unit) at) ∙ is)

  -- it is where its burst ended
  pub stood : Wait functions old (depth_of old - 1) → HasHeight g.verified.heights.items (innermost new).place (innermost new).height
      → ((t : Table) → change.WentOn t g.verified.body.code.items old new point place height end) → Stood functions new end
  stood wait low went =
      let f : Frame = moved (innermost old) point (innermost new).place (innermost new).height in
      let deep : depth_of new ≡ depth_of old = depth_is functions old new f some frames in
      let below : depth_of old - 1 ≡ depth_of new - 1 = ap (λ (n : ℕ). n - 1) (sym deep) in
      record {
        some = omega (arith, deep);
        height = λ k is. subst (λ (h : CodeFunction). HasHeight h.verified.heights.items (innermost new).place (innermost new).height) (same_function k is) low;
        ends = λ t k first rest is seen.
            let w = went t in
            let same : first ≡ w.next = same_head first w.next rest w.below (sym seen ∙ w.after) in
            ap (λ (h : CodeFunction). end_of (step (code_of t h.verified.body.code.items) first.state)) (sym (same_function k is))
            ∙ ap (λ (x : CodeFrame). end_of (step (code_of t g.verified.body.code.items) x.state)) same
            ∙ ap end_of w.bursts.ends ∙ end_is end;
        wait = subst (Wait functions new) below (wait_still functions old new f some frames wait);
      }

-- what a thread does next is one thing
pub stands_not : (end : End) (n count : ℕ) → Stands end ≡ Enters n count → ⊥
stands_not end n count e = cc

pub stands_and_continues : (end : End) → Stands end ≡ Continues → ⊥
stands_and_continues end e = cc

pub same_end : (a b : End) → Stands a ≡ Stands b → a ≡ b
same_end a b e = cc

-- a thread whose innermost frame went on is kept
pub fits_on : (functions : List CodeFunction) (callees : ℕ) (g : CodeFunction) (old : Running) (new : Frames) (point place height : ℕ) (end : End)
    → CanGoOn functions old place height → slice_get functions (innermost old.frames).unit ≡ Some g
    → new.frames.items ≡ with_innermost old.frames (moved (innermost old.frames) point (innermost new).place (innermost new).height)
    → new.highest_stack ≡ old.frames.highest_stack → IsKept new → HasHeight g.verified.heights.items (innermost new).place (innermost new).height
    → ((t : Table) → change.WentOn t g.verified.body.code.items old.frames new point place height end)
    → Fits functions callees (record old { frames = new; next = Stands end })
fits_on functions callees g old new point place height end can there frames same kept low went =
    let f : Frame = moved (innermost old.frames) point (innermost new).place (innermost new).height in
    record {
      kept = kept;
      serial = can.serial;
      frames = are_frames functions old.frames new f can.some frames (frame_moved functions (innermost old.frames) point (innermost new).place (innermost new).height (can.frames (depth_of old.frames - 1) (omega (arith, can.some)))) can.frames;
      due = λ n count e. absurd (stands_not end n count e);
      owes = λ e. absurd (stands_and_continues end e);
      leaves = λ e. absurd (stands_and_continues end e);
      stood = λ other e.
          subst (Stood functions new) (same_end end other e) (stood functions g old.frames new point place height end can.some there frames can.wait low went);
      stacks = subst (λ (k : ℕ). AreNeverHigher k functions) (sym same) can.stacks;
    }

-- and went on as the definitions say
went_on : (all_texts : List (List BareDef)) (versions : List ℕ) (image : CodeImage) (g : CodeFunction) (old : Running) (new : Frames) (point place height : ℕ) (end : End)
    → RunsCode all_texts versions image old → CanGoOn image.functions.items old place height
    → slice_get image.functions.items (innermost old.frames).unit ≡ Some g
    → change.WentOn (words_of image) g.verified.body.code.items old.frames new point place height end
    → WentOn (texts_by all_texts versions) image old (record old { frames = new; next = Stands end }) point place height
went_on all_texts versions image g old new point place height end code can there w = record {
  frame = w.frame;
  next = w.next;
  below = w.below;
  before = w.before;
  after = ap (standing_with old) w.after;
  goes = w.goes (texts_by all_texts versions)
      (code_is all_texts versions image old g w.frame w.below code can.some there w.before (can.frames (depth_of old.frames - 1) (omega (arith, can.some))));
}

pub went_executed : (all_texts : List (List BareDef)) (versions : List ℕ) (image : CodeImage) (old new : Running) (point place height : ℕ)
    → RunsCode all_texts versions image old → CanGoOn image.functions.items old place height → Executed image old new point place height
    → WentOn (texts_by all_texts versions) image old new point place height
went_executed all_texts versions image old new point place height code can e =
    subst (λ (r : Running). WentOn (texts_by all_texts versions) image old r point place height) (sym e.is)
    (went_on all_texts versions image e.function old new.frames point place height e.end code can e.there e.goes)
