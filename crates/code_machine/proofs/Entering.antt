-- A function is entered.
use Rattle.std.proofs.Common.{◌≡◌, inl, inr, ℕ, zero, suc, ◌-◌, ◌<◌, List, [], ◌∷◌, ◌++◌, length, Some, None, refl, sym, subst, ap, ◌∙◌, arith}
use Rattle.std.specs.declared.alloc.Global.{Global}
use Rattle.std.specs.Prelude.{All, Vec, option_map, slice_get, slice_index_or, slice_set}
use Rattle.std.proofs.lemmas.Bool.{cases_eq}
use Rattle.std.proofs.lemmas.List.{append-nil, length-map}
use Rattle.std.proofs.lemmas.List.Elements.{All-push}
use Rattle.run_types.specs.declared.trap.TrapKind.TheVariants.{Depth}
use Rattle.c_tree.specs.BareDef.{BareDef}
use Rattle.resolved_tree.specs.Nodes.{Table}
use Rattle.source_model.specs.Moves.{frame_count}
use Rattle.code_runs.specs.CodeData.{Names}
use Rattle.code_runs.specs.CodeThreads.{CodeFrame, CodeSlot, CodeThread, CodeWorld, Live}
use Rattle.code_runs.specs.CodeMoves.{GoesOn, Moves, enters, going, overflows, with_thread}
use Rattle.code_runs.specs.CodeWaits.{entering, in_slot}
use Rattle.word_frames.specs.declared.frame.Frame.{Frame}
use Rattle.word_frames.specs.declared.frames.Frames.{Frames}
use Rattle.word_frames.specs.Seen.{IsKept, depth_of, frames_below, frames_of}
use Rattle.word_frames.specs.Changes.{new_frame}
use Rattle.word_frames.specs.Changes as change
use Rattle.word_frames.proofs.FrameLists.{Replaces, pushed}
use Rattle.code_image.specs.declared.function.CodeFunction.{CodeFunction}
use Rattle.code_image.specs.declared.image.CodeImage.{CodeImage}
use Rattle.code_image.specs.Stacks.{AreNeverHigher}
use Rattle.code_machine.specs.declared.running.Next.TheVariants.{Enters}
use Rattle.code_machine.specs.declared.running.Running.{Running}
use Rattle.code_machine.specs.declared.running.Stand.TheVariants.{Live as LiveStand}
use Rattle.code_machine.specs.declared.state.Finish.TheVariants.{Trapped}
use Rattle.code_machine.specs.declared.state.RunState.{RunState}
use Rattle.code_machine.specs.Kept.{Fits, IsFrame}
use Rattle.code_machine.specs.Seen.{enter_of, entering_with, finish_of, slot_by, slot_of, thread_by, words_of, world_of}
use Rattle.code_machine.specs.Steps.{Moved}
use Rattle.code_machine.specs.Stops.{CanGoOn, Entered, WentOn, resting}
use Rattle.code_machine.specs.Versions.{IsInForce, IsOfVersion, RunsCode, texts_by}
use Rattle.code_machine.proofs.Lists.{one}
use Rattle.code_machine.proofs.Fitting.{same_head, same_rest}
use Rattle.code_machine.proofs.Worlds.{slot_is, world_set}

-- the new frame can go on
pub can_enter : (functions : List CodeFunction) (callees : ℕ) (g : CodeFunction) (old : Running) (mid : Frames) (version function n count : ℕ) → Fits functions callees old
    → old.next ≡ Enters n count → slice_get functions function ≡ Some g → function < length functions → mid.highest_stack ≡ old.frames.highest_stack → IsKept mid
    → mid.frames.items ≡ old.frames.frames.items ++ new_frame g.name version function ∷ []
    → CanGoOn functions (record old { frames = mid }) 1 0
can_enter functions callees g old mid version function n count fits next there inside same kept frames =
    let f : Frame = new_frame g.name version function in
    let made : Replaces old.frames.frames.items mid.frames.items (depth_of old.frames) f = rw frames (pushed old.frames.frames.items f) in
    let here : IsFrame functions f = record { inside = inside; function = λ k is. ap (λ (h : CodeFunction). h.name) (one (slice_get functions function) g k there is) } in
    record {
      kept = kept;
      serial = fits.serial;
      frames = λ k within. elim (cases_eq k (depth_of old.frames)) [
        | inl same ↦ rw (same, made.last) here
        | inr differs ↦ let h : k < depth_of old.frames = omega (arith, made.long) in rw (made.others k h) (fits.frames k h)
      ];
      some = omega (arith, made.long);
      high = λ k is. k.fits.entry;
      wait = λ k h. let less : k < depth_of old.frames = omega (arith, made.long) in rw (made.others k less) ((fits.due n count next).wait k less);
      stacks = subst (λ (k : ℕ). AreNeverHigher k functions) (sym same) fits.stacks;
    }

-- and runs the code of the last version
pub runs_entered : (all : List (List BareDef)) (versions : List ℕ) (image : CodeImage) (g : CodeFunction) (old new : Running) (version function n : ℕ)
    → new.frames.frames.items ≡ old.frames.frames.items ++ new_frame g.name version function ∷ [] → version ≡ length versions → IsInForce image versions n function
    → RunsCode all versions image old → RunsCode all versions image new
runs_entered all versions image g old new version function n frames last force code =
    let P : Frame → Type 0 = IsOfVersion image.functions.items versions in
    let here : P (new_frame g.name version function) =
    record { before = length versions - 1; version = omega (arith, last, force.some); text = force.last } in
    record {
      image_is = code.image_is;
      frames = subst (All P) (sym frames) (All-push P old.frames.frames.items (new_frame g.name version function) code.frames here);
    }

-- the function was entered
pub entered : (all : List (List BareDef)) (versions : List ℕ) (image : CodeImage) (g : CodeFunction) (old new : Running) (mid : Frames) (version function n count : ℕ)
    → slice_get image.functions.items function ≡ Some g → version ≡ length versions → IsInForce image versions n function
    → change.Enters (words_of image) old.frames mid g.name version count
    → WentOn (texts_by all versions) image (record old { frames = mid }) new 0 1 0 → Entered (texts_by all versions) image old new n count
entered all versions image g old new mid version function n count there last force e w =
    let texts : List (List BareDef) = texts_by all versions in
    let head : w.frame ≡ e.frame = same_head w.frame e.frame w.below (frames_of (words_of image) old.frames) (sym w.before ∙ e.frames) in
    let rest : w.below ≡ frames_of (words_of image) old.frames = same_rest w.frame e.frame w.below (frames_of (words_of image) old.frames) (sym w.before ∙ e.frames) in
    let many : version ≡ length texts = last ∙ sym (length-map versions (λ n. slice_index_or all n [])) in
    record {
      frame = e.frame;
      next = w.next;
      entered = e.entered texts (enter_of image old n count) (sym (force.named g there)) refl many;
      goes = subst (λ (f : CodeFrame). GoesOn texts f 1 [] 0 w.next) head w.goes;
      after = w.after ∙ ap (resting old w.next) rest;
    }

-- how many frames there are
frames_length : (t : Table) (highest : ℕ) (ws : List ℕ) (fs : List Frame) (d : ℕ) → length (frames_below t highest ws fs d) ≡ d
frames_length t highest ws fs zero = refl
frames_length t highest ws fs (suc d) = ap suc (frames_length t highest ws fs d)

module _ (texts : List (List BareDef)) (names : Names) (image : CodeImage) (old : RunState) (slot n count : ℕ) (r : Running)
    (there : slice_get old.slots.items slot ≡ Some r) (live : r.stand ≡ LiveStand) (next : r.next ≡ Enters n count) (runs : old.finish ≡ None) where
  -- its thread
  lives_so : in_slot (world_of image old) slot ≡ Live (entering_with r (enter_of image r n count) (frames_of (words_of image) r.frames))
  lives_so = slot_is image old slot r there ∙ ap (slot_by image r) live ∙ ap Live (ap (thread_by image r) next)

  -- it enters
  pub enter_moves : (slots : Vec Running Global) (after : Running) → slots.items ≡ slice_set old.slots.items slot after → after.stand ≡ LiveStand
      → depth_of r.frames < frame_count → Entered texts image r after n count
      → Moved texts names slot (world_of image old) (world_of image (record old { slots = slots })) old.output.items old.output.items
  enter_moves slots after set stand few e =
      let th : CodeThread = entering_with r (enter_of image r n count) (frames_of (words_of image) r.frames) in
      let long : length (frames_of (words_of image) r.frames) ≡ depth_of r.frames = frames_length (words_of image) r.frames.highest_stack r.frames.words.items r.frames.frames.items (depth_of r.frames) in
      let room : length (frames_of (words_of image) r.frames) < frame_count = subst (λ (k : ℕ). k < frame_count) (sym long) few in
      let now : slot_of image after ≡ Live (going th e.next) = ap (slot_by image after) stand ∙ ap Live e.after in
      let world : world_of image (record old { slots = slots }) ≡ with_thread slot (going th e.next) (world_of image old) =
      world_set image old (record old { slots = slots }) slot after set
      ∙ ap (λ (s : CodeSlot). record (world_of image old) { slots = slice_set (world_of image old).slots slot s }) now in
      record {
        going = ap (option_map finish_of) runs;
        thread = th;
        lives = lives_so;
        ready = entering (enter_of image r n count);
        printed = [];
        moves =
            subst (λ (v : CodeWorld). Moves texts names (world_of image old) slot th v []) (sym world)
            (enters (enter_of image r n count) e.frame e.next refl room e.entered e.goes);
        output = sym (append-nil old.output.items);
      }

  -- there is no room
  pub overflow_moves : depth_of r.frames ≡ frame_count
      → Moved texts names slot (world_of image old) (world_of image (record old { finish = Some (Trapped Depth slot) })) old.output.items old.output.items
  overflow_moves full =
      let th : CodeThread = entering_with r (enter_of image r n count) (frames_of (words_of image) r.frames) in
      let long : length (frames_of (words_of image) r.frames) ≡ depth_of r.frames = frames_length (words_of image) r.frames.highest_stack r.frames.words.items r.frames.frames.items (depth_of r.frames) in
      record {
        going = ap (option_map finish_of) runs;
        thread = th;
        lives = lives_so;
        ready = entering (enter_of image r n count);
        printed = [];
        moves = overflows (enter_of image r n count) refl (long ∙ full);
        output = sym (append-nil old.output.items);
      }
