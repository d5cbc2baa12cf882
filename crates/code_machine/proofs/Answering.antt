-- A word comes in place of the newest one, and the thread goes on.
use Rattle.std.proofs.Common.{◌≡◌, ℕ, zero, suc, ◌+◌, ◌-◌, ◌<◌, ◌≤◌, List, ◌∷◌, length, drop, sym, subst, ap, ◌∙◌, arith}
use Rattle.std.specs.Prelude.{slice_index, slice_set}
use Rattle.std.proofs.lemmas.List.{get_or-set_other}
use Rattle.c_tree.specs.BareDef.{BareDef}
use Rattle.thread_state.specs.Frames.{downward}
use Rattle.thread_state.specs.declared.steps.End.TheVariants.{Rests as RestsThere}
use Rattle.code_runs.specs.CodeThreads.{CodeFrame}
use Rattle.code_runs.specs.CodeMoves.{GoesOn}
use Rattle.word_frames.specs.declared.frame.Frame.{Frame}
use Rattle.word_frames.specs.declared.frames.Frames.{Frames}
use Rattle.word_frames.specs.Blocks.{low_of}
use Rattle.word_frames.specs.Laws.{StackChanged, with_stack}
use Rattle.word_frames.specs.Seen.{IsKept, depth_of, innermost, stack_base, stack_of}
use Rattle.word_frames.proofs.FrameCalls.{block_there}
use Rattle.word_frames.proofs.FrameLists.{room_is}
use Rattle.word_data.proofs.StackWords.{left}
use Rattle.code_image.specs.declared.act.StopPlace.{StopPlace}
use Rattle.code_image.specs.declared.image.CodeImage.{CodeImage}
use Rattle.code_machine.specs.declared.running.Running.{Running}
use Rattle.code_machine.specs.Kept.{Stood}
use Rattle.code_machine.specs.Seen.{words_of}
use Rattle.code_machine.specs.Stops.{Answered, RestsAt, WentOn, resting}
use Rattle.code_machine.proofs.Fitting.{head_is, same_head, same_rest}
use Rattle.code_machine.proofs.Resuming.{stood_there}
use Rattle.code_machine.proofs.StackChanges.{stack_changed}

-- the newest of some words
newest_first : (ws : List ℕ) (base h : ℕ) → 1 ≤ h → downward ws base h ≡ slice_index ws (base + (h - 1)) ∷ drop 1 (downward ws base h)
newest_first ws base zero some = absurd (omega arith)
newest_first ws base (suc k) some =
    let at : base + k ≡ base + (suc k - 1) = omega arith in ap (λ (i : ℕ). slice_index ws i ∷ downward ws base k) at

pub answered : (texts : List (List BareDef)) (image : CodeImage) (r : Running) (mid : Frames) (new : Running) (x : StopPlace) (word at height : ℕ)
    → RestsAt image.functions.items (length image.callees.items) r x → 1 ≤ (innermost r.frames).height → mid.highest_stack ≡ r.frames.highest_stack → mid.frames.items ≡ r.frames.frames.items
    → mid.words.items ≡ slice_set r.frames.words.items at word → at ≡ stack_base r.frames + ((innermost r.frames).height - 1) → height ≡ (innermost r.frames).height
    → WentOn texts image (record r { frames = mid }) new x.point x.after height → Answered texts image r new x word
answered texts image r mid new x word at height rests high wide same changed there grown w =
    let t = words_of image in
    let ws = r.frames.words.items in
    let h = (innermost r.frames).height in
    let stood : Stood image.functions.items r.frames RestsThere = stood_there image.functions.items (length image.callees.items) r x rests in
    let kept : IsKept r.frames = rests.fits.kept in
    let low_enough : (innermost r.frames).height ≤ r.frames.highest_stack = kept.low (depth_of r.frames - 1) (omega (arith, stood.some)) in
    let inside : stack_base r.frames + (innermost r.frames).height < length r.frames.words.items =
    omega (arith, block_there r.frames kept stood.some, room_is, low_enough) in
    let before : (i : ℕ) → i < stack_base r.frames → slice_index mid.words.items i ≡ slice_index r.frames.words.items i =
    λ i p. ap (λ (xs : List ℕ). slice_index xs i) changed ∙ get_or-set_other ws at i word 0 (omega (arith, there)) in
    let c : StackChanged t r.frames mid = stack_changed t r.frames mid kept stood.some wide same before in
    let st : List ℕ = stack_of mid (innermost mid).height in
    let head : w.frame ≡ with_stack st c.frame = same_head w.frame (with_stack st c.frame) w.below c.below (sym w.before ∙ c.after) in
    let rest : w.below ≡ c.below = same_rest w.frame (with_stack st c.frame) w.below c.below (sym w.before ∙ c.after) in
    let base : stack_base mid ≡ stack_base r.frames = ap (λ (fs : List Frame). low_of mid.highest_stack (length fs - 1)) same ∙ ap (λ (k : ℕ). low_of k (depth_of r.frames - 1)) wide in
    let tall : height ≡ suc ((innermost r.frames).height - 1) = omega (arith, grown, high) in
    let stack : stack_of mid height ≡ word ∷ drop 1 (downward r.frames.words.items (stack_base r.frames) (innermost r.frames).height) =
    ap (λ (b : ℕ). downward mid.words.items b height) base
    ∙ ap (λ (xs : List ℕ). downward xs (stack_base r.frames) height) changed
    ∙ left ws (stack_base r.frames) h 1 word at height high inside there tall in
    let g : GoesOn texts (with_stack st c.frame) x.after (word ∷ drop 1 (downward r.frames.words.items (stack_base r.frames) (innermost r.frames).height)) x.point w.next =
    subst (λ (ys : List ℕ). GoesOn texts (with_stack st c.frame) x.after ys x.point w.next) stack
    (subst (λ (f : CodeFrame). GoesOn texts f x.after (stack_of mid height) x.point w.next) head w.goes) in
    record {
      frame = c.frame;
      next = w.next;
      below = c.below;
      newest = slice_index ws (stack_base r.frames + (h - 1));
      under = drop 1 (downward ws (stack_base r.frames) h);
      before = c.before;
      stack = ap (λ (f : CodeFrame). f.state.stack) (head_is t r.frames c.frame c.below stood.some c.before) ∙ newest_first ws (stack_base r.frames) h high;
      after = w.after ∙ ap (resting r w.next) rest;
      goes = record { function = g.function; version = g.version; stood = g.stood; runs = g.runs; ends = g.ends };
    }
