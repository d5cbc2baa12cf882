-- A thread goes on after a stop.
use Rattle.std.proofs.Common.{◌≡◌, ℕ, suc, ◌+◌, ◌-◌, ◌<◌, ◌≤◌, List, length, false, Some, refl, sym, subst, ap, ◌∙◌, arith}
use Rattle.std.specs.Prelude.{slice_get, slice_index_or}
use Rattle.c_tree.specs.BareDef.{BareDef}
use Rattle.thread_state.specs.declared.steps.End.TheVariants.{Rests as RestsThere}
use Rattle.thread_state.specs.Heights.{HasHeight}
use Rattle.code_runs.specs.CodeData.{Data}
use Rattle.code_runs.specs.CodeThreads.{CodeFrame, CodeSlot, CodeThread, CodeWorld, Live}
use Rattle.code_runs.specs.CodeMoves.{GoesOn, going, with_thread}
use Rattle.word_frames.specs.declared.frame.Frame.{Frame}
use Rattle.word_frames.specs.declared.frames.Frames.{Frames}
use Rattle.word_frames.specs.Seen.{IsKept, depth_of, innermost, no_frame, stack_of}
use Rattle.code_image.specs.declared.act.StopPlace.{StopPlace}
use Rattle.code_image.specs.declared.function.CodeFunction.{CodeFunction}
use Rattle.code_image.specs.declared.image.CodeImage.{CodeImage}
use Rattle.code_image.specs.Stacks.{AreNeverHigher}
use Rattle.code_image.specs.StopHeights.{StopFits, act_leaves, act_takes, returns}
use Rattle.code_machine.specs.declared.running.Next.{Next}
use Rattle.code_machine.specs.declared.running.Next.TheVariants.{Continues, Enters, Stands}
use Rattle.code_machine.specs.declared.running.Stand.{Stand}
use Rattle.code_machine.specs.declared.running.Stand.TheVariants.{Live as LiveStand}
use Rattle.code_machine.specs.declared.running.Running.{Running}
use Rattle.code_machine.specs.declared.stops.Outcome.TheVariants.{Goes}
use Rattle.code_machine.specs.Kept.{Fits, HasHeightAt, IsFrame, Stood}
use Rattle.code_machine.specs.Seen.{slot_by, slot_of, thread_by, thread_of, words_of}
use Rattle.code_machine.specs.Stops.{CanGoOn, RestsAt, Resumed, WentOn, settled}
use Rattle.code_machine.proofs.Lists.{some}
use Rattle.code_machine.proofs.Fitting.{head_is}

module _ (functions : List CodeFunction) (callees : ℕ) (r : Running) (x : StopPlace) (rests : RestsAt functions callees r x) where
  pub stood_there : Stood functions r.frames RestsThere
  stood_there = rests.fits.stood RestsThere rests.next

  pub frame_there : IsFrame functions (innermost r.frames)
  frame_there = rests.fits.frames (depth_of r.frames - 1) (omega (arith, stood_there.some))

  stop_fits : (g : CodeFunction) → slice_get functions (innermost r.frames).unit ≡ Some g → StopFits g.verified.heights.items (innermost r.frames).place x
  stop_fits g found = g.fits.stops_fit (innermost r.frames).place x (rests.there g found)

  -- the stack has the words that the stop takes
  pub words_there : act_takes x.act ≤ (innermost r.frames).height
  words_there =
      let found : (g : CodeFunction) × (slice_get functions (innermost r.frames).unit ≡ Some g) = some functions (innermost r.frames).unit frame_there.inside in
      (stop_fits found.0 found.1).takes (innermost r.frames).height (stood_there.height found.0 found.1)

  -- where it goes on the height is that of what the stop leaves
  pub height_after : (h : ℕ) → returns x.act ≡ false → h ≡ (innermost r.frames).height - act_takes x.act + act_leaves x.act
      → HasHeightAt functions (innermost r.frames) x.after h
  height_after h goes is = λ g found.
      subst (HasHeight g.verified.heights.items x.after) (sym is) ((stop_fits g found).leads (innermost r.frames).height (stood_there.height g found) goes)

  -- so it can go on, also where words of its stack changed
  pub can_resume : (mid : Frames) (h : ℕ) → IsKept mid → mid.highest_stack ≡ r.frames.highest_stack → mid.frames.items ≡ r.frames.frames.items
      → returns x.act ≡ false → h ≡ (innermost r.frames).height - act_takes x.act + act_leaves x.act → CanGoOn functions (record r { frames = mid }) x.after h
  can_resume mid h kept high same goes is = record {
    kept = kept;
    serial = rests.fits.serial;
    frames = subst (λ (fs : List Frame). (n : ℕ) → n < length fs → IsFrame functions (slice_index_or fs n no_frame)) (sym same) rests.fits.frames;
    some = subst (λ (fs : List Frame). 0 < length fs) (sym same) stood_there.some;
    high = subst (λ (fs : List Frame). HasHeightAt functions (slice_index_or fs (length fs - 1) no_frame) x.after h) (sym same) (height_after h goes is);
    wait =
        subst (λ (fs : List Frame). (n : ℕ) → n < length fs - 1
        → HasHeightAt functions (slice_index_or fs n no_frame) (slice_index_or fs n no_frame).place (suc (slice_index_or fs n no_frame).height)) (sym same) stood_there.wait;
    stacks = subst (λ (k : ℕ). AreNeverHigher k functions) (sym high) rests.fits.stacks;
  }

-- it went on with the stack that it had
pub resumed : (texts : List (List BareDef)) (image : CodeImage) (r new : Running) (x : StopPlace)
    → RestsAt image.functions.items (length image.callees.items) r x
    → WentOn texts image r new x.point x.after (innermost r.frames).height → Resumed texts image r new x
resumed texts image r new x rests w =
    let stood : Stood image.functions.items r.frames RestsThere = stood_there image.functions.items (length image.callees.items) r x rests in
    let stack : w.frame.state.stack ≡ stack_of r.frames (innermost r.frames).height = ap (λ (f : CodeFrame). f.state.stack) (head_is (words_of image) r.frames w.frame w.below stood.some w.before) in
    record {
      frame = w.frame;
      next = w.next;
      below = w.below;
      before = w.before;
      after = w.after;
      goes = subst (λ (st : List ℕ). GoesOn texts w.frame x.after st x.point w.next) (sym stack) w.goes;
    }

-- a thread in another number of transactions
with_depth : (image : CodeImage) (r : Running) (k : ℕ) (n : Next) → thread_by image (record r { depth = k }) n ≡ record (thread_by image r n) { depth = k }
with_depth image r k (Enters n count) = refl
with_depth image r k Continues = refl
with_depth image r k (Stands end) = refl

pub depth_set : (image : CodeImage) (r : Running) (k : ℕ) → thread_of image (record r { depth = k }) ≡ record (thread_of image r) { depth = k }
depth_set image r k = with_depth image r k r.next

pub fits_deeper : (functions : List CodeFunction) (callees : ℕ) (r : Running) (k : ℕ) → Fits functions callees r → Fits functions callees (record r { depth = k })
fits_deeper functions callees r k fits = record { kept = fits.kept; serial = fits.serial; frames = fits.frames; due = fits.due; owes = fits.owes; leaves = fits.leaves; stood = fits.stood; stacks = fits.stacks }

pub fits_standing : (functions : List CodeFunction) (callees : ℕ) (r : Running) (stand : Stand) → Fits functions callees r → Fits functions callees (record r { stand = stand })
fits_standing functions callees r stand fits = record { kept = fits.kept; serial = fits.serial; frames = fits.frames; due = fits.due; owes = fits.owes; leaves = fits.leaves; stood = fits.stood; stacks = fits.stacks }

-- the world in which a thread goes on
pub continues : (image : CodeImage) (new : Running) (slot : ℕ) (d : Data) (w : CodeWorld) (th : CodeThread) (next : CodeFrame) → new.stand ≡ LiveStand
    → thread_of image new ≡ going th next → settled Goes slot (slot_of image new) d w ≡ with_thread slot (going th next) (record w { shared = d })
continues image new slot d w th next stand thread =
    ap (λ (s : CodeSlot). settled Goes slot s d w) (ap (slot_by image new) stand ∙ ap Live thread)
