-- A frame whose private instructions are left for later, and one that executes them.
use Rattle.std.proofs.Common.{◌≡◌, ℕ, zero, suc, ◌-◌, ◌<◌, true, Bool, List, ◌∷◌, length, Some, refl, sym, subst, ap, ◌∙◌, arith}
use Rattle.std.specs.Prelude.{slice_get}
use Rattle.c_tree.specs.BareExpr.{Bytes}
use Rattle.c_tree.specs.BareDef.{BareDef}
use Rattle.resolved_tree.specs.Nodes.{Table}
use Rattle.bytecode.specs.Instructions.{Instruction}
use Rattle.bytecode.specs.Meaning.{Runs, State}
use Rattle.bytecode.specs.Seen.{code_of}
use Rattle.code_kinds.specs.WellFormed.{most_variables}
use Rattle.thread_state.specs.declared.steps.End.{End}
use Rattle.thread_state.specs.Frames.{downward}
use Rattle.thread_state.specs.Heights.{HasHeight}
use Rattle.thread_state.proofs.FrameWords.{length-upward}
use Rattle.settled_code.specs.Laws.{Settles}
use Rattle.settled_code.specs.Settled.{settled_state}
use Rattle.settled_code.proofs.Settling.{bursts_settle, sound_settles}
use Rattle.code_runs.specs.CodeThreads.{CodeFrame, Live as LiveSlot}
use Rattle.code_runs.specs.CodeMoves.{Ends, GoesOn, frame_code}
use Rattle.word_frames.specs.declared.frame.Frame.{Frame}
use Rattle.word_frames.specs.declared.frames.Frames.{Frames}
use Rattle.word_frames.specs.Blocks.{base_of}
use Rattle.word_frames.specs.Changes.{put_at, with_innermost}
use Rattle.word_frames.specs.Changes as change
use Rattle.word_frames.specs.Seen.{IsKept, depth_of, frames_of, innermost, stack_of}
use Rattle.word_frames.proofs.FrameCalls.{ends_so}
use Rattle.word_frames.proofs.FrameLists.{room_is}
use Rattle.code_image.specs.declared.function.CodeFunction.{CodeFunction}
use Rattle.code_image.specs.declared.image.CodeImage.{CodeImage}
use Rattle.code_image.specs.Stacks.{AreNeverHigher}
use Rattle.code_machine.specs.declared.running.Next.{Next}
use Rattle.code_machine.specs.declared.running.Next.TheVariants.{Continues, Enters, Stands}
use Rattle.code_machine.specs.declared.running.Running.{Running}
use Rattle.code_machine.specs.declared.running.Stand.{Stand}
use Rattle.code_machine.specs.declared.running.Stand.TheVariants.{Free, Live, Over}
use Rattle.code_machine.specs.Kept.{Fits, HasHeightAt, IsFrame, Owes, Wait}
use Rattle.code_machine.specs.Seen.{code_at, code_there, settled_first, settled_frame, slot_by, slot_of, standing_with, thread_by, thread_of, words_of}
use Rattle.code_machine.specs.Stops.{CanGoOn, Executed, WentOn, resting}
use Rattle.code_machine.specs.Versions.{RunsCode, texts_by}
use Rattle.code_machine.proofs.Fitting.{are_frames, depth_is, frame_moved, head_is, innermost_is, moved, wait_still}
use Rattle.code_machine.proofs.Going.{code_is}
use Rattle.code_machine.proofs.Lists.{some}

-- ---- work is left

continues_not : (n count : ℕ) → Continues ≡ Enters n count → ⊥
continues_not n count e = cc

continues_so : (end : End) → Continues ≡ Stands end → ⊥
continues_so end e = cc

-- a thread whose innermost frame is to go on elsewhere is kept
pub fits_off : (functions : List CodeFunction) (callees : ℕ) (old : Running) (new : Frames) (point place height : ℕ) → CanGoOn functions old place height
    → old.leaves_work ≡ true → new.frames.items ≡ with_innermost old.frames (moved (innermost old.frames) point place height)
    → new.highest_stack ≡ old.frames.highest_stack → IsKept new → Fits functions callees (record old { frames = new; next = Continues })
fits_off functions callees old new point place height can leaves frames same kept =
    let f : Frame = moved (innermost old.frames) point place height in
    let last : ◌≡◌ {A = Frame} (innermost new) f = innermost_is functions old.frames new f can.some frames in
    let deep : depth_of new ≡ depth_of old.frames = depth_is functions old.frames new f can.some frames in
    let below : depth_of old.frames - 1 ≡ depth_of new - 1 = ap (λ (n : ℕ). n - 1) (sym deep) in
    record {
      kept = kept;
      serial = can.serial;
      frames = are_frames functions old.frames new f can.some frames (frame_moved functions (innermost old.frames) point place height (can.frames (depth_of old.frames - 1) (omega (arith, can.some)))) can.frames;
      due = λ n count e. absurd (continues_not n count e);
      owes = λ e. record {
        some = omega (arith, deep, can.some);
        height = subst (λ (q : Frame). HasHeightAt functions q q.place q.height) (sym last) can.high;
        wait = subst (Wait functions new) below (wait_still functions old.frames new f can.some frames can.wait);
      };
      leaves = λ e. leaves;
      stood = λ end e. absurd (continues_so end e);
      stacks = subst (λ (k : ℕ). AreNeverHigher k functions) (sym same) can.stacks;
    }

pub length-downward : (ws : List ℕ) (from n : ℕ) → length (downward ws from n) ≡ n
length-downward ws from zero = refl
length-downward ws from (suc n) = ap suc (length-downward ws from n)

-- the function of the innermost frame is there
pub function_there : (functions : List CodeFunction) (r : Running) (place height : ℕ) → CanGoOn functions r place height
    → (g : CodeFunction) × (slice_get functions (innermost r.frames).unit ≡ Some g)
function_there functions r place height can =
    let here : IsFrame functions (innermost r.frames) = can.frames (depth_of r.frames - 1) (omega (arith, can.some)) in
    some functions (innermost r.frames).unit here.inside

-- the code of a function is found by its number
pub code_found : (image : CodeImage) (unit : ℕ) (g : CodeFunction) → slice_get image.functions.items unit ≡ Some g
    → code_at image unit ≡ code_of (words_of image) g.verified.body.code.items
code_found image unit g found = ap (code_there (words_of image)) found

-- and it is seen as having gone on
pub went_off : (all_texts : List (List BareDef)) (versions : List ℕ) (image : CodeImage) (g : CodeFunction) (old : Running) (new : Frames) (point place height : ℕ)
    → RunsCode all_texts versions image old → CanGoOn image.functions.items old place height
    → slice_get image.functions.items (innermost old.frames).unit ≡ Some g
    → new.frames.items ≡ with_innermost old.frames (moved (innermost old.frames) point place height)
    → change.PutOff (words_of image) old.frames new point place height
    → WentOn (texts_by all_texts versions) image old (record old { frames = new; next = Continues }) point place height
went_off all_texts versions image g old new point place height code can found frames w =
    let t : Table = words_of image in
    let texts : List (List BareDef) = texts_by all_texts versions in
    let c : List Instruction = code_of t g.verified.body.code.items in
    let last : ◌≡◌ {A = Frame} (innermost new) (moved (innermost old.frames) point place height) =
    innermost_is image.functions.items old.frames new (moved (innermost old.frames) point place height) can.some frames in
    let own : code_at image (innermost new).unit ≡ c =
    ap (λ (f : Frame). code_at image f.unit) last ∙ code_found image (innermost old.frames).unit g found in
    let s : State = record { place = place; stack = stack_of old.frames height; locals = w.frame.state.locals } in
    let locals : length w.frame.state.locals ≡ most_variables =
    ap (λ (f : CodeFrame). length f.state.locals) (head_is t old.frames w.frame w.below can.some w.before)
    ∙ length-upward old.frames.words.items (base_of old.frames.highest_stack (depth_of old.frames - 1)) _ ∙ room_is in
    let tall : length (stack_of old.frames height) ≡ height = length-downward old.frames.words.items _ height in
    let settles : Settles c most_variables g.verified.heights.items s =
    sound_settles c most_variables g.verified.heights.items s (record {
      sound = g.fits.sound t;
      height = subst (HasHeight g.verified.heights.items place) (sym tall) (can.high g found);
      locals = locals;
    }) in
    let is : frame_code texts w.frame ≡ c =
    code_is all_texts versions image old g w.frame w.below code can.some found w.before (can.frames (depth_of old.frames - 1) (omega (arith, can.some))) in
    let goes : GoesOn texts w.frame place (stack_of old.frames height) point (settled_frame c (put_at point place (stack_of old.frames height) w.frame)) =
    record {
      function = refl;
      version = refl;
      stood = refl;
      runs = subst (λ (d : List Instruction). Runs d s (settled_state c s)) (sym is) settles.bursts.runs;
      ends = subst (λ (d : List Instruction). Ends d (settled_state c s)) (sym is) (ends_so c (settled_state c s) settles.end settles.bursts.ends);
    } in
    record {
      frame = w.frame;
      next = settled_frame (code_at image (innermost new).unit) (put_at point place (stack_of old.frames height) w.frame);
      below = w.below;
      before = w.before;
      after = ap (λ (fs : List CodeFrame). standing_with old (settled_first (code_at image (innermost new).unit) fs)) w.after;
      goes = subst (λ (d : List Instruction). GoesOn texts w.frame place (stack_of old.frames height) point (settled_frame d (put_at point place (stack_of old.frames height) w.frame))) (sym own) goes;
    }

-- whether a thread leaves work isn't seen
leaving : (image : CodeImage) (r : Running) (b : Bool) (n : Next) → thread_by image (record r { leaves_work = b }) n ≡ thread_by image r n
leaving image r b (Enters n count) = refl
leaving image r b Continues = refl
leaving image r b (Stands end) = refl

slot_leaving : (image : CodeImage) (r : Running) (b : Bool) (s : Stand) → slot_by image (record r { leaves_work = b }) s ≡ slot_by image r s
slot_leaving image r b Free = refl
slot_leaving image r b Live = ap LiveSlot (leaving image r b r.next)
slot_leaving image r b (Over word) = refl

pub seen_leaving : (image : CodeImage) (r : Running) (b : Bool) → slot_of image (record r { leaves_work = b }) ≡ slot_of image r
seen_leaving image r b = slot_leaving image r b r.stand

pub fits_leaving : (functions : List CodeFunction) (callees : ℕ) (r : Running) (b : Bool) → (r.next ≡ Continues → b ≡ true) → Fits functions callees r
    → Fits functions callees (record r { leaves_work = b })
fits_leaving functions callees r b leaves fits =
    record { kept = fits.kept; serial = fits.serial; frames = fits.frames; due = fits.due; owes = fits.owes; leaves = leaves; stood = fits.stood; stacks = fits.stacks }

-- ---- work is done

-- a thread that has private work to do can go on where it is
pub can_execute : (functions : List CodeFunction) (callees : ℕ) (r : Running) → Fits functions callees r → r.next ≡ Continues
    → CanGoOn functions r (innermost r.frames).place (innermost r.frames).height
can_execute functions callees r fits due =
    let o : Owes functions r.frames = fits.owes due in
    record {
      kept = fits.kept;
      serial = fits.serial;
      frames = fits.frames;
      some = o.some;
      high = o.height;
      wait = o.wait;
      stacks = fits.stacks;
    }

-- frames with the same parts
same_frame : (a b : CodeFrame) → a.function ≡ b.function → a.version ≡ b.version → a.standing ≡ b.standing → a.state ≡ b.state → a ≡ b
same_frame a b function version standing state =
    ap (λ (x : Bytes). record { function = x; version = a.version; standing = a.standing; state = a.state }) function
    ∙ ap (λ (x : ℕ). record { function = b.function; version = x; standing = a.standing; state = a.state }) version
    ∙ ap (λ (x : ℕ). record { function = b.function; version = b.version; standing = x; state = a.state }) standing
    ∙ ap (λ (x : State). record { function = b.function; version = b.version; standing = b.standing; state = x }) state

-- the slot of a thread whose innermost frame comes to the state in which its private instructions end
pub seen_settled : (image : CodeImage) (old : Running) (new : Frames) (next : Next) (g : CodeFunction) (before after : CodeFrame) (below : List CodeFrame)
    → old.next ≡ Continues → slice_get image.functions.items (innermost old.frames).unit ≡ Some g
    → frames_of (words_of image) old.frames ≡ before ∷ below
    → thread_by image (record old { frames = new; next = next }) next ≡ resting old after below
    → after ≡ settled_frame (code_of (words_of image) g.verified.body.code.items) before
    → slot_of image (record old { frames = new; next = next }) ≡ slot_of image old
seen_settled image old new next g before after below due found frames thread is = by old.stand
  where
    settled : thread_of image old ≡ resting old after below
    settled =
        ap (thread_by image old) due
        ∙ ap (λ (c : List Instruction). standing_with old (settled_first c (frames_of (words_of image) old.frames))) (code_found image (innermost old.frames).unit g found)
        ∙ ap (λ (fs : List CodeFrame). standing_with old (settled_first (code_of (words_of image) g.verified.body.code.items) fs)) frames
        ∙ ap (λ (f : CodeFrame). resting old f below) (sym is)

    by : (s : Stand) → slot_by image (record old { frames = new; next = next }) s ≡ slot_by image old s
    by Free = refl
    by Live = ap LiveSlot (thread ∙ sym settled)
    by (Over word) = refl

-- so where it executed its private instructions
seen_executed : (image : CodeImage) (old : Running) (new : Frames) (g : CodeFunction) (end : End) → old.next ≡ Continues → 0 < depth_of old.frames
    → slice_get image.functions.items (innermost old.frames).unit ≡ Some g
    → change.WentOn (words_of image) g.verified.body.code.items old.frames new (innermost old.frames).point (innermost old.frames).place (innermost old.frames).height end
    → slot_of image (record old { frames = new; next = Stands end }) ≡ slot_of image old
seen_executed image old new g end due some found w =
    let t : Table = words_of image in
    let c : List Instruction = code_of t g.verified.body.code.items in
    let f : Frame = innermost old.frames in
    let head = head_is t old.frames w.frame w.below some w.before in
    let from : State = record { place = f.place; stack = stack_of old.frames f.height; locals = w.frame.state.locals } in
    let here : w.frame.state ≡ from =
    ap (λ (x : CodeFrame). record { place = x.state.place; stack = x.state.stack; locals = w.frame.state.locals }) head in
    let state : w.next.state ≡ settled_state c w.frame.state =
    sym (bursts_settle c from w.next.state end w.bursts) ∙ ap (settled_state c) (sym here) in
    let standing : w.next.standing ≡ w.frame.standing = w.standing ∙ sym (ap (λ (x : CodeFrame). x.standing) head) in
    seen_settled image old new (Stands end) g w.frame w.next w.below due found w.before (ap (standing_with old) w.after)
    (same_frame w.next (settled_frame c w.frame) w.function w.version standing state)

pub seen_due : (image : CodeImage) (old new : Running) → old.next ≡ Continues → 0 < depth_of old.frames
    → Executed image old new (innermost old.frames).point (innermost old.frames).place (innermost old.frames).height → slot_of image new ≡ slot_of image old
seen_due image old new due some e =
    subst (λ (r : Running). slot_of image r ≡ slot_of image old) (sym e.is) (seen_executed image old new.frames e.function e.end due some e.there e.goes)
