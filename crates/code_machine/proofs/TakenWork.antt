-- Private work that is done on a copy is that of the frame whose words were copied.
use Rattle.std.proofs.Common.{◌≡◌, ℕ, ◌-◌, ◌<◌, ◌≤◌, List, [], ◌∷◌, length, Option, Some, None, refl, sym, subst, ap, ◌∙◌, arith}
use Rattle.std.specs.Prelude.{option_map, slice_get}
use Rattle.std.proofs.lemmas.Option.{slice_get-map}
use Rattle.c_tree.specs.BareExpr.{Bytes}
use Rattle.c_tree.specs.BareDef.{BareDef}
use Rattle.resolved_tree.specs.Nodes.{Table, word}
use Rattle.bytecode.specs.declared.instr.Instr.{Instr}
use Rattle.bytecode.specs.declared.instr.Instr.TheVariants as instr
use Rattle.bytecode.specs.Instructions.{Instruction}
use Rattle.bytecode.specs.Meaning.{State, perform, perform_if, step}
use Rattle.bytecode.specs.Seen.{code_of, instruction_of}
use Rattle.code_kinds.specs.WellFormed.{most_variables}
use Rattle.thread_state.specs.declared.steps.End.{End}
use Rattle.thread_state.specs.Bursts.{Bursts}
use Rattle.thread_state.specs.Frames.{state_at}
use Rattle.thread_state.specs.Heights.{HasHeight}
use Rattle.thread_state.proofs.FrameWords.{length-upward}
use Rattle.settled_code.specs.Laws.{IsAt, Settles}
use Rattle.settled_code.specs.Settled.{settled_state}
use Rattle.settled_code.proofs.Settling.{bursts_settle, sound_settles}
use Rattle.code_runs.specs.CodeThreads.{CodeFrame}
use Rattle.code_runs.specs.CodeMoves.{code_in}
use Rattle.word_frames.specs.declared.frame.Frame.{Frame}
use Rattle.word_frames.specs.declared.frames.Frames.{Frames}
use Rattle.word_frames.specs.Blocks.{room}
use Rattle.word_frames.specs.Changes.{with_innermost}
use Rattle.word_frames.specs.Changes as change
use Rattle.word_frames.specs.Seen.{IsKept, depth_of, innermost, innermost_state}
use Rattle.word_frames.proofs.FrameLists.{room_is}
use Rattle.code_image.specs.declared.function.CodeFunction.{CodeFunction}
use Rattle.code_image.specs.declared.image.CodeImage.{CodeImage}
use Rattle.code_image.specs.Images.{IsFunctionOf, code_in_image}
use Rattle.code_image.specs.Stacks.{AreNeverHigher}
use Rattle.code_machine.specs.declared.running.Next.TheVariants.{Continues, Stands}
use Rattle.code_machine.specs.declared.running.Running.{Running}
use Rattle.code_machine.specs.declared.work.Start.{Start}
use Rattle.code_machine.specs.declared.work.Work.{Work}
use Rattle.code_machine.specs.Copies.{IsNamesake, IsSameCode, IsWorkOf, work_image}
use Rattle.code_machine.specs.Done.{IsDone}
use Rattle.code_machine.specs.Kept.{FitsImage, Stood, Wait, end_of}
use Rattle.code_machine.specs.Seen.{slot_of, standing_with, words_of}
use Rattle.code_machine.proofs.Fitting.{are_frames, depth_is, end_is, frame_moved, head_is, innermost_is, moved, same_head, wait_still}
use Rattle.code_machine.proofs.Going.{same_end, stands_and_continues, stands_not}
use Rattle.code_machine.proofs.Lists.{all, one}
use Rattle.code_machine.proofs.PrivateWork.{length-downward, seen_settled}

-- ---- what was executed

pub is_done : (image : CodeImage) (from : Start) (before after : List ℕ) (g : CodeFunction) (end : End) (place height : ℕ)
    → from.unit < length image.functions.items → slice_get image.functions.items from.unit ≡ Some g
    → Bursts (code_of (words_of image) g.verified.body.code.items) (state_at before 0 most_variables from.place from.height) end (state_at after 0 most_variables place height)
    → IsDone image from before end place height after
is_done image from before after g end place height inside found bursts =
    let t : Table = words_of image in
    let s : State = state_at before 0 most_variables from.place from.height in
    let u : State = state_at after 0 most_variables place height in
    record {
      inside = inside;
      comes = λ k there.
          subst (λ (h : CodeFunction). settled_state (code_in_image t h) s ≡ u) (one (slice_get image.functions.items from.unit) g k found there)
          (bursts_settle (code_of t g.verified.body.code.items) s u end bursts);
      ends = λ k there.
          subst (λ (h : CodeFunction). end_of (step (code_in_image t h) u) ≡ Some end) (one (slice_get image.functions.items from.unit) g k found there)
          (ap end_of bursts.ends ∙ end_is end);
    }

-- ---- code with other names

same_perform : (t u : Table) (i : Instr) (s : State) → perform (instruction_of t i) s ≡ perform (instruction_of u i) s
same_perform t u (instr.Constant kind w) s = refl
same_perform t u (instr.Load n) s = refl
same_perform t u (instr.Store n) s = refl
same_perform t u instr.Copy s = refl
same_perform t u instr.CopyUnder s = refl
same_perform t u instr.Swap s = refl
same_perform t u instr.Drop s = refl
same_perform t u (instr.Convert kind) s = refl
same_perform t u (instr.Unary op kind) s = refl
same_perform t u (instr.Binary op kind) s = refl
same_perform t u instr.IsZero s = refl
same_perform t u instr.IsNotZero s = refl
same_perform t u instr.Same s = refl
same_perform t u instr.Different s = refl
same_perform t u (instr.Jump d) s = refl
same_perform t u (instr.JumpIfZero d) s = refl
same_perform t u (instr.JumpUnlessZero d) s = refl
same_perform t u (instr.Halt stop n) s = refl
same_perform t u (instr.Back d n v) s = refl
same_perform t u (instr.CheckIn kind n) s = refl

same_perform_if : (t u : Table) (o : Option Instr) (s : State)
    → perform_if (option_map (instruction_of t) o) s ≡ perform_if (option_map (instruction_of u) o) s
same_perform_if t u None s = refl
same_perform_if t u (Some i) s = same_perform t u i s

-- an instruction does the same whatever the names are
same_step : (t u : Table) (code : List Instr) (s : State) → step (code_of t code) s ≡ step (code_of u code) s
same_step t u code s =
    ap (λ (o : Option Instruction). perform_if o s) (slice_get-map (instruction_of t) code s.place)
    ∙ same_perform_if t u (slice_get code s.place) s
    ∙ sym (ap (λ (o : Option Instruction). perform_if o s) (slice_get-map (instruction_of u) code s.place))

-- functions with the same name of the same text have the same code
pub same_code : (a b : CodeImage) (m n : ℕ) → IsSameCode b a → (is : IsNamesake a m b n)
    → code_in_image (words_of a) is.first ≡ code_in_image (words_of b) is.second
same_code a b m n same is =
    let f : IsFunctionOf (words_of a) same.texts a.callees.items is.first =
    all (IsFunctionOf (words_of a) same.texts a.callees.items) a.functions.items m is.first same.second.functions is.there in
    let g : IsFunctionOf (words_of b) same.texts b.callees.items is.second =
    all (IsFunctionOf (words_of b) same.texts b.callees.items) b.functions.items n is.second same.first.functions is.here in
    let text : f.text ≡ g.text =
    one (slice_get same.texts is.first.text) f.text g.text f.own (ap (slice_get same.texts) is.text ∙ g.own) in
    f.code ∙ ap (λ (x : List BareDef). code_in (x ∷ []) 1 (word (words_of a) is.first.name)) text
    ∙ ap (λ (x : Bytes). code_in (g.text ∷ []) 1 x) is.name ∙ sym g.code

-- ---- a frame is brought on by what was done

module _ (image : CodeImage) (old : Running) (w : Work) (end : End) (fits : FitsImage image old) (due : old.next ≡ Continues)
    (same : IsSameCode image (work_image w)) (is : IsWorkOf image old.frames w end)
    (done : IsDone (work_image w) w.from w.before.items end w.place w.height w.after.items) where
  abbrev t : Table
  t = words_of image

  abbrev g : CodeFunction
  g = is.function.second

  abbrev code : List Instruction
  code = code_of (words_of image) is.function.second.verified.body.code.items

  abbrev to : State
  to = state_at w.after.items 0 room w.place w.height

  abbrev from_state : State
  from_state = innermost_state old.frames (innermost old.frames).place (innermost old.frames).height

  some_frame : 0 < depth_of old.frames
  some_frame = (fits.owes due).some

  found : slice_get image.functions.items (innermost old.frames).unit ≡ Some is.function.second
  found = is.function.here

  -- its code is the one that was executed
  own : code ≡ code_in_image (words_of (work_image w)) is.function.first
  own = sym (same_code (work_image w) image w.from.unit (innermost old.frames).unit same is.function)

  to_is : to ≡ state_at w.after.items 0 most_variables w.place w.height
  to_is = ap (λ (n : ℕ). state_at w.after.items 0 n w.place w.height) room_is

  -- where its private instructions come to
  comes_there : settled_state code from_state ≡ to
  comes_there =
      ap (settled_state code)
      (sym (is.words (innermost old.frames).place)
      ∙ ap (λ (n : ℕ). state_at w.before.items 0 n (innermost old.frames).place (innermost old.frames).height) room_is
      ∙ ap (λ (p : ℕ). state_at w.before.items 0 most_variables p (innermost old.frames).height) (sym is.place)
      ∙ ap (λ (h : ℕ). state_at w.before.items 0 most_variables w.from.place h) (sym is.height))
      ∙ ap (λ (c : List Instruction). settled_state c (state_at w.before.items 0 most_variables w.from.place w.from.height)) own
      ∙ done.comes is.function.first is.function.there
      ∙ sym to_is

  -- and how they end there, whatever the names are
  ends_there : (u : Table) → end_of (step (code_of u is.function.second.verified.body.code.items) to) ≡ Some end
  ends_there u =
      ap end_of (same_step u (words_of image) is.function.second.verified.body.code.items to)
      ∙ ap (λ (c : List Instruction). end_of (step c to)) own
      ∙ ap (λ (s : State). end_of (step (code_in_image (words_of (work_image w)) is.function.first) s)) to_is
      ∙ done.ends is.function.first is.function.there

  -- the stack has the height of that place
  pub height_there : HasHeight is.function.second.verified.heights.items w.place w.height
  height_there =
      let hs = is.function.second.verified.heights.items in
      let tall : length from_state.stack ≡ (innermost old.frames).height = length-downward old.frames.words.items _ (innermost old.frames).height in
      let settles : Settles code most_variables is.function.second.verified.heights.items from_state =
      sound_settles code most_variables hs from_state (record {
        sound = is.function.second.fits.sound (words_of image);
        height = subst (HasHeight hs (innermost old.frames).place) (sym tall) ((fits.owes due).height is.function.second found);
        locals = length-upward old.frames.words.items _ room ∙ room_is;
      }) in
      let there : IsAt code most_variables is.function.second.verified.heights.items to =
      subst (IsAt code most_variables hs) comes_there settles.there in
      subst (HasHeight hs w.place) (length-downward w.after.items _ w.height) there.height

  pub low_there : w.height ≤ old.frames.highest_stack
  low_there = fits.stacks (innermost old.frames).unit is.function.second found w.place w.height height_there

  module _ (new : Frames) (kept : IsKept new) (high : new.highest_stack ≡ old.frames.highest_stack)
      (frames : new.frames.items ≡ with_innermost old.frames (moved (innermost old.frames) (innermost old.frames).point w.place w.height))
      (set : (u : Table) → change.StateSet u old.frames new to) where
    abbrev last : Frame
    last = moved (innermost old.frames) (innermost old.frames).point w.place w.height

    innermost_now : ◌≡◌ {A = Frame} (innermost new) last
    innermost_now = innermost_is image.functions.items old.frames new last some_frame frames

    one_function : (k : CodeFunction) → slice_get image.functions.items (innermost new).unit ≡ Some k → is.function.second ≡ k
    one_function k there =
        one (slice_get image.functions.items (innermost old.frames).unit) is.function.second k found
        (sym (ap (λ (f : Frame). slice_get image.functions.items f.unit) innermost_now) ∙ there)

    stood_back : Stood image.functions.items new end
    stood_back =
        let deep : depth_of new ≡ depth_of old.frames = depth_is image.functions.items old.frames new last some_frame frames in
        let below : depth_of old.frames - 1 ≡ depth_of new - 1 = ap (λ (n : ℕ). n - 1) (sym deep) in
        record {
          some = omega (arith, deep, some_frame);
          height = λ k there.
              subst (λ (h : CodeFunction). HasHeight h.verified.heights.items (innermost new).place (innermost new).height) (one_function k there)
              (subst (λ (f : Frame). HasHeight is.function.second.verified.heights.items f.place f.height) (sym innermost_now) height_there);
          ends = λ u k f under there seen.
              let s = set u in
              let now : f ≡ record s.frame { state = to } = same_head f (record s.frame { state = to }) under s.below (sym seen ∙ s.after) in
              ap (λ (x : CodeFrame). end_of (step (code_of u k.verified.body.code.items) x.state)) now
              ∙ ap (λ (h : CodeFunction). end_of (step (code_of u h.verified.body.code.items) to)) (sym (one_function k there))
              ∙ ends_there u;
          wait = subst (Wait image.functions.items new) below (wait_still image.functions.items old.frames new last some_frame frames (fits.owes due).wait);
        }

    pub fits_back : FitsImage image (record old { frames = new; next = Stands end })
    fits_back = record {
      kept = kept;
      serial = fits.serial;
      frames = are_frames image.functions.items old.frames new last some_frame frames (frame_moved image.functions.items (innermost old.frames) (innermost old.frames).point w.place w.height (fits.frames (depth_of old.frames - 1) (omega (arith, some_frame)))) fits.frames;
      due = λ n count e. absurd (stands_not end n count e);
      owes = λ e. absurd (stands_and_continues end e);
      leaves = λ e. absurd (stands_and_continues end e);
      stood = λ other e. subst (Stood image.functions.items new) (same_end end other e) stood_back;
      stacks = subst (λ (k : ℕ). AreNeverHigher k image.functions.items) (sym high) fits.stacks;
    }

    pub seen_back : slot_of image (record old { frames = new; next = Stands end }) ≡ slot_of image old
    seen_back =
        let s = set (words_of image) in
        let here : s.frame.state ≡ from_state = ap (λ (f : CodeFrame). f.state) (head_is (words_of image) old.frames s.frame s.below some_frame s.before) in
        seen_settled image old new (Stands end) is.function.second s.frame (record s.frame { state = to }) s.below due found s.before (ap (standing_with old) s.after)
        (ap (λ (x : State). record s.frame { state = x }) (sym (ap (settled_state code) here ∙ comes_there)))
