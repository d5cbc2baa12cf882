-- What is kept of a thread that calls and returns.
use Rattle.std.proofs.Common.{◌≡◌, inl, inr, ℕ, suc, ◌+◌, ◌-◌, ◌<◌, ◌≤◌, List, length, take, false, Some, sym, subst, ap, ◌∙◌, arith}
use Rattle.std.specs.Prelude.{All, slice_get, slice_index_or, slice_set}
use Rattle.std.proofs.lemmas.Bool.{cases_eq}
use Rattle.std.proofs.lemmas.List.Elements.{All-get_or, All-set, All-take}
use Rattle.c_tree.specs.BareDef.{BareDef}
use Rattle.code_kinds.specs.WellFormed.{most_variables}
use Rattle.thread_state.specs.declared.steps.End.TheVariants.{Rests as RestsThere}
use Rattle.word_frames.specs.declared.frame.Frame.{Frame}
use Rattle.word_frames.specs.declared.frames.Frames.{Frames}
use Rattle.word_frames.specs.Changes.{with_innermost}
use Rattle.word_frames.specs.Seen.{HasArguments, IsKept, depth_of, frame_at, innermost, no_frame}
use Rattle.word_frames.proofs.FrameLists.{Replaces, popped}
use Rattle.code_image.specs.declared.act.Act.TheVariants.{Call as CallAct}
use Rattle.code_image.specs.declared.act.StopPlace.{StopPlace}
use Rattle.code_image.specs.declared.function.CodeFunction.{CodeFunction}
use Rattle.code_image.specs.declared.image.CodeImage.{CodeImage}
use Rattle.code_image.specs.Stacks.{AreNeverHigher}
use Rattle.code_image.specs.StopHeights.{LeadsTo, act_leaves, act_takes, returns}
use Rattle.code_machine.specs.declared.running.Next.TheVariants.{Enters}
use Rattle.code_machine.specs.declared.running.Running.{Running}
use Rattle.code_machine.specs.Kept.{FitsImage, HasHeightAt, IsFrame, Stood, Wait}
use Rattle.code_machine.specs.Stops.{CanGoOn, RestsAt}
use Rattle.code_machine.specs.Versions.{IsOfVersion, RunsCode}
use Rattle.code_machine.proofs.Lists.{some}
use Rattle.code_machine.proofs.Fitting.{are_frames, depth_is, frame_moved, innermost_is, moved, wait_still}
use Rattle.code_machine.proofs.Resuming.{frame_there, height_after, stood_there, words_there}
use Rattle.code_machine.proofs.Starting.{first_of, not_continues, not_stands, second_of}

-- what an act leads to
pub leads_so : (image : CodeImage) (r : Running) (x : StopPlace) → RestsAt image.functions.items (length image.callees.items) r x
    → LeadsTo (length image.callees.items) x.act
leads_so image r x rests =
    let here : IsFrame image.functions.items (innermost r.frames) = frame_there image.functions.items (length image.callees.items) r x rests in
    let found : (g : CodeFunction) × (slice_get image.functions.items (innermost r.frames).unit ≡ Some g) = some image.functions.items (innermost r.frames).unit here.inside in
    image.leads (innermost r.frames).unit found.0 found.1 (innermost r.frames).place x (rests.there found.0 found.1)

-- ---- a call
module _ (image : CodeImage) (r : Running) (x : StopPlace) (n count : ℕ) (rests : RestsAt image.functions.items (length image.callees.items) r x)
    (act : x.act ≡ CallAct n count) where
  pub takes_so : count ≤ (innermost r.frames).height
  takes_so = subst (λ a. act_takes a ≤ (innermost r.frames).height) act (words_there image.functions.items (length image.callees.items) r x rests)

  pub calls_one : n < length image.callees.items
  calls_one = (subst (LeadsTo (length image.callees.items)) act (leads_so image r x rests)).within

  pub few_arguments : count ≤ most_variables
  few_arguments = (subst (LeadsTo (length image.callees.items)) act (leads_so image r x rests)).few

  pub call_fits : (mid : Frames) (version : ℕ) → mid.frames.items ≡ with_innermost r.frames (moved (innermost r.frames) x.point x.after ((innermost r.frames).height - count))
      → mid.highest_stack ≡ r.frames.highest_stack → IsKept mid → HasArguments mid count
      → FitsImage image (record r { frames = mid; next = Enters n count; version = version })
  call_fits mid version frames same kept there =
      let functions : List CodeFunction = image.functions.items in
      let callees : ℕ = length image.callees.items in
      let stood : Stood functions r.frames RestsThere = stood_there functions callees r x rests in
      let h : ℕ = (innermost r.frames).height - count in
      let f : Frame = moved (innermost r.frames) x.point x.after h in
      let deep : depth_of mid ≡ depth_of r.frames = depth_is functions r.frames mid f stood.some frames in
      let last : ◌≡◌ {A = Frame} (innermost mid) f = innermost_is functions r.frames mid f stood.some frames in
      let height : suc h ≡ (innermost r.frames).height - act_takes x.act + act_leaves x.act =
      rw act (omega arith) in
      let goes : returns x.act ≡ false = ap returns act in
      let after : HasHeightAt functions (innermost r.frames) x.after (suc h) = height_after functions callees r x rests (suc h) goes height in
      let here : HasHeightAt functions (innermost mid) (innermost mid).place (suc (innermost mid).height) =
      subst (λ (q : Frame). HasHeightAt functions q q.place (suc q.height)) (sym last) after in
      let still : Wait functions mid (depth_of r.frames - 1) = wait_still functions r.frames mid f stood.some frames stood.wait in
      let end_at : depth_of r.frames - 1 ≡ depth_of mid - 1 = ap (λ (k : ℕ). k - 1) (sym deep) in
      let all : Wait functions mid (depth_of mid) =
      λ k p. elim (cases_eq k (depth_of mid - 1)) [
        | inl same ↦ subst (λ (i : ℕ). HasHeightAt functions (frame_at mid i) (frame_at mid i).place (suc (frame_at mid i).height)) (sym same) here
        | inr differs ↦ still k (omega (arith, p, differs, deep))
      ] in
      record {
        kept = kept;
        serial = rests.fits.serial;
        frames = are_frames functions r.frames mid f stood.some frames (frame_moved functions (innermost r.frames) x.point x.after h (frame_there functions callees r x rests)) rests.fits.frames;
        due = λ m c e. record {
          inside = subst (λ (k : ℕ). k < callees) (first_of n m count c e) calls_one;
          there = subst (HasArguments mid) (second_of n m count c e) there;
          wait = all;
        };
        owes = λ e. absurd (not_continues n count e);
        leaves = λ e. absurd (not_continues n count e);
        stood = λ end e. absurd (not_stands n count end e);
        stacks = subst (λ (k : ℕ). AreNeverHigher k functions) (sym same) rests.fits.stacks;
      }

-- ---- a return to the frame that called
module _ (functions : List CodeFunction) (callees : ℕ) (r : Running) (x : StopPlace) (rests : RestsAt functions callees r x) (called : 1 < depth_of r.frames) where
  waits_so : HasHeightAt functions (frame_at r.frames (depth_of r.frames - 2)) (frame_at r.frames (depth_of r.frames - 2)).place (suc (frame_at r.frames (depth_of r.frames - 2)).height)
  waits_so = (stood_there functions callees r x rests).wait (depth_of r.frames - 2) (omega arith)

  is_caller : IsFrame functions (frame_at r.frames (depth_of r.frames - 2))
  is_caller = rests.fits.frames (depth_of r.frames - 2) (omega arith)

  -- there is room for its word
  pub room_for_it : (frame_at r.frames (depth_of r.frames - 2)).height < r.frames.highest_stack
  room_for_it =
      let found : (g : CodeFunction) × (slice_get functions (frame_at r.frames (depth_of r.frames - 2)).unit ≡ Some g) = some functions (frame_at r.frames (depth_of r.frames - 2)).unit is_caller.inside in
      let low : suc (frame_at r.frames (depth_of r.frames - 2)).height ≤ r.frames.highest_stack =
      rests.fits.stacks (frame_at r.frames (depth_of r.frames - 2)).unit found.0 found.1 (frame_at r.frames (depth_of r.frames - 2)).place (suc (frame_at r.frames (depth_of r.frames - 2)).height) (waits_so found.0 found.1) in
      omega (arith, low)

  module _ (mid : Frames) (kept : IsKept mid) (same : mid.highest_stack ≡ r.frames.highest_stack)
      (frames : (let f = frame_at r.frames (depth_of r.frames - 2) in mid.frames.items ≡ slice_set (take (depth_of r.frames - 1) r.frames.frames.items) (depth_of r.frames - 2) (record f { height = f.height + 1 }))) where
    made : Replaces r.frames.frames.items mid.frames.items (depth_of r.frames - 2)
        (record (frame_at r.frames (depth_of r.frames - 2)) { height = (frame_at r.frames (depth_of r.frames - 2)).height + 1 })
    made =
        let high : depth_of r.frames - 1 ≡ suc (depth_of r.frames - 2) = omega (arith, called) in
        let deep : suc (depth_of r.frames - 2) ≤ length r.frames.frames.items = omega (arith, called) in
        rw (frames, high) (popped r.frames.frames.items (record (frame_at r.frames (depth_of r.frames - 2)) { height = (frame_at r.frames (depth_of r.frames - 2)).height + 1 }) (depth_of r.frames - 2) deep)

    pub caller_there : 0 < depth_of mid
    caller_there = omega (arith, made.long)

    -- which goes on where it waits
    pub caller_can : CanGoOn functions (record r { frames = mid }) (innermost mid).place (innermost mid).height
    caller_can =
        let n : ℕ = depth_of r.frames - 2 in
        let f : Frame = frame_at r.frames (depth_of r.frames - 2) in
        let g : Frame = record f { height = f.height + 1 } in
        let deep : depth_of mid - 1 ≡ depth_of r.frames - 2 = omega (arith, made.long) in
        let last : ◌≡◌ {A = Frame} (innermost mid) g = ap (λ (k : ℕ). slice_index_or mid.frames.items k no_frame) deep ∙ made.last in
        let one : suc f.height ≡ f.height + 1 = omega arith in
        let here : IsFrame functions g = record { inside = is_caller.inside; function = is_caller.function } in
        record {
          kept = kept;
          serial = rests.fits.serial;
          frames = λ k p. elim (cases_eq k (depth_of r.frames - 2)) [
            | inl same ↦ rw (same, made.last) here
            | inr differs ↦ let h : k < depth_of r.frames - 2 = omega (arith, made.long, differs, p) in rw (made.others k h) (rests.fits.frames k (omega (arith, h)))
          ];
          some = caller_there;
          high =
              subst (λ (q : Frame). HasHeightAt functions q q.place q.height) (sym last)
              (subst (λ (k : ℕ). HasHeightAt functions f f.place k) one waits_so);
          wait = λ k p.
              let h : k < depth_of r.frames - 2 = omega (arith, deep, p) in
              rw (made.others k h) ((stood_there functions callees r x rests).wait k (omega (arith, h)));
          stacks = subst (λ (k : ℕ). AreNeverHigher k functions) (sym same) rests.fits.stacks;
        }

-- so its frames run the code of their versions
pub runs_left : (all : List (List BareDef)) (versions : List ℕ) (image : CodeImage) (old new : Running) → 1 < depth_of old.frames
    → (let f = frame_at old.frames (depth_of old.frames - 2) in new.frames.frames.items ≡ slice_set (take (depth_of old.frames - 1) old.frames.frames.items) (depth_of old.frames - 2) (record f { height = f.height + 1 }))
    → RunsCode all versions image old → RunsCode all versions image new
runs_left all versions image old new called frames code =
    let P : Frame → Type 0 = IsOfVersion image.functions.items versions in
    let fs : List Frame = old.frames.frames.items in
    let f : Frame = frame_at old.frames (depth_of old.frames - 2) in
    let of : IsOfVersion image.functions.items versions f = All-get_or P fs (depth_of old.frames - 2) no_frame (omega (arith, called)) code.frames in
    let taller : P (record f { height = f.height + 1 }) = record { before = of.before; version = of.version; text = of.text } in
    record {
      image_is = code.image_is;
      frames =
          subst (All P) (sym frames)
          (All-set P (take (depth_of old.frames - 1) fs) (depth_of old.frames - 2) (record f { height = f.height + 1 }) taller (All-take P (depth_of old.frames - 1) fs code.frames));
    }
