-- A thread joins another.
use Rattle.std.proofs.Common.{◌≡◌, inl, ℕ, ◌-◌, ◌<◌, List, [], ◌∷◌, length, Option, Some, None, refl, sym, subst, ap, ◌∙◌}
use Rattle.std.specs.Prelude.{slice_get}
use Rattle.std.proofs.lemmas.List.{append-nil}
use Rattle.run_types.specs.declared.trap.TrapKind.TheVariants.{Join as NotJoined}
use Rattle.c_tree.specs.BareExpr.{Bytes}
use Rattle.c_tree.specs.BareDef.{BareDef}
use Rattle.c_semantics.specs.Stops.{Stop, Join}
use Rattle.source_model.specs.Waits.{ForThread}
use Rattle.version_laws.specs.Histories.{text_in}
use Rattle.resolved_tree.specs.Nodes.{Table}
use Rattle.local_evaluation.specs.Pieces.{stop_of}
use Rattle.thread_state.specs.Frames.{downward}
use Rattle.thread_state.specs.declared.steps.End.TheVariants.{Rests as RestsThere}
use Rattle.code_runs.specs.CodeData.{Names}
use Rattle.code_runs.specs.CodeThreads.{CodeFrame, CodeSlot, CodeWorld, Free, Live}
use Rattle.code_runs.specs.CodeMoves.{Joined, StopMade, going, left_from, with_slot, with_thread}
use Rattle.code_runs.specs.CodeWaits.{at_stop, joined, joined_from}
use Rattle.code_runs.specs.SharedStops.{One}
use Rattle.word_frames.specs.Seen.{depth_of, frame_of, frames_below, frames_of, innermost, stack_base}
use Rattle.word_frames.proofs.FrameLists.{innermost_first}
use Rattle.code_image.specs.declared.act.Act.TheVariants.{Join as JoinAct}
use Rattle.code_image.specs.declared.act.StopPlace.{StopPlace}
use Rattle.code_image.specs.declared.image.CodeImage.{CodeImage}
use Rattle.code_image.specs.Acts.{Acts, named}
use Rattle.code_image.specs.Images.{names_in}
use Rattle.code_machine.specs.declared.running.Running.{Running}
use Rattle.code_machine.specs.declared.state.Finish.TheVariants.{Trapped}
use Rattle.code_machine.specs.declared.state.RunState.{RunState}
use Rattle.code_machine.specs.Seen.{slot_by, slot_of, words_of, world_of}
use Rattle.code_machine.specs.Steps.{CannotMove, Moved}
use Rattle.code_machine.specs.Stops.{RestsAt, at, resting}
use Rattle.code_machine.specs.ThreadStops.{Took}
use Rattle.code_machine.specs.Versions.{RunsCode, texts_of}
use Rattle.code_machine.proofs.Spawning.{newest_is}
use Rattle.code_machine.proofs.Acting.{acts_at}
use Rattle.code_machine.proofs.Worlds.{moves_by, stays_by}

-- the stop that it makes
join_is : (t : Table) (names : Names) (text : List BareDef) (function : ℕ → Option Bytes) (s : Stop) → Acts t names text function s JoinAct → s ≡ Join
join_is t names text function Join e = refl
join_is t names text function _ e = absurd e

module _ (all : List (List BareDef)) (image : CodeImage) (old : RunState) (slot word : ℕ) (x : StopPlace) (r : Running)
    (frame : CodeFrame) (below : List CodeFrame) (under : List ℕ) (code : RunsCode all old.versions.items image r)
    (there : slice_get old.slots.items slot ≡ Some r) (rests : RestsAt image.functions.items (length image.callees.items) r x)
    (runs : old.finish ≡ None) (act : x.act ≡ JoinAct) (frames : frames_of (words_of image) r.frames ≡ frame ∷ below)
    (stack : frame.state.stack ≡ word ∷ under) where
  join : stop_of (words_of image) x.stop ≡ Join
  join =
      let t = words_of image in
      let callees : ℕ → Option Bytes = named t image.callees.items in
      let own : List BareDef = text_in (texts_of all old) frame.version in
      join_is t (names_in all) own callees (stop_of t x.stop)
      (subst (Acts t (names_in all) own callees (stop_of t x.stop)) act (acts_at all old.versions.items image r x code rests frame below frames))

  waiting_is : at_stop (names_in all) (world_of image old) slot (stop_of (words_of image) x.stop) frame.state.stack
      ≡ joined_from word 0 (world_of image old).slots
  waiting_is =
      ap (λ (q : Stop). at_stop (names_in all) (world_of image old) slot q frame.state.stack) join
      ∙ ap (joined (world_of image old).slots) stack

  -- it waits for the thread
  pub join_waits : (place : ℕ) → joined_from word 0 (world_of image old).slots ≡ Some (ForThread place) → CannotMove (texts_of all old) (names_in all) (world_of image old) slot
  join_waits place live = stays_by all old.versions.items image old slot x r frame below code there rests runs frames (inl (ForThread place, waiting_is ∙ live))

  -- it does not wait
  pub join_moves : (new : CodeWorld) (after : List ℕ) → joined_from word 0 (world_of image old).slots ≡ None
      → Joined (texts_of all old) (at slot r x frame below) (world_of image old) under (left_from word 0 (world_of image old).slots) new
      → after ≡ old.output.items → Moved (texts_of all old) (names_in all) slot (world_of image old) new old.output.items after
  join_moves new after none made output =
      let w = world_of image old in
      let stop : StopMade (texts_of all old) (names_in all) (at slot r x frame below) Join w new [] =
      (refl, subst (λ (st : List ℕ). One st (λ v rest. Joined (texts_of all old) (at slot r x frame below) w rest (left_from v 0 w.slots) new)) (sym stack) made) in
      moves_by all old.versions.items image old slot x r frame below code there rests runs frames new [] old.output.items after (waiting_is ∙ none)
      (subst (λ (q : Stop). StopMade (texts_of all old) (names_in all) (at slot r x frame below) q w new []) (sym join) stop)
      (output ∙ sym (append-nil old.output.items))

module _ (all : List (List BareDef)) (image : CodeImage) (old : RunState) (slot word : ℕ) (rest : List ℕ) (x : StopPlace) (r : Running)
    (code : RunsCode all old.versions.items image r) (there : slice_get old.slots.items slot ≡ Some r)
    (rests : RestsAt image.functions.items (length image.callees.items) r x)
    (runs : old.finish ≡ None) (act : x.act ≡ JoinAct)
    (read : downward r.frames.words.items (stack_base r.frames) (innermost r.frames).height ≡ word ∷ rest) where
  some_frame : 0 < depth_of r.frames
  some_frame = (rests.fits.stood RestsThere rests.next).some

  first_of_all : frames_of (words_of image) r.frames
      ≡ frame_of (words_of image) r.frames.highest_stack r.frames.words.items (depth_of r.frames - 1) (innermost r.frames)
      ∷ frames_below (words_of image) r.frames.highest_stack r.frames.words.items r.frames.frames.items (depth_of r.frames - 1)
  first_of_all = innermost_first (words_of image) r.frames.highest_stack r.frames.words.items r.frames.frames.items (depth_of r.frames) some_frame

  -- the thread lives
  pub waits_for_it : (place : ℕ) → joined_from word 0 (world_of image old).slots ≡ Some (ForThread place) → CannotMove (texts_of all old) (names_in all) (world_of image old) slot
  waits_for_it place live =
      join_waits all image old slot word x r
      (frame_of (words_of image) r.frames.highest_stack r.frames.words.items (depth_of r.frames - 1) (innermost r.frames))
      (frames_below (words_of image) r.frames.highest_stack r.frames.words.items r.frames.frames.items (depth_of r.frames - 1)) rest
      code there rests runs act first_of_all read place live

  -- there is no such thread
  pub none_joined : joined_from word 0 (world_of image old).slots ≡ None → left_from word 0 (world_of image old).slots ≡ None
      → Moved (texts_of all old) (names_in all) slot (world_of image old) (world_of image (record old { finish = Some (Trapped NotJoined slot) })) old.output.items old.output.items
  none_joined none nothing =
      let new : CodeWorld = world_of image (record old { finish = Some (Trapped NotJoined slot) }) in
      let frame : CodeFrame = frame_of (words_of image) r.frames.highest_stack r.frames.words.items (depth_of r.frames - 1) (innermost r.frames) in
      let below : List CodeFrame = frames_below (words_of image) r.frames.highest_stack r.frames.words.items r.frames.frames.items (depth_of r.frames - 1) in
      join_moves all image old slot word x r frame below rest code there rests runs act first_of_all read new old.output.items none
      (subst (λ (o : Option (ℕ × ℕ)). Joined (texts_of all old) (at slot r x frame below) (world_of image old) rest o new) (sym nothing) refl) refl

  -- it ended, and left a word
  pub one_joined : (new : RunState) (place left : ℕ) → joined_from word 0 (world_of image old).slots ≡ None
      → left_from word 0 (world_of image old).slots ≡ Some (place, left) → Took (texts_of all old) image r old new slot x place left
      → Moved (texts_of all old) (names_in all) slot (world_of image old) (world_of image new) old.output.items new.output.items
  one_joined new place left none found k =
      let a = k.answered in
      let same : a.newest ≡ word = newest_is (words_of image) r.frames a.frame a.below word a.newest rest a.under some_frame a.before read a.stack in
      let stack : a.frame.state.stack ≡ word ∷ a.under = a.stack ∙ ap (λ (v : ℕ). v ∷ a.under) same in
      let now : slot_of image k.after ≡ Live (resting r a.next a.below) = ap (slot_by image k.after) (k.stand ∙ rests.live) ∙ ap Live a.after in
      let freed : CodeWorld = with_slot place Free (world_of image old) in
      let world : world_of image new ≡ with_thread slot (going (resting r a.frame a.below) a.next) freed = k.world ∙ ap (λ (s : CodeSlot). with_slot slot s freed) now in
      join_moves all image old slot word x r a.frame a.below a.under code there rests runs act a.before stack (world_of image new) new.output.items none
      (subst (λ (o : Option (ℕ × ℕ)). Joined (texts_of all old) (at slot r x a.frame a.below) (world_of image old) a.under o (world_of image new)) (sym found)
      (a.next, (a.goes, world)))
      (ap (λ v. v.items) k.output)
