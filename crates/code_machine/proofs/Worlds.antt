-- The state of a run after a move, as the definitions have it.
use Rattle.std.proofs.Common.{◌≡◌, inl, inr, ℕ, List, ◌∷◌, ◌++◌, length, map, Some, None, refl, sym, subst, ap, ◌∙◌}
use Rattle.std.specs.Prelude.{option_map, slice_get, slice_set}
use Rattle.std.proofs.lemmas.List.{map-set}
use Rattle.c_tree.specs.BareDef.{BareDef}
use Rattle.c_semantics.specs.Stops.{Stop}
use Rattle.local_evaluation.specs.Pieces.{stop_of}
use Rattle.tree_code.specs.CodedPieces.{Stops}
use Rattle.code_runs.specs.CodeData.{Names}
use Rattle.code_runs.specs.CodeThreads.{CodeFrame, CodeSlot, CodeWorld, Free, Live, Rests}
use Rattle.code_runs.specs.CodeMoves.{StopMade, frame_code, stops}
use Rattle.code_runs.specs.CodeWaits.{Waits, WaitsNext, at_stop, ends_none, in_slot, stopping, waits}
use Rattle.word_frames.specs.Seen.{frames_of}
use Rattle.code_image.specs.declared.act.StopPlace.{StopPlace}
use Rattle.code_image.specs.declared.image.CodeImage.{CodeImage}
use Rattle.code_image.specs.Images.{names_in}
use Rattle.code_machine.specs.declared.running.Running.{Running}
use Rattle.code_machine.specs.declared.state.RunState.{RunState}
use Rattle.code_machine.specs.Seen.{finish_of, slot_by, slot_of, standing_with, thread_by, thread_of, words_of, world_of}
use Rattle.code_machine.specs.Steps.{CannotMove, Moved}
use Rattle.code_machine.specs.Stops.{CannotStop, RestsAt, at, resting}
use Rattle.code_machine.specs.Versions.{RunsCode, texts_by}
use Rattle.code_machine.proofs.Lists.{seen, seen_same}
use Rattle.code_machine.proofs.Acting.{stops_at}

-- the thread in a slot
pub slot_is : (image : CodeImage) (run : RunState) (slot : ℕ) (r : Running) → slice_get run.slots.items slot ≡ Some r
    → in_slot (world_of image run) slot ≡ slot_of image r
slot_is image run slot r there = seen (slot_of image) run.slots.items slot r Free there

-- one slot changed
pub slots_set : (image : CodeImage) (run : RunState) (items : List Running) (slot : ℕ) (r : Running) → items ≡ slice_set run.slots.items slot r
    → map (slot_of image) items ≡ slice_set (world_of image run).slots slot (slot_of image r)
slots_set image run items slot r is = ap (map (slot_of image)) is ∙ map-set (slot_of image) run.slots.items slot r

module _ (all : List (List BareDef)) (versions : List ℕ) (image : CodeImage) (run : RunState) (slot : ℕ) (x : StopPlace) (r : Running)
    (frame : CodeFrame) (below : List CodeFrame) (code : RunsCode all versions image r) (there : slice_get run.slots.items slot ≡ Some r)
    (rests : RestsAt image.functions.items (length image.callees.items) r x) (going : run.finish ≡ None)
    (frames : frames_of (words_of image) r.frames ≡ frame ∷ below) where
  abbrev texts : List (List BareDef)
  texts = texts_by all versions

  abbrev names : Names
  names = names_in all

  -- the thread
  pub thread_is : thread_of image r ≡ resting r frame below
  thread_is = ap (thread_by image r) rests.next ∙ ap (standing_with r) frames

  pub lives_so : in_slot (world_of image run) slot ≡ Live (resting r frame below)
  lives_so = slot_is image run slot r there ∙ ap (slot_by image r) rests.live ∙ ap Live thread_is

  -- it rests at the stop
  pub stop_there : Stops (frame_code texts frame) (stop_of (words_of image) x.stop) x.point frame.state.place x.after
  stop_there = stops_at all versions image r x code rests frame below frames

  -- and the stop is made
  pub moves_by : (new : CodeWorld) (printed before after : List ℕ)
      → at_stop names (world_of image run) slot (stop_of (words_of image) x.stop) frame.state.stack ≡ None
      → StopMade texts names (at slot r x frame below) (stop_of (words_of image) x.stop) (world_of image run) new printed
      → after ≡ before ++ printed → Moved texts names slot (world_of image run) new before after
  moves_by new printed before after ready made output = record {
    going = ap (option_map finish_of) going;
    thread = resting r frame below;
    lives = lives_so;
    ready =
        subst (WaitsNext texts names (world_of image run) slot (Rests frame)) ready
        (stopping frame (stop_of (words_of image) x.stop) x.point x.after stop_there);
    printed = printed;
    moves = stops frame (stop_of (words_of image) x.stop) x.point x.after new printed refl stop_there made;
    output = output;
  }

  -- or can't be
  pub stays_by : CannotStop names (world_of image run) (at slot r x frame below) (stop_of (words_of image) x.stop)
      → CannotMove texts names (world_of image run) slot
  stays_by (inl what) =
      inl (waits what.0
      (subst (λ (s : CodeSlot). Waits texts names (world_of image run) slot s (Some what.0)) (sym lives_so)
      (subst (WaitsNext texts names (world_of image run) slot (Rests frame)) what.1
      (stopping frame (stop_of (words_of image) x.stop) x.point x.after stop_there))))
  stays_by (inr none) =
      inl (ends_none (resting r frame below) lives_so (record {
        frame = frame;
        next = refl;
        point = x.point;
        after = x.after;
        stops = subst (λ (s : Stop). Stops (frame_code texts frame) s x.point frame.state.place x.after) none.0 stop_there;
        none = none.1;
      }))

-- the world after a change of one slot
pub world_set : (image : CodeImage) (old new : RunState) (slot : ℕ) (r : Running) → new.slots.items ≡ slice_set old.slots.items slot r
    → world_of image new ≡ record {
      shared = new.shared;
      slots = slice_set (world_of image old).slots slot (slot_of image r);
      threads = new.threads;
      finish = option_map finish_of new.finish;
    }
world_set image old new slot r set =
    ap (λ (ss : List CodeSlot). record {
      shared = new.shared;
      slots = ss;
      threads = new.threads;
      finish = option_map finish_of new.finish;
    }) (slots_set image old new.slots.items slot r set)

-- the slots after a change that isn't seen
pub slots_same : (image : CodeImage) (old new : RunState) (slot : ℕ) (before after : Running) → slice_get old.slots.items slot ≡ Some before
    → new.slots.items ≡ slice_set old.slots.items slot after → slot_of image after ≡ slot_of image before
    → (world_of image new).slots ≡ (world_of image old).slots
slots_same image old new slot before after there set same =
    ap (map (slot_of image)) set ∙ seen_same (slot_of image) old.slots.items slot before after there same
