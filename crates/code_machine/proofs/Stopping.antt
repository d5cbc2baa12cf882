-- What a stop that changes no other thread comes to, for the whole run.
use Rattle.std.proofs.Common.{◌≡◌, ℕ, List, ◌++◌, length, true, false, Option, Some, None, refl, sym, subst, ap, ◌∙◌}
use Rattle.std.specs.Prelude.{option_map, slice_get, slice_set}
use Rattle.std.proofs.lemmas.List.{append-nil}
use Rattle.c_tree.specs.BareDef.{BareDef}
use Rattle.local_evaluation.specs.Pieces.{stop_of}
use Rattle.code_runs.specs.CodeData.{Data}
use Rattle.code_runs.specs.CodeThreads.{CodeSlot, CodeWorld}
use Rattle.code_runs.specs.CodeMoves.{StopMade}
use Rattle.code_image.specs.declared.act.StopPlace.{StopPlace}
use Rattle.code_image.specs.declared.image.CodeImage.{CodeImage}
use Rattle.code_image.specs.Images.{names_in}
use Rattle.code_machine.specs.declared.running.Running.{Running}
use Rattle.code_machine.specs.declared.state.Finish.{Finish}
use Rattle.code_machine.specs.declared.state.RunState.{RunState}
use Rattle.code_machine.specs.declared.stops.Outcome.TheVariants.{Goes, Stays, Ends}
use Rattle.code_machine.specs.Seen.{finish_of, slot_of, words_of, world_of}
use Rattle.code_machine.specs.Steps.{StepsTo}
use Rattle.code_machine.specs.Stops.{RestsAt, Stopped, at, settled}
use Rattle.code_machine.specs.Versions.{RunsCode, texts_of}
use Rattle.code_machine.proofs.Worlds.{moves_by, slots_same, stays_by, world_set}

-- a world of parts
abbrev parts : Data → List CodeSlot → ℕ → Option Finish → CodeWorld
parts d ss n f = record { shared = d; slots = ss; threads = n; finish = option_map finish_of f }

module _ (all : List (List BareDef)) (image : CodeImage) (old new : RunState) (slot : ℕ) (x : StopPlace) (before after : Running)
    (code : RunsCode all old.versions.items image before) (there : slice_get old.slots.items slot ≡ Some before)
    (rests : RestsAt image.functions.items (length image.callees.items) before x)
    (going : old.finish ≡ None) (set : new.slots.items ≡ slice_set old.slots.items slot after) (threads : new.threads ≡ old.threads) where
  -- it goes on
  pub goes_on : new.finish ≡ old.finish
      → Stopped (texts_of all old) (names_in all) image slot x before after old.shared new.shared old.output.items new.output.items Goes
      → StepsTo all image slot old new true
  goes_on finish s =
      let ss : List CodeSlot = slice_set (world_of image old).slots slot (slot_of image after) in
      let world : world_of image new ≡ settled Goes slot (slot_of image after) new.shared (world_of image old) =
      world_set image old new slot after set
      ∙ ap (λ (n : ℕ). parts new.shared ss n new.finish) threads
      ∙ ap (λ (f : Option Finish). parts new.shared ss old.threads f) finish in
      let came = s.came (world_of image old) refl in
      moves_by all old.versions.items image old slot x before s.frame s.below code there rests going s.frames (world_of image new) s.printed
      old.output.items new.output.items came.0
      (subst (λ (v : CodeWorld). StopMade (texts_of all old) (names_in all) (at slot before x s.frame s.below) (stop_of (words_of image) x.stop) (world_of image old) v s.printed) (sym world) came.1)
      s.output

  -- it can't be made
  pub stays_there : new.finish ≡ old.finish
      → Stopped (texts_of all old) (names_in all) image slot x before after old.shared new.shared old.output.items new.output.items Stays
      → StepsTo all image slot old new false
  stays_there finish s =
      let came = s.came (world_of image old) refl in
      record {
        world =
            ap (λ (ss : List CodeSlot). parts new.shared ss new.threads new.finish) (slots_same image old new slot before after there set s.unchanged.0)
            ∙ ap (λ (d : Data). parts d (world_of image old).slots new.threads new.finish) s.unchanged.1
            ∙ ap (λ (n : ℕ). parts old.shared (world_of image old).slots n new.finish) threads
            ∙ ap (λ (f : Option Finish). parts old.shared (world_of image old).slots old.threads f) finish;
        output = s.output ∙ ap (λ (bs : List ℕ). old.output.items ++ bs) came.0 ∙ append-nil old.output.items;
        cannot = stays_by all old.versions.items image old slot x before s.frame s.below code there rests going s.frames came.1;
      }

  -- it ends the run
  pub ends_run : (f : Finish) → new.finish ≡ Some f
      → Stopped (texts_of all old) (names_in all) image slot x before after old.shared new.shared old.output.items new.output.items (Ends f)
      → StepsTo all image slot old new true
  ends_run f finish s =
      let world : world_of image new ≡ settled (Ends f) slot (slot_of image after) new.shared (world_of image old) =
      ap (λ (ss : List CodeSlot). parts new.shared ss new.threads new.finish) (slots_same image old new slot before after there set s.unchanged)
      ∙ ap (λ (n : ℕ). parts new.shared (world_of image old).slots n new.finish) threads
      ∙ ap (λ (o : Option Finish). parts new.shared (world_of image old).slots old.threads o) finish in
      let came = s.came (world_of image old) refl in
      moves_by all old.versions.items image old slot x before s.frame s.below code there rests going s.frames (world_of image new) s.printed
      old.output.items new.output.items came.0
      (subst (λ (v : CodeWorld). StopMade (texts_of all old) (names_in all) (at slot before x s.frame s.below) (stop_of (words_of image) x.stop) (world_of image old) v s.printed) (sym world) came.1)
      s.output
