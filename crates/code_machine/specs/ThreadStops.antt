-- What stops change of other threads.
use Rattle.std.specs.Prelude.{◌≡◌, ℕ, suc, List, [], ◌∷◌, slice_get, Option, Some, None}
use Rattle.c_tree.specs.BareDef.{BareDef}
use Rattle.code_runs.specs.CodeData.{thread_word}
use Rattle.code_runs.specs.CodeThreads.{CodeEnter, Free, starting}
use Rattle.code_runs.specs.CodeMoves.{with_slot, with_thread}
use Rattle.code_image.specs.declared.act.StopPlace.{StopPlace}
use Rattle.code_image.specs.declared.image.CodeImage.{CodeImage}
use Rattle.code_machine.specs.declared.running.Running.{Running}
use Rattle.code_machine.specs.declared.running.Stand.TheVariants.{Free as FreeStand}
use Rattle.code_machine.specs.declared.state.RunState.{RunState}
use Rattle.code_machine.specs.Seen.{name_at, slot_of, world_of}
use Rattle.code_machine.specs.Versions.{SameVersions}
use Rattle.code_machine.specs.Stops.{Answered}

-- the enter of a thread that a frame of a version starts with an argument
abbrev pub first_enter : CodeImage → (version function argument : ℕ) → CodeEnter
first_enter image version function argument = record { function = name_at image function; arguments = argument ∷ []; version = version }

-- a thread was started in a slot, and its word is known
pub record StartedIn (image : CodeImage) (old new : RunState) (version function argument place word : ℕ) : Type 0 where
  pub world : world_of image new
      ≡ with_thread place (starting old.threads (first_enter image version function argument)) (record (world_of image old) { threads = suc old.threads })
  pub word_is : word ≡ thread_word (record { slot = place; serial = old.threads })
  pub others : (n : ℕ) → (n ≡ place → ⊥) → slice_get new.slots.items n ≡ slice_get old.slots.items n
  pub free : (r : Running) → slice_get old.slots.items place ≡ Some r → r.stand ≡ FreeStand
  pub finish : new.finish ≡ old.finish
  pub output : new.output ≡ old.output
  pub versions : SameVersions old new

-- a thread was started in a slot, if one is free
abbrev pub Started : CodeImage → RunState → RunState → (version function argument : ℕ) → Option ℕ → ℕ → Type 0
Started image old new version function argument None word = (new ≡ old) × (word ≡ 0)
Started image old new version function argument (Some place) word = StartedIn image old new version function argument place word

-- the word that a thread left came in place of the newest one of another thread, and its slot is free
pub record Took (texts : List (List BareDef)) (image : CodeImage) (before : Running) (old new : RunState) (slot : ℕ) (x : StopPlace) (place left : ℕ) : Type 0 where
  pub after : Running
  pub stand : after.stand ≡ before.stand
  pub answered : Answered texts image before after x left
  pub world : world_of image new ≡ with_slot slot (slot_of image after) (with_slot place Free (world_of image old))
  pub output : new.output ≡ old.output
