-- The start of a run of code stands for the first world.
use Rattle.std.proofs.Common.{◌≡◌, ℕ, zero, suc, ◌-◌, List, [], ◌∷◌, length, replicate, Some, None, codes, refl, sym, ap, subst, ◌∙◌}
use Rattle.std.proofs.lemmas.List.{length-replicate}
use Rattle.std.proofs.lemmas.List.Elements.{All-head}
use Rattle.c_tree.specs.BareDef.{BareDef}
use Rattle.c_semantics.specs.Threads.{started}
use Rattle.source_model.specs.Worlds.{Limits, Slot, World, first_world, main_enter}
use Rattle.source_model.specs.Worlds as world
use Rattle.frame_bodies.specs.AcceptedTexts.{IsAccepted}
use Rattle.typed_runs.specs.TypedFrames.{FramesTyped}
use Rattle.typed_runs.specs.TypedRunLaws.{FirstWorldTyped}
use Rattle.typed_runs.specs.TypedWorlds.{SlotTyped, WorldTyped}
use Rattle.bytecode.specs.Words.{Naming}
use Rattle.object_store.specs.Naming.{IsNamed}
use Rattle.object_store.specs.Stores.{Store}
use Rattle.object_store.proofs.NamedObjects.{starts_named}
use Rattle.program_locks.specs.Locking.{holder_of}
use Rattle.code_runs.specs.CodeData.{Names, number_of, thread_word}
use Rattle.code_runs.specs.CodeThreads.{CodeSlot, CodeWorld, Free, Live, starting}
use Rattle.code_run_laws.specs.DataMatches.{DataMatches}
use Rattle.code_run_laws.specs.MoveLaws.{CodeStartsAlike, Starts}
use Rattle.code_run_laws.specs.ThreadMatches.{SlotsMatch, ThreadMatches}
use Rattle.code_run_laws.specs.WorldMatches.{Numbers}
use Rattle.code_run_laws.proofs.SlotsStanding.{slots_standing}
use Rattle.code_run_laws.proofs.FirstCells.{first_cells_ranged}

-- no object is named yet
abbrev first_naming : Naming
first_naming = record { object = λ n. 0; thread = thread_word }

none_at : (n k : ℕ) → holder_of (replicate n None) k ≡ None
none_at zero k = refl
none_at (suc n) zero = refl
none_at (suc n) (suc k) = none_at n k

free_slots : (texts : List (List BareDef)) (n : ℕ) → SlotsMatch texts [] first_naming (replicate n world.Free) (replicate n Free)
free_slots texts zero = tt
free_slots texts (suc n) = (tt, free_slots texts n)

module _ (text : List BareDef) (limits : Limits) (names : Names) (own : CodeWorld) (starts : Starts text limits names own) where
  abbrev first : World
  first = first_world text limits

  abbrev first_slots : List CodeSlot
  first_slots =
      Live (starting 0 (record { function = codes "main"; arguments = []; version = 1 })) ∷ replicate (limits.slots - 1) Free

  first_named : IsNamed first_naming.object [] own.shared.objects
  first_named = subst (IsNamed first_naming.object []) (sym starts.objects) (starts_named first_naming.object limits.objects)

  first_data : Numbers names text → DataMatches (text ∷ []) names first_naming [] first own.shared
  first_data numbers = record {
    rows = starts.rows;
    cells = λ name has. starts.cells first_naming name (numbers.cells name has);
    ranged = λ name has. first_cells_ranged text limits name;
    named = first_named;
    objects_match = tt;
    capacity = ap (λ (s : Store). s.capacity) starts.objects;
    mutexes = ap length starts.holders ∙ length-replicate (length names.mutexes) None;
    holders = λ name known.
        ap (λ hs. holder_of hs (number_of names.mutexes name)) starts.holders ∙ none_at (length names.mutexes) (number_of names.mutexes name);
    version = ap suc starts.version;
  }

  main_matches : FramesTyped (text ∷ []) [] (Some main_enter) []
      → ThreadMatches (text ∷ []) [] first_naming (started 0 main_enter)
      (starting 0 (record { function = codes "main"; arguments = []; version = 1 }))
  main_matches typed = record {
    serial = refl;
    depth = refl;
    next = (record { function = refl; version = refl; typed = typed.0; arguments = refl; ranged = tt }, typed.1);
  }

  first_typed : WorldTyped (text ∷ []) first → FramesTyped (text ∷ []) [] (Some main_enter) []
  first_typed typed =
      All-head (SlotTyped (text ∷ []) []) (world.Live (started 0 main_enter)) (replicate (limits.slots - 1) world.Free) (typed.slots refl)

  slots_match : WorldTyped (text ∷ []) first → SlotsMatch (text ∷ []) [] first_naming first.slots own.slots
  slots_match typed =
      subst (SlotsMatch (text ∷ []) [] first_naming first.slots) (sym starts.slots)
      (main_matches (first_typed typed), free_slots (text ∷ []) (limits.slots - 1))

  slot_count : length own.slots ≡ length first.slots
  slot_count =
      ap length starts.slots
      ∙ ap suc (length-replicate (limits.slots - 1) Free ∙ sym (length-replicate (limits.slots - 1) world.Free))

-- by what is known of the first world's types
pub starts_alike_by : FirstWorldTyped → CodeStartsAlike
starts_alike_by first_typed text limits names own accepted numbers starts = record {
  naming = first_naming;
  threads_named = λ r. refl;
  objects = [];
  shared = first_data text.definitions limits names own starts numbers;
  count = slot_count text.definitions limits names own starts;
  slots = λ e.
      slots_match text.definitions limits names own starts
      (first_typed text limits (All-head IsAccepted text [] accepted));
  standing =
      slots_standing (text.definitions ∷ []) [] first_naming (first text.definitions limits names own starts).slots own.slots
      (slots_match text.definitions limits names own starts (first_typed text limits (All-head IsAccepted text [] accepted)));
  threads = starts.threads;
  finish = starts.finish;
  used_well = refl;
}
